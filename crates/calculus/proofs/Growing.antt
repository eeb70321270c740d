-- A ledger that a run makes longer: each step appended follows and keeps the limits, so a valid ledger stays valid and a well-formed one well formed.
use mathlib.Core.Path.{◌≡◌, refl, sym, ◌∙◌, ap, ap₂, subst}
use mathlib.Core.Bool.{Bool, true, false, and-eq-true_iff}
use mathlib.Core.Option.{Option, none, some}
use mathlib.Core.List.{List, [], ◌∷◌, ◌++◌, map, append_assoc, append-nil}
use Prim.Native.Nat.{ℕ, suc, ◌+◌, ◌≤◌, ◌<◌}
use native.Mathlib.Omega.{arith}
use borrow.Author.Tests.{le-leb}
use native.Mathlib.Decide.{dec_lt}
use lib.ListN.{length, take, length-append}
use lib.Seq.{take_all, take-append-le}
use Rattle.formula.specs.Formula.{Interval, i0, i1}
use Rattle.formula.specs.Bytes.{nodes, bound, nodes_interval, bound_interval, max_nodes, max_bound}
use Rattle.calculus.specs.Judgement.{Judgement, Step}
use Rattle.calculus.specs.Table.{predicate}
use Rattle.calculus.specs.Rules.{Rule, judgement_at, AllBelow, Follows, Valid}
use Rattle.calculus.specs.Search.{nodes_context}
use Rattle.calculus.specs.Record.{Field, number, index, context, end, formula, Value, bound_context, allowed, fields, Values, operands, all_allowed, FormedStep, FormedFrom, WellFormed}
use Rattle.calculus.specs.Emit.{Failure, find, Outcome, done, stopped, full, append, emitted, emit, next, instead, run}
use Rattle.calculus.proofs.Tables.{follows-listed}
use Rattle.calculus.proofs.Ledgers.{valid-append}
use Rattle.calculus.proofs.Fields.{Allowed}
use Rattle.calculus.proofs.Finding.{find-lowest, find-extend, find-new}

-- Limits as inequalities -----------------------------------------------------------------

pub data IsEnd : Interval → Type 0 where
  is-i0 : IsEnd i0
  is-i1 : IsEnd i1

abbrev pub Keeps : (c : Field) → Value c → Type 0
Keeps number n = n ≤ max_bound
Keeps index k = k < max_bound
Keeps context G = (nodes_context G ≤ max_nodes) × (bound_context G ≤ max_bound)
Keeps end r = IsEnd r
Keeps (formula s) t = (nodes s t ≤ max_nodes) × (bound s t ≤ max_bound)

abbrev pub AllKeep : (cs : List Field) → Values cs → Type 0
AllKeep [] xs = Unit {0}
AllKeep (c ∷ cs) xs = Keeps c xs.0 × AllKeep cs xs.1

-- The operands of the judgement keep the limits.
abbrev pub Limited : Judgement → Type 0
Limited j = AllKeep (fields (predicate j)) (operands j)

end-allowed : {r : Interval} → IsEnd r → allowed end r ≡ true
unfolding nodes_interval bound_interval
end-allowed is-i0 = refl
end-allowed is-i1 = refl

keeps-allowed : (c : Field) (x : Value c) → Keeps c x → allowed c x ≡ true
keeps-allowed number n h = le-leb n max_bound h
keeps-allowed index k h = le-leb (suc k) max_bound h
keeps-allowed context G h = (and-eq-true_iff _ _).1 (le-leb _ max_nodes h.0, le-leb _ max_bound h.1)
keeps-allowed end r h = end-allowed h
keeps-allowed (formula s) t h = (and-eq-true_iff _ _).1 (le-leb _ max_nodes h.0, le-leb _ max_bound h.1)

all-keep-allowed : (cs : List Field) (xs : Values cs) → AllKeep cs xs → all_allowed cs xs ≡ true
all-keep-allowed [] xs h = refl
all-keep-allowed (c ∷ cs) xs h = (and-eq-true_iff (allowed c xs.0) (all_allowed cs xs.1)).1 (keeps-allowed c xs.0 h.0, all-keep-allowed cs xs.1 h.1)

-- A judgement that keeps the limits is allowed.
pub limited-allowed : (j : Judgement) → Limited j → Allowed j
limited-allowed j h = all-keep-allowed (fields (predicate j)) (operands j) h

-- Longer ledgers -----------------------------------------------------------------------------

-- The second ledger has the steps of the first in front.
pub record Extends (L M : List Step) : Type 0 where
  pub more : List Step
  pub whole : M ≡ L ++ more

pub extends-refl : (L : List Step) → Extends L L
extends-refl L = record { more = []; whole = sym (append-nil L) }

pub extends-trans : {L M N : List Step} → Extends L M → Extends M N → Extends L N
extends-trans {L} x y = record { more = x.more ++ y.more; whole = y.whole ∙ ap (λ (l : List Step). l ++ y.more) x.whole ∙ append_assoc L x.more y.more }

-- What was found is found in a ledger that extends it.
pub keep : {L M : List Step} (j : Judgement) (n : ℕ) → Extends L M → find j L ≡ some n → find j M ≡ some n
keep {L} j n x e = ap (find j) x.whole ∙ find-extend j L x.more n e

-- The second ledger is the first with steps appended that follow and keep the limits.
pub data Grown (L : List Step) : List Step → Type 0 where
  as_it_was : Grown L L
  one_more : {M : List Step} {s : Step} → Grown L M → Follows M (length M) s → Limited s.judgement → Grown L (M ++ s ∷ [])

pub grown-trans : {L M N : List Step} → Grown L M → Grown M N → Grown L N
grown-trans g as_it_was = g
grown-trans g (one_more h f l) = one_more (grown-trans g h) f l

pub grown-extends : {L M : List Step} → Grown L M → Extends L M
grown-extends {L} as_it_was = extends-refl L
grown-extends (one_more {s} g f l) = extends-trans (grown-extends g) (record { more = s ∷ []; whole = refl })

-- The steps in front of such a ledger are such a ledger, where they have those of L.
grown-take : {L M : List Step} → Grown L M → (n : ℕ) → length L ≤ n → Grown L (take n M)
grown-take {L} as_it_was n h = subst (Grown L) (sym (take_all n L h)) as_it_was
grown-take {L} (one_more {M} {s} g f l) n h = go (dec_lt (length M) n) (grown-take g n h)
  where
    go : Dec (length M < n) → Grown L (take n M) → Grown L (take n (M ++ s ∷ []))
    go (yes p) t = subst (Grown L) (sym (take_all n (M ++ s ∷ []) (omega (arith, length-append M (s ∷ []))))) (one_more g f l)
    go (no p) t = let q : n ≤ length M = omega arith in subst (Grown L) (sym (take-append-le n M (s ∷ []) q)) t

pub grown-front : {L Z M : List Step} → Extends L Z → Extends Z M → Grown L M → Grown L Z
grown-front {L} {Z} {M} x y g =
    let e : take (length Z) M ≡ Z = ap (take (length Z)) y.whole ∙ take-append-le (length Z) Z y.more (omega arith) ∙ take_all (length Z) Z (omega arith) in
    subst (Grown L) e (grown-take g (length Z) (omega (arith, ap length x.whole, length-append L x.more)))

-- A valid ledger stays valid.
pub grown-valid : {L M : List Step} → Grown L M → Valid L → Valid M
grown-valid as_it_was v = v
grown-valid (one_more {M} {s} g f l) v = valid-append M s (grown-valid g v) f

formed-append : (i n : ℕ) (L : List Step) (s : Step) → n ≡ i + length L → FormedFrom i L → FormedStep n s → FormedFrom i (L ++ s ∷ [])
formed-append i n [] s e f g = let h : n ≡ i = omega arith in (rw h at g, tt)
formed-append i n (r ∷ L) s e f g = (f.0, formed-append (suc i) n L s (omega arith) f.1 g)

-- A well-formed ledger stays well formed.
pub grown-formed : {L M : List Step} → Grown L M → WellFormed L → WellFormed M
grown-formed as_it_was w = w
grown-formed (one_more {M} {s} g f l) w =
    formed-append 0 (length M) M s (omega arith) (grown-formed g w) (record { listed = follows-listed f; earlier = f.earlier; limits = limited-allowed s.judgement l })

-- Runs ---------------------------------------------------------------------------------------------

-- How a run for the judgement j ends, from the ledger L.
pub data Good (j : Judgement) (L : List Step) : Outcome → Type 0 where
  claims : {n : ℕ} {M : List Step} → Grown L M → find j M ≡ some n → Good j L (done n M)
  leaves : {e : Failure} {M : List Step} → Grown L M → Good j L (stopped e M)
  no_room : Good j L full

farther : {j : Judgement} {L M : List Step} {o : Outcome} → Grown L M → Good j M o → Good j L o
farther g (claims h f) = claims (grown-trans g h) f
farther g (leaves h) = leaves (grown-trans g h)
farther g no_room = no_room

-- One run after another.
pub next-good : {i j : Judgement} {L : List Step} {o : Outcome} {k : ℕ → List Step → Outcome} → Good i L o
    → ((n : ℕ) (M : List Step) → Extends L M → find i M ≡ some n → Good j M (k n M)) → Good j L (next o k)
next-good (claims {n} {M} g f) h = farther g (h n M (grown-extends g) f)
next-good (leaves g) h = leaves g
next-good no_room h = no_room

-- One run, and where it stops another.
pub instead-good : {i j : Judgement} {L : List Step} {o : Outcome} {k : ℕ → List Step → Outcome} {r : List Step → Outcome} → Good i L o
    → ((n : ℕ) (M : List Step) → Extends L M → find i M ≡ some n → Good j M (k n M)) → ((M : List Step) → Good j M (r M)) → Good j L (instead o k r)
instead-good (claims {n} {M} g f) h w = farther g (h n M (grown-extends g) f)
instead-good (leaves {M} g) h w = farther g (w M)
instead-good no_room h w = no_room

-- The references of a step, with the judgements that are found there.
infixr 60 ◌and◌
pub data Found (L : List Step) : List ℕ → List Judgement → Type 0 where
  end_of : Found L [] []
  ◌and◌ : {i : ℕ} {is : List ℕ} {j : Judgement} {js : List Judgement} → find j L ≡ some i → Found L is js → Found L (i ∷ is) (j ∷ js)

found_below : {L : List Step} {is : List ℕ} {js : List Judgement} → Found L is js → AllBelow (length L) is
found_below end_of = tt
found_below {L} (◌and◌ {i} {j} f t) = ((find-lowest j L i f).inside, found_below t)

found-judgements : {L : List Step} {is : List ℕ} {js : List Judgement} → Found L is js → map (judgement_at L) is ≡ js
found-judgements end_of = refl
found-judgements {L} (◌and◌ {i} {j} f t) = ap₂ (λ (x : Judgement) (l : List Judgement). x ∷ l) (find-lowest j L i f).same (found-judgements t)

-- Emitting a step by a rule from judgements that were found.
pub emit-good : (room : List Step → Bool) {k : ℕ} {is : List ℕ} {js : List Judgement} {j : Judgement} {L : List Step}
    → Found L is js → Rule k js j → Limited j → Good j L (run room (emit k is j) L)
unfolding run
emit-good room {k} {is} {js} {j} {L} h r l = go (find j L) refl
  where
    s : Step
    s = record { kind = k; references = is; judgement = j }

    appends : (b : Bool) → find j L ≡ none → Good j L (append b L s)
    appends true e = claims (one_more {s = s} as_it_was (record { earlier = found_below h; rule = rw (found-judgements h) r }) l) (find-new L s e)
    appends false e = no_room

    go : (o : Option ℕ) → find j L ≡ o → Good j L (emitted room L s o)
    go (some n) e = claims as_it_was e
    go none e = appends (room (L ++ s ∷ [])) e
