-- The next turn, by the answers of the tests.
use Prim.Native.Nat.{ℕ, suc, ◌≤◌, ◌<◌}
use native.Mathlib.Omega.{arith}
use mathlib.Core.Path.{◌≡◌, refl, sym, ap, ◌∙◌, subst}
use mathlib.Core.Bool.{Bool, true, false, false≢true}
use mathlib.Core.List.{List, [], ◌∷◌, Memᴰ}
use lib.ListN.{length, get_or, take, drop}
use Rattle.formula.specs.declared.Sort.TheVariants.{Faces}
use Rattle.formula.specs.Formula.{lo, hi, Face, ff, ft, at, fand, for}
use Rattle.formula.specs.Bytes.{encode_face, bound_face}
use Rattle.formula.specs.Answers.{part_at, tree_of}
use Rattle.calculus.specs.Search.{Move, by-top, by-hit, by-absurd, by-clash, stuck, ◌else◌, provided, has, try_top, try_clash, split_of, try_left, try_right, move}
use Rattle.calculus.specs.Record.{faces_bytes, bound_context}
use Rattle.calculus.proofs.Searching.{Moves, is-clash, Refuted, move-view}
use Rattle.steps.specs.Trees.{Is}
use Rattle.steps.proofs.TreeLaws.{tree-of}
use Rattle.std.specs.Prelude.{Option, None, Some}
use Rattle.contexts.specs.Contexts.{Are, At}
use Rattle.contexts.specs.Moves.{clash_by, compound, split_at, Compound, FirstCompound}
use Rattle.search.specs.declared.turns.Turn.{Turn}
use Rattle.search.specs.declared.turns.Turn.TheVariants.{Top, Hit, Absurd, Opposed, AndLeft, OrLeft, AndRight, OrRight, Stuck}
use Rattle.search.specs.Turns.{Parts, Split, Turns, tops, hits, absurds, opposes, splits-and, splits-or, asks_both, asks-either, stays}
use Rattle.contexts.proofs.LeftLaws.{at_of}
use Rattle.contexts.proofs.MoveLaws.{kind, first_byte}
use Rattle.contexts.proofs.ClosingLaws.{ff-is}

-- A face by its first byte.
top-kind : (x : Face) → kind x ≡ 1 → x ≡ ft
unfolding encode_face
top-kind ff h = absurd (omega arith)
top-kind ft h = refl
top-kind (at lo n) h = absurd (omega arith)
top-kind (at hi n) h = absurd (omega arith)
top-kind (fand y z) h = absurd (omega arith)
top-kind (for y z) h = absurd (omega arith)

not_top : (x : Face) → (kind x ≡ 1 → ⊥) → try_top x ≡ stuck
unfolding encode_face
not_top ff h = refl
not_top ft h = absurd (h refl)
not_top (at e n) h = refl
not_top (fand y z) h = refl
not_top (for y z) h = refl

and-kind : (x : Face) → kind x ≡ 4 → Parts fand x
unfolding encode_face
and-kind ff h = absurd (omega arith)
and-kind ft h = absurd (omega arith)
and-kind (at lo n) h = absurd (omega arith)
and-kind (at hi n) h = absurd (omega arith)
and-kind (fand y z) h = record { left = y; right = z; whole = refl }
and-kind (for y z) h = absurd (omega arith)

or-kind : (x : Face) → kind x ≡ 5 → Parts for x
unfolding encode_face
or-kind ff h = absurd (omega arith)
or-kind ft h = absurd (omega arith)
or-kind (at lo n) h = absurd (omega arith)
or-kind (at hi n) h = absurd (omega arith)
or-kind (fand y z) h = absurd (omega arith)
or-kind (for y z) h = record { left = y; right = z; whole = refl }

-- A compound that is no fand is a for.
or_else : (x : Face) → compound x ≡ true → (kind x ≡ 4 → ⊥) → Parts for x
unfolding encode_face
or_else ff c h = absurd (false≢true c)
or_else ft c h = absurd (false≢true c)
or_else (at e n) c h = absurd (false≢true c)
or_else (fand y z) c h = absurd (h refl)
or_else (for y z) c h = record { left = y; right = z; whole = refl }

neither : (x : Face) → (kind x ≡ 4 → ⊥) → (kind x ≡ 5 → ⊥) → try_right x ≡ stuck
unfolding encode_face
neither ff h i = refl
neither ft h i = refl
neither (at e n) h i = refl
neither (fand y z) h i = absurd (h refl)
neither (for y z) h i = absurd (i refl)

-- The splits ------------------------------------------------------------------------------------

split-else : (b : List Face) (f : Face) (a : List Face) (m : Move) → compound f ≡ true → (split_of b f a else m) ≡ split_of b f a
split-else b ff a m e = absurd (false≢true e)
split-else b ft a m e = absurd (false≢true e)
split-else b (at s n) a m e = absurd (false≢true e)
split-else b (fand x y) a m e = refl
split-else b (for x y) a m e = refl

module _ {G : List Face} {i n : ℕ} {g : List ℕ} (w : Are G n g) (f : Compound G i) {place : ℕ} {x : List ℕ} (q : Face) (e : place ≡ length (faces_bytes (take i G))) (p : x ≡ part_at Faces g place) where
  pub compound-at : At G i x place n g
  compound-at = at_of w (omega (arith, f.inside, w.count)) e p

  byte : get_or x 0 0 ≡ kind (get_or G i ff)
  byte = first_byte compound-at.out

  left_split : (try_left [] G else try_right q) ≡ split_at [] G i
  left_split = ap (λ (m : Move). m else try_right q) (f.splits []) ∙ split-else (take i G) (get_or G i ff) (drop (suc i) G) (try_right q) f.there

  pub and-left-turn : get_or x 0 0 ≡ 4 → Turns G q (try_left [] G else try_right q) (AndLeft i place)
  and-left-turn k = splits-and (record { inside = f.inside; begins = e; parts = and-kind (get_or G i ff) (sym byte ∙ k) }) left_split

  pub or-left-turn : (get_or x 0 0 ≡ 4 → ⊥) → Turns G q (try_left [] G else try_right q) (OrLeft i place)
  or-left-turn k = splits-or (record { inside = f.inside; begins = e; parts = or_else (get_or G i ff) f.there (λ c. k (byte ∙ c)) }) left_split

module _ (G : List Face) (f : FirstCompound G None) {q : Face} {y : List ℕ} (a : Is Faces q y) where
  right-split : (try_left [] G else try_right q) ≡ try_right q
  right-split = ap (λ (m : Move). m else try_right q) (f [])

  pub and-right-turn : get_or y 0 0 ≡ 4 → Turns G q (try_left [] G else try_right q) AndRight
  and-right-turn k = asks_both (and-kind q (sym (first_byte a) ∙ k)) right-split

  pub or-right-turn : get_or y 0 0 ≡ 5 → Turns G q (try_left [] G else try_right q) OrRight
  or-right-turn k = asks-either (or-kind q (sym (first_byte a) ∙ k)) right-split

  pub stuck-turn : (get_or y 0 0 ≡ 4 → ⊥) → (get_or y 0 0 ≡ 5 → ⊥) → Turns G q (try_left [] G else try_right q) Stuck
  stuck-turn k j = stays (right-split ∙ neither q (λ c. k (first_byte a ∙ c)) (λ c. j (first_byte a ∙ c)))

-- The tries in their order -----------------------------------------------------------------------

low-member : {f : Face} {G : List Face} → Memᴰ f G → bound_face f ≤ bound_context G
unfolding bound_context
low-member (Memᴰ.head e) = omega (arith, ap bound_face e)
low-member (Memᴰ.tail m) = omega (arith, low-member m)

literal-low : {k : ℕ} {G : List Face} → Memᴰ (at lo k) G → suc k ≤ bound_context G
unfolding bound_face
literal-low m = low-member m

-- The dimension of a clash in a context that keeps the limits.
clash-low : {G : List Face} {n : ℕ} {g : List ℕ} {k : ℕ} (q : Face) → Are G n g → move G q ≡ by-clash k → k < 255
clash-low {G} {k = k} q w e = go (subst (Moves (Refuted G q) G q) e (move-view G q))
  where
    go : Moves (Refuted G q) G q (by-clash k) → k < 255
    go (is-clash m o) = omega (arith, literal-low m, w.low)

module _ {G : List Face} {n : ℕ} {g : List ℕ} {q : Face} {y : List ℕ} (w : Are G n g) (a : Is Faces q y) where
  pub top-turn : get_or y 0 0 ≡ 1 → Turns G q (move G q) Top
  unfolding move
  top-turn e =
      let t : q ≡ ft = top-kind q (sym (first_byte a) ∙ e) in
      tops t (ap (λ (m : Move). m else provided (has q G) by-hit else provided (has ff G) by-absurd else try_clash G G else try_left [] G else try_right q) (ap try_top t))

  module _ (e : get_or y 0 0 ≡ 1 → ⊥) where
    open-top : try_top q ≡ stuck
    open-top = not_top q (λ c. e (first_byte a ∙ c))

    pub hit-turn : {r : Bool} → r ≡ has q G → r ≡ true → Turns G q (move G q) Hit
    unfolding move
    hit-turn h t = let u : has q G ≡ true = sym h ∙ t in hits (rw (open-top, u))

    module _ {r : Bool} (h : r ≡ has q G) (f : r ≡ false) {z : List ℕ} {s : Bool} (o : z ≡ 0 ∷ []) (h₂ : s ≡ has (tree_of Faces z) G) where
      miss : has q G ≡ false
      miss = sym h ∙ f

      lies : has ff G ≡ s
      lies = sym (h₂ ∙ ap (λ (x : Face). has x G) (tree-of (ff-is o)))

      pub absurd-turn : s ≡ true → Turns G q (move G q) Absurd
      unfolding move
      absurd-turn t = let u : has ff G ≡ true = lies ∙ t in let v = open-top in let x = miss in absurds (rw (v, x, u))

      module _ (t : s ≡ false) where
        rest : (c : Option ℕ) → clash_by c ≡ try_clash G G → move G q ≡ (clash_by c else try_left [] G else try_right q)
        unfolding move
        rest c h₃ = let u : has ff G ≡ false = lies ∙ t in let v = open-top in let x = miss in let i = sym h₃ in rw (v, x, u, i)

        pub opposed-turn : {c : Option ℕ} {k : ℕ} → clash_by c ≡ try_clash G G → c ≡ Some k → Turns G q (move G q) (Opposed k)
        opposed-turn {c} {k} h₃ i = let m : move G q ≡ by-clash k = rest c h₃ ∙ ap (λ (x : Option ℕ). clash_by x else try_left [] G else try_right q) i in opposes (clash-low q w m) m

        pub split-turn : {c : Option ℕ} {k : Turn} → clash_by c ≡ try_clash G G → c ≡ None → Turns G q (try_left [] G else try_right q) k → Turns G q (move G q) k
        split-turn {c} {k} h₃ i v =
            subst (λ (m : Move). Turns G q m k) (sym (rest c h₃ ∙ ap (λ (x : Option ℕ). clash_by x else try_left [] G else try_right q) i)) v

-- What a turn says --------------------------------------------------------------------------------

abbrev pub Says : List Face → Face → Move → Turn → Type 0
Says G g m Top = (g ≡ ft) × (m ≡ by-top)
Says G g m Hit = m ≡ by-hit
Says G g m Absurd = m ≡ by-absurd
Says G g m (Opposed k) = (k < 255) × (m ≡ by-clash k)
Says G g m (AndLeft i p) = Split fand G i p × (m ≡ split_at [] G i)
Says G g m (OrLeft i p) = Split for G i p × (m ≡ split_at [] G i)
Says G g m AndRight = Parts fand g × (m ≡ try_right g)
Says G g m OrRight = Parts for g × (m ≡ try_right g)
Says G g m Stuck = m ≡ stuck

says : {G : List Face} {g : Face} {m : Move} {r : Turn} → Turns G g m r → Says G g m r
says (tops a b) = (a, b)
says (hits b) = b
says (absurds b) = b
says (opposes a b) = (a, b)
says (splits-and a b) = (a, b)
says (splits-or a b) = (a, b)
says (asks_both a b) = (a, b)
says (asks-either a b) = (a, b)
says (stays b) = b

pub told : {G : List Face} {g : Face} {m : Move} {r s : Turn} → Turns G g m r → r ≡ s → Says G g m s
told {G} {g} {m} v e = subst (Says G g m) e (says v)
