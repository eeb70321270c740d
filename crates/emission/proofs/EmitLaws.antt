-- The emit rule on bytes is that on judgements.
use Prim.Native.Nat.{ℕ, suc, ◌+◌, ◌≤◌}
use native.Mathlib.Omega.{arith}
use native.Mathlib.Nat.{add-zero, zero-add}
use mathlib.Core.Path.{◌≡◌, refl, sym, ap, ap₂, ◌∙◌, subst}
use mathlib.Core.Option.{Option, none, some}
use mathlib.Core.List.{List, [], ◌∷◌, ◌++◌}
use lib.ListN.{length, take}
use borrow.Author.Tests.{le-leb, lt-leb}
use Rattle.calculus.specs.Judgement.{Step}
use Rattle.calculus.specs.Table.{predicate, entry_of}
use Rattle.calculus.specs.Record.{size, ledger_bytes, FormedStep, FormedFrom, Holds}
use Rattle.calculus.specs.Emit.{find, emit, within, run}
use Rattle.calculus.proofs.Records.{ledger-length}
use Rattle.kinds.specs.Kinds.{number_of, entry_as}
use Rattle.kinds.specs.declared.Entry.{Entry as Listed}
use Rattle.kinds.proofs.KindLaws.{listed_same, not-unlisted}
use Rattle.ledger.specs.Ledger.{steps_of, Led}
use Rattle.index.specs.Finding.{find_bytes, found_as}
use Rattle.index.proofs.SameLaws.{find-same, found_some, found_none}
use Rattle.std.specs.Prelude.{Option as Answer, Some, None, Ok, Err}
use Rattle.emission.specs.Emitting.{StandsFor, Appends, Ran, Emission, EmissionAs}

-- A well-formed step more keeps a ledger well formed.
formed-snoc : (k : ℕ) (L : List Step) (s : Step) → FormedFrom k L → FormedStep (k + length L) s → FormedFrom k (L ++ s ∷ [])
formed-snoc k [] s f g = (subst (λ (n : ℕ). FormedStep n s) (add-zero k) g, tt)
formed-snoc k (r ∷ L) s f g = let e : k + length (r ∷ L) ≡ suc k + length L = omega arith in (f.0, formed-snoc (suc k) L s f.1 (subst (λ (n : ℕ). FormedStep n s) e g))

pub holds_more : {l l' : List ℕ} {L : List Step} → Holds l L → (s : Step) → FormedStep (length L) s → size (L ++ s ∷ []) ≤ length l → l' ≡ ledger_bytes (length l) (L ++ s ∷ [])
    → (length l' ≡ length l) × Holds l' (L ++ s ∷ [])
holds_more {l} {l'} {L} h s f b e =
    let n : length l' ≡ length l = ap length e ∙ ledger-length (length l) (L ++ s ∷ []) b in
    let g : FormedStep (0 + length L) s = subst (λ (k : ℕ). FormedStep k s) (sym (zero-add (length L))) f in
    (n, record { bytes = e ∙ ap (λ (k : ℕ). ledger_bytes k (L ++ s ∷ [])) (sym n); fits = omega arith; small = omega (arith, h.small); formed = formed-snoc 0 L s h.formed g })

-- What the search on bytes finds is what the emit rule asks for.
asked : {l : List ℕ} → Led l → (s : Step) → FormedStep (length (steps_of l)) s → (p : ℕ) (is x : List ℕ) (kind : ℕ) → StandsFor s kind is x → number_of (predicate s.judgement) ≡ p
    → (o : Option ℕ) → find_bytes p x (steps_of l) ≡ o → find s.judgement (steps_of l) ≡ o
asked {l} h s f p is x kind t e o i =
    sym (find-same s.judgement f.limits 0 (steps_of l) h.formed) ∙ ap₂ (λ (q : ℕ) (y : List ℕ). find_bytes q y (steps_of l)) e t.judges ∙ i

-- The emit rule where the judgement stands already.
pub emit-found : {l : List ℕ} → Led l → (kind p i : ℕ) (is x : List ℕ) → Ok i ≡ found_as (find_bytes p x (steps_of l)) (length (steps_of l))
    → (s : Step) → FormedStep (length (steps_of l)) s → StandsFor s kind is x → number_of (predicate s.judgement) ≡ p
    → Ran l (run (within (length l)) (emit s.kind s.references s.judgement) (steps_of l)) (Some i) l
unfolding run
emit-found {l} h kind p i is x e s f t q = rw (asked h s f p is x kind t q (some i) (found_some _ _ i e)) (refl, refl, h)

-- Where it is new and there is room, and where there is none.
pub emit-new : {l : List ℕ} → Led l → (kind p i : ℕ) (is x l' : List ℕ) → Err i ≡ found_as (find_bytes p x (steps_of l)) (length (steps_of l))
    → (at : ℕ) → ((s : Step) → StandsFor s kind is x → Appends l s (Some at) l')
    → (s : Step) → FormedStep (length (steps_of l)) s → StandsFor s kind is x → number_of (predicate s.judgement) ≡ p
    → Ran l (run (within (length l)) (emit s.kind s.references s.judgement) (steps_of l)) (Some i) l'
unfolding run
emit-new {l} h kind p i is x l' e at a s f t q =
    let n = found_none _ _ i e in
    let b = a s t in
    let m = holds_more h s f b.0 b.1 in
    rw (asked h s f p is x kind t q none n.0, le-leb (size (steps_of l ++ s ∷ [])) (length l) b.0) (n.1, m.0, m.1)

pub emit-full : {l : List ℕ} → Led l → (kind p i : ℕ) (is x l' : List ℕ) → Err i ≡ found_as (find_bytes p x (steps_of l)) (length (steps_of l))
    → ((s : Step) → StandsFor s kind is x → Appends l s None l')
    → (s : Step) → FormedStep (length (steps_of l)) s → StandsFor s kind is x → number_of (predicate s.judgement) ≡ p
    → Ran l (run (within (length l)) (emit s.kind s.references s.judgement) (steps_of l)) None l'
unfolding run
emit-full {l} h kind p i is x l' e a s f t q =
    let b = a s t in
    rw (asked h s f p is x kind t q none (found_none _ _ i e).0, lt-leb (size (steps_of l ++ s ∷ [])) (length l) b.0) b.1

-- By the entry of the kind: as many references as it says.
pub emit-as : (l l' : List ℕ) (kind : ℕ) (n : Listed) (references x : List ℕ) (r : Answer ℕ) → Some n ≡ entry_as (entry_of kind) → EmissionAs l kind (take n.references references) n.predicate x r l' → Emission l kind references x r l'
emit-as l l' kind n references x r e h s f t =
    let g = listed_same (e ∙ ap (λ (k : ℕ). entry_as (entry_of k)) (sym t.kinds) ∙ ap entry_as f.listed.listed) in
    h s f (record { kinds = t.kinds; refers = t.refers ∙ ap (λ (m : ℕ). take m references) (sym g.0); judges = t.judges }) (sym g.1)

-- No step is of a kind that the table does not list.
pub emit-no-kind : (l l' : List ℕ) (kind : ℕ) (references x : List ℕ) (r : Answer ℕ) → None ≡ entry_as (entry_of kind) → Emission l kind references x r l'
emit-no-kind l l' kind references x r e s f t = not-unlisted (e ∙ ap (λ (k : ℕ). entry_as (entry_of k)) (sym t.kinds) ∙ ap entry_as f.listed.listed)
