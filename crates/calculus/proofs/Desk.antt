-- The desk's verdict is a function of the steps: whether a step follows is decided, and there is exactly one verdict.
use mathlib.Core.Path.{◌≡◌, refl, sym, ap, subst}
use mathlib.Core.Option.{Option, none, some}
use mathlib.Core.List.{List, [], ◌∷◌, map}
use Prim.Native.Nat.{ℕ, zero, suc, ◌+◌, ◌<◌, compare, Ordering}
use native.Mathlib.Omega.{arith}
use native.Mathlib.Decide.{dec_lt}
use lib.ListN.{length}
use Rattle.formula.proofs.Compare.{Compares, stands}
use Rattle.calculus.specs.Judgement.{Step}
use Rattle.calculus.specs.Rules.{Rule, step_at, judgement_at, AllBelow, Follows, Valid, Verdict, pass, fail, Judges, passes, fails}
use Rattle.calculus.specs.Truth.{True}
use Rattle.calculus.specs.Parse.{read_ledger}
use Rattle.calculus.specs.Desk.{DeskAnswer, unreadable, judged, DeskSays, no-ledger, on-steps}
use Rattle.calculus.proofs.Sound.{valid-true}
use Rattle.calculus.proofs.Rows.{rule?}

-- Whether all references are below n, and whether a step follows, is decided.
unfoldable pub below? : (n : ℕ) (is : List ℕ) → Dec (AllBelow n is)
below? n [] = yes tt
below? n (i ∷ is) = both (dec_lt i n) (below? n is)
  where
    both : Dec (i < n) → Dec (AllBelow n is) → Dec ((i < n) × AllBelow n is)
    both (yes p) (yes q) = yes (p, q)
    both (yes p) (no q) = no (λ h. q h.1)
    both (no p) d = no (λ h. p h.0)

unfoldable pub follows? : (L : List Step) (n : ℕ) (s : Step) → Dec (Follows L n s)
follows? L n s = both (below? n s.references) (rule? s.kind (map (judgement_at L) s.references) s.judgement)
  where
    both : Dec (AllBelow n s.references) → Dec (Rule s.kind (map (judgement_at L) s.references) s.judgement) → Dec (Follows L n s)
    both (yes p) (yes q) = yes (record { earlier = p; rule = q })
    both (yes p) (no q) = no (λ f. q f.rule)
    both (no p) d = no (λ f. p f.earlier)

-- Steps below n follow.
abbrev pub Up : List Step → ℕ → Type 0
Up L n = (j : ℕ) → j < n → Follows L j (step_at L j)

pub one_more : {L : List Step} (n : ℕ) → Up L n → Follows L n (step_at L n) → Up L (suc n)
one_more {L} n h f j b = go (compare j n) (stands j n)
  where
    go : (o : Ordering) → Compares o j n → Follows L j (step_at L j)
    go Ordering.lt l = h j l
    go Ordering.eq l = rw l f
    go Ordering.gt l = absurd (omega arith)

-- A verdict that is right for the steps.
pub record Judged (L : List Step) : Type 0 where
  pub verdict : Verdict
  pub judges : Judges L verdict

unfoldable pub judge_from : (L : List Step) (n k : ℕ) → n + k ≡ length L → Up L n → Judged L
judge_from L n zero e h = record { verdict = pass (length L); judges = passes (λ i b. h i (omega arith)) }
judge_from L n (suc k) e h = go (follows? L n (step_at L n)) (λ f. judge_from L (suc n) k (omega arith) (one_more n h f))
  where
    go : Dec (Follows L n (step_at L n)) → (Follows L n (step_at L n) → Judged L) → Judged L
    go (yes f) next = next f
    go (no f) next = record { verdict = fail n; judges = fails {i = n} (omega arith) h f }

unfoldable pub judge : (L : List Step) → Judged L
judge L = judge_from L 0 (length L) (omega arith) (λ j b. absurd (omega arith))

-- The desk's verdict.
unfoldable pub desk : List Step → Verdict
desk L = (judge L).verdict

pub desk-judges : (L : List Step) → Judges L (desk L)
unfolding desk
desk-judges L = (judge L).judges

-- There is no other.
one-verdict : {L : List Step} {v w : Verdict} → Judges L v → Judges L w → v ≡ w
one-verdict (passes p) (passes q) = refl
one-verdict (passes p) (fails {i} b h f) = absurd (f (p i b))
one-verdict (fails {i} b h f) (passes p) = absurd (f (p i b))
one-verdict (fails {i} b h f) (fails {i = j} c g e) = go (compare i j) (stands i j)
  where
    go : (o : Ordering) → Compares o i j → fail i ≡ fail j
    go Ordering.lt l = absurd (f (g i l))
    go Ordering.eq l = ap fail l
    go Ordering.gt l = absurd (e (h j l))

pub judges-desk : {L : List Step} {v : Verdict} → Judges L v → v ≡ desk L
judges-desk {L} j = one-verdict j (desk-judges L)

-- A verdict that all steps passed says that the ledger is valid.
pub judges-valid : {L : List Step} {n : ℕ} → Judges L (pass n) → Valid L
judges-valid (passes p) = p

-- The desk passes a ledger exactly when it is valid, and answers the number of its steps.
pub valid-passes : {L : List Step} → Valid L → desk L ≡ pass (length L)
valid-passes v = sym (judges-desk (passes v))

pub passes-valid : (L : List Step) (n : ℕ) → desk L ≡ pass n → Valid L
passes-valid L n e = judges-valid (rw e at (desk-judges L))

-- So each judgement of a ledger that it passes is true, whoever wrote it.
pub passed-true : (L : List Step) (n : ℕ) → desk L ≡ pass n → (i : ℕ) → i < length L → True (judgement_at L i)
passed-true L n e = valid-true (passes-valid L n e)

-- On bytes ------------------------------------------------------------------------------------

-- The desk has an answer to all bytes, and no other.
pub desk-exists : (l : List ℕ) → (a : DeskAnswer) × DeskSays l a
desk-exists l = go (read_ledger l) refl
  where
    go : (o : Option (List Step)) → read_ledger l ≡ o → (a : DeskAnswer) × DeskSays l a
    go none e = (unreadable, no-ledger e)
    go (some L) e = (judged (desk L), on-steps L e (desk-judges L))

pub desk-unique : {l : List ℕ} {a b : DeskAnswer} → DeskSays l a → DeskSays l b → a ≡ b
desk-unique (no-ledger e) (no-ledger i) = refl
desk-unique (no-ledger e) (on-steps M i k) = absurd (let z : ◌≡◌ {A = ℕ} 0 1 = cc in omega arith)
desk-unique (on-steps L e j) (no-ledger i) = absurd (let z : ◌≡◌ {A = ℕ} 0 1 = cc in omega arith)
desk-unique (on-steps L {v = v} e j) (on-steps M i k) =
    let m : L ≡ M = cc in
    ap judged (one-verdict (subst (λ (K : List Step). Judges K v) m j) k)
