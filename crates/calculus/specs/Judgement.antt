-- The judgements and the steps of a ledger (document 01, "The ledger" and "Rules").
use Rattle.std.specs.Prelude.{◌≡◌, refl, ℕ}
use Rattle.std.proofs.Common.{ap₂}
use mathlib.Core.List.{List, [], ◌∷◌, nil≢cons, cons≢nil, head-eq_of_cons-eq, tail-eq_of_cons-eq}
use Rattle.std.proofs.Math.Decide.{ℕ_discrete}
use Rattle.formula.specs.Formula.{End-discrete, Face, Face-discrete, Interval, Interval-discrete}

-- A judgement: its predicate and its operands, in printed order.
pub data Judgement : Type 0 where
  lt le : ℕ → ℕ → Judgement
  interval : ℕ → Interval → Judgement
  face : ℕ → Face → Judgement
  member : Face → List Face → Judgement
  take : List Face → Face → List Face → Judgement
  cover : List Face → Face → Judgement
  entails : ℕ → Face → Face → Judgement
  boundary : Interval → Face → Face → Judgement
  local : ℕ → Face → Interval → Interval → Judgement
  fforall : Face → ℕ → Face → Judgement
  ishift : Interval → ℕ → Interval → Judgement
  isubst : Interval → ℕ → Interval → Interval → Judgement
  fshift : Face → ℕ → Face → Judgement
  fsubst : Face → ℕ → Interval → Face → Judgement
  deriving Discrete as Judgement-discrete

-- A step: its kind, the numbers of the steps that it refers to, and its judgement.
pub record Step : Type 0 where
  pub kind : ℕ
  pub references : List ℕ
  pub judgement : Judgement

-- Two lists are the same when their heads and their tails are. (mathlib's decision on lists does not compute.)
abbrev pub both_same : {A : Type 0} (x y : A) (s t : List A) → Dec (x ≡ y) → Dec (s ≡ t) → Dec (x ∷ s ≡ y ∷ t)
both_same {A} x y s t (yes p) (yes q) = yes (ap₂ (λ (z : A) (l : List A). z ∷ l) p q)
both_same x y s t (yes p) (no q) = no (λ e. q (tail-eq_of_cons-eq e))
both_same x y s t (no p) d = no (λ e. p (head-eq_of_cons-eq e))

-- Are two lists the same?
unfoldable pub same_list : {A : Type 0} → Discrete A → Discrete (List A)
same_list d [] [] = yes refl
same_list d [] (y ∷ t) = no nil≢cons
same_list d (x ∷ s) [] = no cons≢nil
same_list d (x ∷ s) (y ∷ t) = both_same x y s t (d x y) (same_list d s t)

-- Are two faces the same?
unfoldable pub same_face : Discrete Face
same_face = Face-discrete End-discrete ℕ_discrete

-- Are two judgements the same: the predicate and all operands?
unfoldable pub same_judgement : Discrete Judgement
same_judgement = Judgement-discrete ℕ_discrete (Interval-discrete ℕ_discrete) same_face (same_list same_face)
