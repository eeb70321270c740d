-- What it is to make the same claim: equal operand bytes are equal judgements, and entails steps are those of kind 30.
use mathlib.Core.Path.{◌≡◌, refl, sym, ap, ◌∙◌, subst}
use mathlib.Core.Bool.{Bool, true, false, ◌&&◌, and-eq-true_iff, decide}
use mathlib.Core.Option.{some}
use mathlib.Core.List.{List, [], ◌∷◌}
use Prim.Native.Nat.{ℕ, zero, suc, ◌+◌}
use native.Mathlib.Omega.{arith}
use lib.Dec.{eqb}
use lib.ListN.{get_or}
use borrow.Author.Tests.{eq-eqb, eqb-true}
use Rattle.formula.specs.Formula.{Face}
use Rattle.calculus.specs.Judgement.{Judgement, entails, Step}
use Rattle.calculus.specs.Table.{Pred, p_entails, predicate, Entry, entry, unlisted, table, Listed}
use Rattle.calculus.specs.Record.{fields, Values, operands, operand_bytes, FormedStep, FormedFrom}
use Rattle.calculus.specs.Parse.{judgement_of}
use Rattle.calculus.proofs.Fields.{Allowed, rebuilt, operands-injective}
use Rattle.kinds.specs.Kinds.{number_of}
use Rattle.repeat_test.specs.Repeats.{SameClaim, last_step}
use Rattle.repeat_test.proofs.TestLaws.{decide-same}

-- An entails judgement has d and two faces.
pub record Claims (j : Judgement) : Type 0 where
  pub d : ℕ
  pub a : Face
  pub b : Face
  pub is : j ≡ entails d a b

pub claims : (j : Judgement) → predicate j ≡ p_entails → Claims j
claims j p = subst At (sym p) (λ xs e. record { d = xs.0; a = xs.1.0; b = xs.1.1.0; is = sym e }) (operands j) (rebuilt j)
  where
    At : Pred → Type 0
    At q = (xs : Values (fields q)) → judgement_of q xs ≡ j → Claims j

-- Of judgements that a ledger may hold, those with the same claim are the same, and the other way round.
pub same-judgements : {j k : Judgement} → Allowed j → Allowed k → SameClaim j k → j ≡ k
same-judgements {j} {k} a b s = operands-injective j k a b (s.left ∙ sym s.right) s.operands

pub judgements-same : {j k : Judgement} → predicate j ≡ p_entails → j ≡ k → SameClaim j k
judgements-same p e = record { left = p; right = ap predicate (sym e) ∙ p; operands = ap operand_bytes e }

-- The same claim is made in both directions, and from one to the next.
pub same_back : {j k : Judgement} → SameClaim j k → SameClaim k j
same_back s = record { left = s.right; right = s.left; operands = sym s.operands }

pub same-on : {i j k : Judgement} → SameClaim i j → SameClaim j k → SameClaim i k
same-on s t = record { left = s.left; right = t.right; operands = s.operands ∙ t.operands }

pub same_self : {j : Judgement} → predicate j ≡ p_entails → SameClaim j j
same_self p = judgements-same p refl

-- Every decision gives the same answer.
pub one-decision : {A : Type 0} (d e : Dec A) → decide d ≡ decide e
one-decision d e = decide-same d e (λ a. a) (λ a. a)

-- The last of well-formed steps is well formed.
pub last-formed : (i : ℕ) (L : List Step) {s : Step} → FormedFrom i L → last_step L ≡ some s → (n : ℕ) × FormedStep n s
unfolding last_step
last-formed i [] f e = absurd (let z : ◌≡◌ {A = ℕ} 0 1 = cc in omega arith)
last-formed i (r ∷ []) {s} f e = let z : r ≡ s = cc in (i, subst (FormedStep i) z f.0)
last-formed i (r ∷ (t ∷ L)) f e = last-formed (suc i) (t ∷ L) f.1 e

-- Kinds -----------------------------------------------------------------------------------------

-- The number of the predicate in an entry.
abbrev number_in : Entry → ℕ
number_in (entry name n p) = number_of p
number_in unlisted = 0

-- Where the first is so, so is the second.
abbrev implied : Bool → Bool → Bool
implied true b = b
implied false b = true

-- Only kind 30 has the predicate entails, one computed test over the table.
unfoldable only_there : ℕ → List Entry → Bool
only_there i [] = true
only_there i (e ∷ t) = implied (eqb (number_in e) 7) (eqb i 30) && only_there (suc i) t

table-only : only_there 1 table ≡ true
unfolding only_there table
table-only = refl

only-there : (i : ℕ) (t : List Entry) (k : ℕ) → only_there i t ≡ true → number_in (get_or t k unlisted) ≡ 7 → i + k ≡ 30
unfolding only_there
only-there i [] k h e = absurd (let z : 0 ≡ 7 = e in omega arith)
only-there i (x ∷ t) zero h e =
    let a = ((and-eq-true_iff (implied (eqb (number_in x) 7) (eqb i 30)) (only_there (suc i) t)).0 h).0 in
    let b : eqb i 30 ≡ true = sym (ap (λ (c : Bool). implied c (eqb i 30)) (eq-eqb (number_in x) 7 e)) ∙ a in
    omega (arith, eqb-true i 30 b)
only-there i (x ∷ t) (suc k) h e = omega (arith, only-there (suc i) t k ((and-eq-true_iff (implied (eqb (number_in x) 7) (eqb i 30)) (only_there (suc i) t)).0 h).1 e)

-- A kind whose predicate is entails is 30, entails.checked.
pub entails-kind : {k n : ℕ} → Listed k n p_entails → k ≡ 30
entails-kind {k = zero} h = absurd (let z : ◌≡◌ {A = ℕ} 0 1 = cc h.listed in omega arith)
entails-kind {k = suc k} h = omega (arith, only-there 1 table k table-only (ap number_in h.listed))
