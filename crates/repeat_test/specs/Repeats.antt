-- When two ledgers repeat each other (document 01, "Normal form and repeat test").
use Rattle.std.specs.Prelude.{◌≡◌, Bool, false, List, [], ◌∷◌, Result, Ok, Err}
use Rattle.std.proofs.Math.Bool.{decide}
use Rattle.std.proofs.Math.Option.{Option, none, some}
use Rattle.std.proofs.Math.Decide.{ℕ_discrete}
use Rattle.calculus.specs.Judgement.{Judgement, Step, same_list}
use Rattle.calculus.specs.Table.{p_entails, Pred-discrete, predicate}
use Rattle.calculus.specs.Record.{operand_bytes}
use Rattle.refusals.specs.declared.Refusal.{Refusal}
use Rattle.refusals.specs.declared.Refusal.TheVariants.{IllFormedLedger}

-- Two judgements make the same claim: both are entails, with equal operand bytes. What counts as a repeat is said here alone.
pub record SameClaim (j k : Judgement) : Type 0 where
  pub left : predicate j ≡ p_entails
  pub right : predicate k ≡ p_entails
  pub operands : operand_bytes j ≡ operand_bytes k

-- Do they? There is one answer, however it is found.
unfoldable pub same_claim? : (j k : Judgement) → Dec (SameClaim j k)
same_claim? j k = all (Pred-discrete (predicate j) p_entails) (Pred-discrete (predicate k) p_entails) (same_list ℕ_discrete (operand_bytes j) (operand_bytes k))
  where
    all : Dec (predicate j ≡ p_entails) → Dec (predicate k ≡ p_entails) → Dec (operand_bytes j ≡ operand_bytes k) → Dec (SameClaim j k)
    all (yes p) (yes q) (yes e) = yes (record { left = p; right = q; operands = e })
    all (yes p) (yes q) (no e) = no (λ s. e s.operands)
    all (yes p) (no q) e = no (λ s. q s.right)
    all (no p) q e = no (λ s. p s.left)

-- The last step, if there is one.
unfoldable pub last_step : List Step → Option Step
last_step [] = none
last_step (s ∷ []) = some s
last_step (s ∷ (t ∷ L)) = last_step (t ∷ L)

-- Do ledgers with these last steps repeat each other? An empty one repeats nothing.
abbrev pub end_alike : Option Step → Option Step → Bool
end_alike none t = false
end_alike (some s) none = false
end_alike (some s) (some t) = decide (same_claim? s.judgement t.judgement)

-- The repeat test on the steps that two ledgers were read as: 1 where either is ill formed, else whether they end alike.
abbrev pub repeat_test : Option (List Step) → Option (List Step) → Result Bool Refusal
repeat_test none m = Err IllFormedLedger
repeat_test (some L) none = Err IllFormedLedger
repeat_test (some L) (some M) = Ok (end_alike (last_step L) (last_step M))
