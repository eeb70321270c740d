-- Definitions that only the contracts of private functions cite; no public contract rests on them.
-- Here: the claims of a step and of its references.
use Rattle.std.specs.Prelude.{List, ◌∷◌, ℕ, ◌≤◌, ◌<◌, length, get_or}
use Rattle.calculus.specs.Judgement.{Step}
use Rattle.calculus.specs.Rules.{step_at, judgement_at}
use Rattle.ledger.specs.Ledger.{steps_of}
use Rattle.rules.specs.declared.Claim.{Claim}
use Rattle.rules.specs.Standing.{JudgementIn}

-- The claim is that of step i, in the ledger.
pub record Claimed (l : List ℕ) (c : Claim) (i : ℕ) : Type 0 where
  pub ordered : c.from ≤ c.to
  pub within : c.to ≤ length l
  pub stands : JudgementIn l c (judgement_at (steps_of l) i)

-- The first m claims are of the steps with these numbers.
abbrev pub Filled : List ℕ → List ℕ → ℕ → List Claim → Type 0
Filled l numbers m cs = (j : ℕ) (d : Claim) → j < m → Claimed l (get_or cs j d) (get_or numbers j 0)

-- The numbers of a step and of its references.
abbrev pub cited : List Step → ℕ → List ℕ
cited L i = i ∷ (step_at L i).references
