-- What demand 3 speaks of beside the calls: the ledger that a list of calls begins with, and which step a yes names.
use Rattle.std.specs.Prelude.{◌≡◌, List, ℕ, ◌<◌, length, replicate}
use Rattle.calculus.specs.Judgement.{Judgement, Step}
use Rattle.calculus.specs.Rules.{judgement_at}

-- An empty ledger of n bytes: its length is 0, and only zeros follow.
abbrev pub empty : ℕ → List ℕ
empty n = replicate n 0

-- Step n is the lowest with this judgement.
pub record Lowest (j : Judgement) (L : List Step) (n : ℕ) : Type 0 where
  pub inside : n < length L
  pub same : judgement_at L n ≡ j
  pub least : (i : ℕ) → i < n → judgement_at L i ≡ j → ⊥
