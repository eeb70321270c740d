-- The steps of a ledger's bytes, and their places.
use Rattle.std.specs.Prelude.{◌≡◌, List, [], ℕ, ◌+◌, ◌<◌, length, take}
use Rattle.std.proofs.Math.Option.{Option, none, some}
use Rattle.calculus.specs.Judgement.{Step}
use Rattle.calculus.specs.Record.{steps_bytes, Holds}
use Rattle.calculus.specs.Parse.{read_ledger}

-- The steps that were read, if any.
abbrev pub steps_in : Option (List Step) → List Step
steps_in none = []
steps_in (some L) = L

-- The steps that the bytes are read as; none where they are no ledger.
unfoldable pub steps_of : List ℕ → List Step
steps_of l = steps_in (read_ledger l)

-- The bytes are a well-formed ledger.
abbrev pub Led : List ℕ → Type 0
Led l = Holds l (steps_of l)

-- Where the record of step i begins.
abbrev pub place_of : List Step → ℕ → ℕ
place_of L i = 4 + length (steps_bytes (take i L))

-- A number of a step, and the place of its record.
pub record Points (l : List ℕ) (step at : ℕ) : Type 0 where
  pub led : Led l
  pub inside : step < length (steps_of l)
  pub place : at ≡ place_of (steps_of l) step
