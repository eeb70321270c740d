-- The lowest equal step of a ledger.
use Rattle.std.specs.Prelude.{◌≡◌, Bool, true, false, ◌&&◌, List, [], ◌∷◌, ℕ, suc, eqb, Result, Ok, Err}
use Rattle.std.proofs.Math.Option.{Option, none, some, map}
use Rattle.formula.specs.Answers.{same_bytes}
use Rattle.calculus.specs.Judgement.{Step}
use Rattle.calculus.specs.Table.{predicate}
use Rattle.calculus.specs.Rules.{step_at}
use Rattle.calculus.specs.Record.{operand_bytes}
use Rattle.kinds.specs.Kinds.{number_of}
use Rattle.ledger.specs.Ledger.{steps_of}

-- Has the step this predicate and these operands?
abbrev pub same_step : ℕ → List ℕ → Step → Bool
same_step p operands s = eqb (number_of (predicate s.judgement)) p && same_bytes (operand_bytes s.judgement) operands

-- For a private contract: a test that fails only for steps without these operands.
abbrev pub RulesOut : List ℕ → ℕ → List ℕ → Bool → Type 0
RulesOut l i operands r = r ≡ false → (p : ℕ) → same_step p operands (step_at (steps_of l) i) ≡ false

-- Number 0 where the first step is the one, else one more than the number among the others.
abbrev pub first : Bool → Option ℕ → Option ℕ
first true o = some 0
first false o = map (λ n. suc n) o

-- The number of the lowest step with this predicate and these operands.
unfoldable pub find_bytes : ℕ → List ℕ → List Step → Option ℕ
find_bytes p operands [] = none
find_bytes p operands (s ∷ L) = first (same_step p operands s) (find_bytes p operands L)

-- The number that was found, else how many steps there are.
abbrev pub found_as : Option ℕ → ℕ → Result ℕ ℕ
found_as none n = Err n
found_as (some i) n = Ok i
