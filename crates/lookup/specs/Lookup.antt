-- What is answered when a step of a ledger is looked up by its number.
use Rattle.std.specs.Prelude.{◌≡◌, false, List, ℕ, ◌+◌, ◌*◌, ◌<◌, ltb, length, get_or, Option, Some, None, Result, Ok}
use Rattle.formula.specs.Answers.{pick}
use Rattle.calculus.specs.Judgement.{Step}
use Rattle.calculus.specs.Rules.{step_at}
use Rattle.calculus.specs.Record.{operand_bytes}
use Rattle.kinds.specs.Kinds.{name_bytes}
use Rattle.ledger.specs.declared.Cursor.{Cursor}
use Rattle.ledger.specs.Ledger.{steps_of, place_of, Led}
use Rattle.refusals.specs.declared.Refusal.{Refusal}
use Rattle.text.specs.Answers.{delivered}

-- For a private contract: step i of a ledger, or that there is none.
abbrev pub Sought : List ℕ → ℕ → Option Cursor → Type 0
Sought l i None = ltb i (length (steps_of l)) ≡ false
Sought l i (Some c) = (Led l × (i < length (steps_of l))) × (c.step ≡ i) × (c.at ≡ place_of (steps_of l) i)

-- A number of step i; 0 where there is no such step.
abbrev pub of_step : List Step → ℕ → (Step → ℕ) → ℕ
of_step L i f = pick (ltb i (length L)) (f (step_at L i)) 0

-- Where the operands of step i begin: behind four bytes of length, two of kind and four for each reference.
unfoldable pub operands_start : List Step → ℕ → ℕ
operands_start L i = of_step L i (λ s. place_of L i + 6 + 4 * length s.references)

-- How many bytes they take.
unfoldable pub operands_length : List Step → ℕ → ℕ
operands_length L i = of_step L i (λ s. length (operand_bytes s.judgement))

-- The kind of step i.
unfoldable pub kind_of : List Step → ℕ → ℕ
kind_of L i = of_step L i (λ s. s.kind)

-- One more than the number that reference j of step i names; 0 where it has no such reference.
unfoldable pub reference_of : List Step → ℕ → ℕ → ℕ
reference_of L i j = of_step L i (λ s. pick (ltb j (length s.references)) (1 + get_or s.references j 0) 0)

-- The answer and every byte of the output are those for the name of the rule of a kind: no byte for a number that is no kind, 6 where the name does not fit.
pub record WritesRule (kind : ℕ) (out : List ℕ) (r : Result ℕ Refusal) (out' : List ℕ) : Type 0 where
  pub equal : delivered (Ok (name_bytes kind)) out ≡ record { answer = r; output = out' }
