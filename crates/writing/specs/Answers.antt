-- What the writer of a formula answers, and what it leaves in the lent slice.
use Rattle.std.specs.Prelude.{ℕ, ◌≡◌, List, Result}
use Rattle.formula.specs.declared.Sort.{Sort}
use Rattle.formula.specs.Answers.{operand}
use Rattle.refusals.specs.declared.Refusal.{Refusal}
use Rattle.refusals.specs.Refusals.{map}
use Rattle.text.specs.Answers.{delivered}
use Rattle.writing.specs.Texts.{formula_text}

-- The text of the formula that the bytes are: 2 where they are none, 3 and 4 where it is beyond the limits.
abbrev pub written : Sort → List ℕ → Result (List ℕ) Refusal
written s l = map (formula_text s) (operand s l)

-- The answer and every byte of the output are those for the text of the formula that the bytes are; 6 where it does not fit.
pub record WritesInto (s : Sort) (f out : List ℕ) (r : Result ℕ Refusal) (out' : List ℕ) : Type 0 where
  pub equal : delivered (written s f) out ≡ record { answer = r; output = out' }
