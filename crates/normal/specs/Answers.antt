-- What the normal form of bytes is, or why there is none, and what is left in the lent slice.
use Rattle.std.specs.Prelude.{ℕ, ◌≡◌, List, leb, length, Result, Ok, Err}
use Rattle.std.proofs.Math.Option.{Option, none, some}
use Rattle.std.proofs.lemmas.List.Edits.{sets}
use Rattle.formula.specs.Formula.{Face}
use Rattle.formula.specs.declared.Sort.TheVariants.{Faces}
use Rattle.formula.specs.declared.Size.{Size}
use Rattle.formula.specs.Bytes.{encode}
use Rattle.formula.specs.Answers.{pick, size_of, kept, operand}
use Rattle.refusals.specs.declared.Refusal.{Refusal}
use Rattle.refusals.specs.declared.Refusal.TheVariants.{LargeResult, ShortOutput}
use Rattle.refusals.specs.Refusals.{of_one}
use Rattle.clauses.specs.Normal.{normal}

-- 5 where some list has over 256 clauses before pruning, or where the normal form is beyond the limits.
abbrev pub limited : Option Face → Result Face Refusal
limited none = Err LargeResult
limited (some g) = kept (size_of Faces g) g

-- The normal form of the face that the bytes are: 2 where they are none, 3 and 4 where it is beyond the limits, then 5.
abbrev pub normal_of : List ℕ → Result Face Refusal
normal_of l = of_one (λ f. limited (normal f)) (operand Faces l)

-- The length, nodes and bound of a normal form, or a refusal, and the output's bytes.
pub record Formed : Type 0 where
  pub answer : Result Size Refusal
  pub output : List ℕ

-- It stands in front of the output where it fits; else 6, and every byte stays.
abbrev pub put : Result Face Refusal → List ℕ → Formed
put (Err e) out = record { answer = Err e; output = out }
put (Ok g) out = pick (leb (length (encode Faces g)) (length out)) (record { answer = Ok (size_of Faces g); output = sets out 0 (encode Faces g) }) (record { answer = Err ShortOutput; output = out })

-- The answer and every byte of the output are those for the normal form of the face that the bytes are.
pub record Normalises (f out : List ℕ) (r : Result Size Refusal) (out' : List ℕ) : Type 0 where
  pub equal : put (normal_of f) out ≡ record { answer = r; output = out' }
