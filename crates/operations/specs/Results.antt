-- What the operations on bytes answer.
use Rattle.std.specs.Prelude.{ℕ, min, ◌≡◌, List, ◌++◌, leb, length, drop, Result, Err, Ok}
use Rattle.refusals.specs.declared.Refusal.{Refusal}
use Rattle.refusals.specs.declared.Refusal.TheVariants.{ShortOutput}
use Rattle.refusals.specs.Refusals.{of_one, of_two}
use Rattle.formula.specs.Formula.{End, Face}
use Rattle.formula.specs.Operations.{boundary, forall, shift, subst, transform}
use Rattle.formula.specs.Bytes.{Tree, encode}
use Rattle.formula.specs.Answers.{pick, size_of, kept, operand}
use Rattle.formula.specs.declared.Sort.{Sort}
use Rattle.formula.specs.declared.Sort.TheVariants.{Faces, Intervals}
use Rattle.formula.specs.declared.Size.{Size}
use Rattle.operations.specs.declared.Op.{Op as Asked}
use Rattle.operations.specs.declared.Op.TheVariants.{DShift, DSubst}

-- Question 5 of a result.
abbrev pub limited : (s : Sort) → Tree s → Result (Tree s) Refusal
limited s t = kept (size_of s t) t

-- The result of each operation on bytes.
unfoldable pub foralled : ℕ → List ℕ → Result Face Refusal
foralled k l = of_one (λ f. limited Faces (forall k f)) (operand Faces l)

unfoldable pub boundaried : End → List ℕ → Result Face Refusal
boundaried e l = of_one (λ r. limited Faces (boundary e r)) (operand Intervals l)

unfoldable pub transformed : (s : Sort) → Asked → List ℕ → List ℕ → Result (Tree s) Refusal
transformed s (DShift k) l r = of_one (λ t. limited s (transform s (shift k) t)) (operand s l)
transformed s (DSubst k) l r = of_two (λ t q. limited s (transform s (subst k q) t)) (operand s l) (operand Intervals r)

-- What is answered where the lent slices have room for so many bytes: question 6.
abbrev pub roomed : (s : Sort) → Result (Tree s) Refusal → ℕ → Result Size Refusal
roomed s (Err e) room = Err e
roomed s (Ok t) room = pick (leb (length (encode s t)) room) (Ok (size_of s t)) (Err ShortOutput)

-- What is then in a slice: the result in front and its other bytes as they were, or all as it was.
abbrev pub written : (s : Sort) → Result (Tree s) Refusal → ℕ → List ℕ → List ℕ
written s (Err e) room d = d
written s (Ok t) room d = pick (leb (length (encode s t)) room) (encode s t ++ drop (length (encode s t)) d) d

-- An answer with what it leaves in the lent slice that held d.
pub record Answered (s : Sort) (x : Result (Tree s) Refusal) (d : List ℕ) (r : Result Size Refusal) (d' : List ℕ) : Type 0 where
  pub says : r ≡ roomed s x (length d)
  pub leaves : d' ≡ written s x (length d) d

-- The same for the two slices of a boundary, each of which has to have room. Both faces are of one size (`boundary-sizes`).
pub record AnsweredBoth (x y : Result Face Refusal) (d e : List ℕ) (r : Result Size Refusal) (d' e' : List ℕ) : Type 0 where
  pub says : r ≡ roomed Faces x (min (length d) (length e))
  pub leaves0 : d' ≡ written Faces x (min (length d) (length e)) d
  pub leaves1 : e' ≡ written Faces y (min (length d) (length e)) e
