-- These definitions serve the contracts of private functions.
use Rattle.std.specs.Prelude.{ℕ, ◌≡◌, List, Result}
use Rattle.std.proofs.Math.Option.{some}
use Rattle.formula.specs.Formula
use Rattle.formula.specs.Bytes.{encode_face}
use Rattle.clauses.specs.Normal.{normal}
use Rattle.formula.specs.declared.Size.{Size}
use Rattle.refusals.specs.declared.Refusal.{Refusal}
use Rattle.normal.specs.Answers.{limited, put}

-- The bytes are a face.
pub record IsFace (l : List ℕ) : Type 0 where
  pub face : Formula.Face
  pub bytes : l ≡ encode_face face

-- That face was delivered, where it keeps the limits.
pub record Delivers (l out : List ℕ) (r : Result Size Refusal) (out' : List ℕ) : Type 0 where
  pub it : (g : Formula.Face) → l ≡ encode_face g → put (limited (some g)) out ≡ record { answer = r; output = out' }

-- Its normal form was delivered.
pub record Gives (l out : List ℕ) (r : Result Size Refusal) (out' : List ℕ) : Type 0 where
  pub it : (f : Formula.Face) → l ≡ encode_face f → put (limited (normal f)) out ≡ record { answer = r; output = out' }
