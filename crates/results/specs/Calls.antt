-- For private contracts: calls that share their code, and their results.
use Rattle.std.specs.Prelude.{◌≡◌, List, ℕ}
use Rattle.formula.specs.declared.Sort.{Sort}
use Rattle.formula.specs.declared.Sort.TheVariants.{Faces, Intervals}
use Rattle.formula.specs.declared.Size.{Size}
use Rattle.formula.specs.Formula.{lo}
use Rattle.formula.specs.Operations.{boundary}
use Rattle.formula.specs.Bytes.{Tree}
use Rattle.formula.specs.Answers.{size_of, tree_of}
use Rattle.operations.specs.declared.Op.{Op as Asked}
use Rattle.operations.specs.declared.Op.TheVariants.{DShift, DSubst}
use Rattle.calculus.specs.Door
use Rattle.calculus.specs.Door.{Call}
use Rattle.steps.specs.Trees.{Is}
use Rattle.boundary_steps.specs.Programs.{Sides}

-- shift and substitute, by the operation.
abbrev pub transform_call : Sort → Asked → List ℕ → List ℕ → List ℕ → Call
transform_call s (DShift k) t r out = Door.shift s t k out
transform_call s (DSubst k) t r out = Door.substitute s t k r out

-- The bytes x are the result t, and z is its size.
pub record ResultOf (s : Sort) (t : Tree s) (x : List ℕ) (z : Size) : Type 0 where
  pub is : Is s t x
  pub size : z ≡ size_of s t

-- The bytes of the two faces of the interval r, and the size of both.
pub record BothResults (r zero one : List ℕ) (z : Size) : Type 0 where
  pub sides : Sides r zero one
  pub size : z ≡ size_of Faces (boundary lo (tree_of Intervals r))
