-- What a context is seen as: its faces.
use Rattle.std.specs.Prelude.{◌≡◌, List, [], ◌∷◌, ℕ, suc, Option, None, Some}
use Rattle.std.specs.Borrow.{Bor}
use Rattle.formula.specs.declared.Sort.TheVariants.{Faces}
use Rattle.formula.specs.Formula.{Face}
use Rattle.steps.specs.Trees.{Is}
use Rattle.contexts.specs.Contexts.{context_of}
use Rattle.contexts.specs.declared.context.Context.{Context}

-- The faces of a context.
abbrev pub faces_of : Context → List Face
faces_of g = context_of g.count g.faces.now

-- The bytes x are the first face of g, and d has the others.
pub record First (g : Context) (x : List ℕ) (d : Context) : Type 0 where
  pub first : Face
  pub face : Is Faces first x
  pub whole : faces_of g ≡ first ∷ faces_of d
  pub count : g.count ≡ suc d.count

-- The first face and the others, or none.
abbrev pub Splits : Context → Option (Bor (List ℕ) × Context) → Type 0
Splits g None = faces_of g ≡ []
Splits g (Some (x, d)) = First g x.now d
