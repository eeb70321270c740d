-- The boundary judgement as bytes.
use Rattle.std.specs.Prelude.{◌≡◌, List, ℕ, ◌+◌}
use Rattle.formula.specs.declared.Sort.TheVariants.{Faces, Intervals}
use Rattle.formula.specs.declared.Place.{Place}
use Rattle.formula.specs.Formula.{lo, hi, Interval}
use Rattle.formula.specs.Operations.{boundary}
use Rattle.formula.specs.Bytes.{encode}
use Rattle.formula.specs.Answers.{tree_of}
use Rattle.steps.specs.Walking.{StandsAt}

-- The bytes of the two faces of a boundary.
pub record Sides (r zero one : List ℕ) : Type 0 where
  pub zeros : zero ≡ encode Faces (boundary lo (tree_of Intervals r))
  pub ones : one ≡ encode Faces (boundary hi (tree_of Intervals r))

-- The two faces of the boundary of t stand at one place of the two lists.
pub record SidesAt (t : Interval) (zero one : List ℕ) (q : Place) : Type 0 where
  pub zeros : StandsAt Faces (boundary lo t) zero q
  pub ones : StandsAt Faces (boundary hi t) one q

-- The kinds of the rules for boundary follow the expressions' kind bytes.
abbrev pub boundary_kind : ℕ → ℕ
boundary_kind b = b + 15
