-- The operations of transformations as bytes, and the kinds of their rules.
use Rattle.std.specs.Prelude.{List, ◌++◌, ℕ, ◌+◌, ◌<◌, ltb}
use Rattle.formula.specs.declared.Sort.{Sort}
use Rattle.formula.specs.declared.Sort.TheVariants.{Faces, Intervals}
use Rattle.operations.specs.declared.Op.{Op as Asked}
use Rattle.operations.specs.declared.Op.TheVariants.{DShift, DSubst}
use Rattle.formula.specs.Operations.{Op, shift, subst}
use Rattle.formula.specs.Bytes.{dim_bytes}
use Rattle.formula.specs.Answers.{pick, tree_of}
use Rattle.steps.specs.Trees.{Known}

-- The operation that is asked for, with the bytes of the replacement.
abbrev pub op_of : Asked → List ℕ → Op
op_of (DShift k) t = shift k
op_of (DSubst k) t = subst k (tree_of Intervals t)

-- Its place and its replacement keep the limits.
abbrev pub KnownOp : Asked → List ℕ → Type 0
KnownOp (DShift k) t = k < 255
KnownOp (DSubst k) t = (k < 255) × Known Intervals t

-- The operands of a transformation: the formula, the place, the replacement if there is one, the result.
abbrev pub transform_bytes : Asked → List ℕ → List ℕ → List ℕ → List ℕ
transform_bytes (DShift k) f t out = f ++ (dim_bytes k ++ out)
transform_bytes (DSubst k) f t out = f ++ (dim_bytes k ++ (t ++ out))

-- The kinds of its rules by the kind byte, of a dimension the first of its two or three.
abbrev pub first_kind : Sort → Asked → ℕ
first_kind Faces (DShift k) = 64
first_kind Faces (DSubst k) = 70
first_kind Intervals (DShift k) = 33
first_kind Intervals (DSubst k) = 40

abbrev pub kind_gap : Asked → ℕ
kind_gap (DShift k) = 1
kind_gap (DSubst k) = 2

abbrev pub transform_kind : Sort → Asked → ℕ → ℕ
transform_kind s o b = pick (ltb b 19) (b + first_kind s o) (b + first_kind s o + kind_gap o)
