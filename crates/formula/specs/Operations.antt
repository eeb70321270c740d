-- The operations on formulas, after the Rust: `boundary`, `forall`, and `itransform` and `ftransform` by an operation.
use Prim.Native.Nat.{ℕ, pred, compare}
use Rattle.formula.specs.Formula.{End, lo, hi, Face, ff, ft, at, fand, for, Interval, i0, i1, dim, neg, meet, join, Assignment, value, beside, insert, raised, remove}
use Rattle.formula.specs.Bytes.{Tree}
use Rattle.formula.specs.declared.Sort.{Sort}
use Rattle.formula.specs.declared.Sort.TheVariants.{Faces, Intervals}

-- The face where an interval expression is an end: `boundary lo r` is (r=0), `boundary hi r` is (r=1).
unfoldable pub boundary : End → Interval → Face
boundary lo i0 = ft
boundary hi i0 = ff
boundary lo i1 = ff
boundary hi i1 = ft
boundary e (dim n) = at e n
boundary lo (neg r) = boundary hi r
boundary hi (neg r) = boundary lo r
boundary lo (meet r s) = for (boundary lo r) (boundary lo s)
boundary hi (meet r s) = fand (boundary hi r) (boundary hi s)
boundary lo (join r s) = fand (boundary lo r) (boundary lo s)
boundary hi (join r s) = for (boundary hi r) (boundary hi s)

-- ∀k: a literal on k is lost, one above k is lowered, all else stays.
unfoldable pub forall : ℕ → Face → Face
forall k ff = ff
forall k ft = ft
forall k (at e n) = beside (compare n k) (at e n) ff (at e (pred n))
forall k (fand a b) = fand (forall k a) (forall k b)
forall k (for a b) = for (forall k a) (forall k b)

-- The operations of `Op` on dimensions: DShift with its cutoff, DSubst with its cutoff and replacement.
pub data Op : Type 0 where
  shift : ℕ → Op
  subst : ℕ → Interval → Op

-- What a dimension becomes.
abbrev pub dim_to : Op → ℕ → Interval
dim_to (shift k) n = dim (raised k n)
dim_to (subst k r) n = beside (compare n k) (dim n) r (dim (pred n))

unfoldable pub itransform : Op → Interval → Interval
itransform o i0 = i0
itransform o i1 = i1
itransform o (dim n) = dim_to o n
itransform o (neg r) = neg (itransform o r)
itransform o (meet r s) = meet (itransform o r) (itransform o s)
itransform o (join r s) = join (itransform o r) (itransform o s)

-- A literal says that its dimension is an end, so it becomes the boundary of what the dimension becomes.
unfoldable pub ftransform : Op → Face → Face
ftransform o ff = ff
ftransform o ft = ft
ftransform o (at e n) = boundary e (dim_to o n)
ftransform o (fand a b) = fand (ftransform o a) (ftransform o b)
ftransform o (for a b) = for (ftransform o a) (ftransform o b)

-- The transformation of a formula of either sort.
abbrev pub transform : (s : Sort) → Op → Tree s → Tree s
transform Faces o f = ftransform o f
transform Intervals o r = itransform o r

-- What an operation does to an assignment: shift removes its place, substitution inserts the value of its replacement.
abbrev pub change : Op → Assignment → Assignment
change (shift k) σ = remove k σ
change (subst k r) σ = insert k (value r σ) σ
