-- The producer's limits on formulas, and what is answered (document 02, W2).
use Rattle.std.specs.Prelude.{ℕ, suc, max, ◌&&◌, List, leb, Result, Err, Ok}
use Rattle.refusals.specs.declared.Refusal.{Refusal}
use Rattle.refusals.specs.declared.Refusal.TheVariants.{BeyondProducer}
use Rattle.refusals.specs.Refusals.{of_one}
use Rattle.formula.specs.Formula.{Face, ff, ft, at, fand, for, Interval, i0, i1, dim, neg, meet, join}
use Rattle.formula.specs.Bytes.{Tree, nodes, bound}
use Rattle.formula.specs.Answers.{pick, operand}
use Rattle.formula.specs.declared.Sort.{Sort}
use Rattle.formula.specs.declared.Sort.TheVariants.{Faces, Intervals}

-- The depth of a formula: how many nodes stand above its deepest one, so that of a leaf is 0.
unfoldable pub depth_face : Face → ℕ
depth_face ff = 0
depth_face ft = 0
depth_face (at e n) = 0
depth_face (fand a b) = suc (max (depth_face a) (depth_face b))
depth_face (for a b) = suc (max (depth_face a) (depth_face b))

unfoldable pub depth_interval : Interval → ℕ
depth_interval i0 = 0
depth_interval i1 = 0
depth_interval (dim n) = 0
depth_interval (neg r) = suc (depth_interval r)
depth_interval (meet r s) = suc (max (depth_interval r) (depth_interval s))
depth_interval (join r s) = suc (max (depth_interval r) (depth_interval s))

abbrev pub depth : (s : Sort) → Tree s → ℕ
depth Faces f = depth_face f
depth Intervals r = depth_interval r

-- The limits: dimension index at most 32, depth at most 32.
abbrev pub max_index : ℕ
max_index = 32

abbrev pub max_depth : ℕ
max_depth = 32

-- Question 13: the node count of a formula within the limits. A bound is one more than the largest index.
abbrev pub limited : (s : Sort) → Tree s → Result ℕ Refusal
limited s t = pick (leb (bound s t) (suc max_index) && leb (depth s t) max_depth) (Ok (nodes s t)) (Err BeyondProducer)

-- What is answered of bytes: questions 2, 3 and 4 of the operand, then 13.
abbrev pub counted : Sort → List ℕ → Result ℕ Refusal
counted s l = of_one (limited s) (operand s l)
