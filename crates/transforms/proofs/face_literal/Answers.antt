use Rattle.std.proofs.lemmas.Result.{err_from_is_err_and}
use native.Mathlib.Omega.{arith}
use mathlib.Core.Path.{refl, sym}
use lib.Seq.{length-take-le}
use Rattle.formula.specs.declared.Sort.TheVariants.{Faces}
use Rattle.formula.specs.Answers.{tree_of}
use Rattle.transforms.specs.Transforms.{op_of}
use Rattle.steps.proofs.RunLaws.{runs-led}
use Rattle.steps.proofs.TreeLaws.{known, is-long, is-short}
use Rattle.transforms.proofs.ImageLaws.{room}
use Rattle.transforms.proofs.TransformLaws.{transforms-limited, transforms-bytes, node-literal, face-end, face-low, face-node, image-is, node-runs, image-runs, face-stop, face-shift, face-subst-stop, face-subst}
use Rattle.steps.proofs.LentLaws.{kept-of, lent-on}
use Rattle.transforms.proofs.face_literal.Goals as goal

pub literal-node-requires : goal.literal-node-requires
literal-node-requires c = omega (arith, face-low c.requires.0 c.requires.2)

pub image-m-requires : goal.image-m-requires
image-m-requires c = let a = c.args in
    (known (face-node c.requires.0 c.requires.2 c.literal-node.ensures), c.requires.1, image-is c.requires.0 c.requires.2 a.t.now a.op c.requires.1 c.literal-node.ensures c.requires.3, room)

pub slice_bounds-transform_dimension-end-2 : goal.slice_bounds-transform_dimension-end-2
slice_bounds-transform_dimension-end-2 c = sym (length-take-le _ _ c.image-m.ensures.0)

pub transform_dimension-requires : goal.transform_dimension-requires
transform_dimension-requires c = (known (face-node c.requires.0 c.requires.2 c.literal-node.ensures), c.requires.1, node-literal c.literal-node.ensures, c.image-m.ensures.1)

pub returns-in_err-i : goal.returns-in_err-i
returns-in_err-i c = let a = c.args in
    let p = err_from_is_err_and c.from_residual.result c.from_residual.ensures.1 in
    rw (p.1, p.2) (record { runs = face-stop (op_of a.op a.t.now) (tree_of Faces a.f.now) (face-end c.requires.0 c.requires.2) (node-runs (op_of a.op a.t.now) (face-node c.requires.0 c.requires.2 c.literal-node.ensures) c.in_err-i.ensures.runs); lent = c.in_err-i.ensures.lent })

pub transform_whole-requires : goal.transform_whole-requires
transform_whole-requires c = (kept-of c.transform_dimension.new.p, is-long c.requires.0, is-short c.requires.0, is-short c.requires.3, c.requires.1, omega arith)

pub invariant_of-p : goal.invariant_of-p
invariant_of-p c = let a = c.args in
    record { indexed = runs-led (face-shift a.t.now a.op _ c.in-DShift.is (tree_of Faces a.f.now) (face-end c.requires.0 c.requires.2) (transforms-limited a.t.now Faces a.op c.requires.1 c.requires.0 c.requires.3) (transforms-bytes a.t.now Faces a.op c.requires.1 c.requires.0 c.requires.3) (node-runs (op_of a.op a.t.now) (face-node c.requires.0 c.requires.2 c.literal-node.ensures) c.in_ok-i.ensures.runs) c.transform_whole.ensures) }

pub returns-in-DShift : goal.returns-in-DShift
returns-in-DShift c = let a = c.args in
    record { runs = face-shift a.t.now a.op _ c.in-DShift.is (tree_of Faces a.f.now) (face-end c.requires.0 c.requires.2) (transforms-limited a.t.now Faces a.op c.requires.1 c.requires.0 c.requires.3) (transforms-bytes a.t.now Faces a.op c.requires.1 c.requires.0 c.requires.3) (node-runs (op_of a.op a.t.now) (face-node c.requires.0 c.requires.2 c.literal-node.ensures) c.in_ok-i.ensures.runs) c.transform_whole.ensures; lent = lent-on c.in_ok-i.ensures.lent (record { ledger = refl; index = refl }) }

pub slice_bounds-boundary_steps-end : goal.slice_bounds-boundary_steps-end
slice_bounds-boundary_steps-end c = sym (length-take-le _ _ c.image-m.ensures.0)

pub boundary_steps-requires : goal.boundary_steps-requires
boundary_steps-requires c = known c.image-m.ensures.1

pub returns-in_err-j-in-DSubst : goal.returns-in_err-j-in-DSubst
returns-in_err-j-in-DSubst c = let a = c.args in
    let p = err_from_is_err_and c.from_residual-in_err-j-in-DSubst.result c.from_residual-in_err-j-in-DSubst.ensures.1 in
    let w = c.in_err-j-in-DSubst.ensures in
    rw (p.1, p.2) (record { runs = face-subst-stop a.t.now a.op _ c.in-DSubst.is (tree_of Faces a.f.now) (face-end c.requires.0 c.requires.2) (node-runs (op_of a.op a.t.now) (face-node c.requires.0 c.requires.2 c.literal-node.ensures) c.in_ok-i.ensures.runs) (image-runs (op_of a.op a.t.now) (face-node c.requires.0 c.requires.2 c.literal-node.ensures) c.image-m.ensures.1 w.runs); lent = lent-on c.in_ok-i.ensures.lent w.lent })

pub transform_whole-requires-in-DSubst : goal.transform_whole-requires-in-DSubst
transform_whole-requires-in-DSubst c = (kept-of c.boundary_steps.new.p, is-long c.requires.0, is-short c.requires.0, is-short c.requires.3, c.requires.1, omega arith)

pub invariant_of-p-in-DSubst : goal.invariant_of-p-in-DSubst
invariant_of-p-in-DSubst c = let a = c.args in
    record { indexed = runs-led (face-subst a.t.now a.op _ c.in-DSubst.is (tree_of Faces a.f.now) (face-end c.requires.0 c.requires.2) (transforms-limited a.t.now Faces a.op c.requires.1 c.requires.0 c.requires.3) (transforms-bytes a.t.now Faces a.op c.requires.1 c.requires.0 c.requires.3) (node-runs (op_of a.op a.t.now) (face-node c.requires.0 c.requires.2 c.literal-node.ensures) c.in_ok-i.ensures.runs) (image-runs (op_of a.op a.t.now) (face-node c.requires.0 c.requires.2 c.literal-node.ensures) c.image-m.ensures.1 c.in_ok-j-in-DSubst.ensures.runs) c.transform_whole-in-DSubst.ensures) }

pub returns-in_ok-j-in-DSubst : goal.returns-in_ok-j-in-DSubst
returns-in_ok-j-in-DSubst c = let a = c.args in
    record { runs = face-subst a.t.now a.op _ c.in-DSubst.is (tree_of Faces a.f.now) (face-end c.requires.0 c.requires.2) (transforms-limited a.t.now Faces a.op c.requires.1 c.requires.0 c.requires.3) (transforms-bytes a.t.now Faces a.op c.requires.1 c.requires.0 c.requires.3) (node-runs (op_of a.op a.t.now) (face-node c.requires.0 c.requires.2 c.literal-node.ensures) c.in_ok-i.ensures.runs) (image-runs (op_of a.op a.t.now) (face-node c.requires.0 c.requires.2 c.literal-node.ensures) c.image-m.ensures.1 c.in_ok-j-in-DSubst.ensures.runs) c.transform_whole-in-DSubst.ensures; lent = lent-on c.in_ok-i.ensures.lent (lent-on c.in_ok-j-in-DSubst.ensures.lent (record { ledger = refl; index = refl })) }
