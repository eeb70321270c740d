use Rattle.std.proofs.lemmas.Result.{err_from_is_err_and}
use mathlib.Core.Path.{refl, ◌∙◌}
use Rattle.calculus.specs.Calls.{transform as transform_of}
use Rattle.steps.proofs.RunLaws.{runs-led}
use Rattle.steps.proofs.NodeLaws.{literal-of}
use Rattle.steps.proofs.PlaceLaws.{known_at, at-inside, pending-inside, at-spans, viewed-at}
use Rattle.steps.proofs.WalkLaws.{right-at, two-end, less_one, less-left, less-right, image-one, below-image, below_end, image-two, left-image, right-image, image-end, leaf-both, one-both-stop, one-both, two-both-stop, two-both-stop-right, two-both}
use Rattle.steps.proofs.LentLaws.{kept-of, lent-on}
use Rattle.transforms.specs.Transforms.{op_of}
use Rattle.transforms.proofs.TransformLaws.{transform-one, transform-two, result-beside}
use Rattle.transforms.proofs.+transform_at.Goals as goal

pub over-w-requires : goal.over-w-requires
over-w-requires t c = known_at c.requires.2

pub transform_end-requires : goal.transform_end-requires
transform_end-requires t c = let a = c.args in
    let v = viewed-at a.sort a.f.now a.here c.requires.0 _ _ c.step.ensures c.in-Leaf.is in
    (kept-of a.p.now, at-spans c.requires.0 v.end, c.requires.1, at-spans c.requires.2 c.over-w.ensures)

pub invariant_of-p : goal.invariant_of-p
invariant_of-p t c = let a = c.args in
    let v = viewed-at a.sort a.f.now a.here c.requires.0 _ _ c.step.ensures c.in-Leaf.is in
    record { indexed = runs-led (leaf-both (result-beside a.sort a.op a.t.now c.requires.1 c.requires.0 c.requires.2) v c.over-w.ensures c.transform_end.ensures).runs }

pub returns-in-Leaf : goal.returns-in-Leaf
returns-in-Leaf t c = let a = c.args in
    let v = viewed-at a.sort a.f.now a.here c.requires.0 _ _ c.step.ensures c.in-Leaf.is in
    record { walks = leaf-both (result-beside a.sort a.op a.t.now c.requires.1 c.requires.0 c.requires.2) v c.over-w.ensures c.transform_end.ensures; lent = (record { ledger = refl; index = refl }) }

pub transform_lit-requires : goal.transform_lit-requires
transform_lit-requires t c = let a = c.args in
    let v = viewed-at a.sort a.f.now a.here c.requires.0 _ _ c.step.ensures c.in-Lit.is in
    (c.requires.0, c.requires.1, c.requires.2, literal-of v.view, v.end)

pub below-requires : goal.below-requires
below-requires t c = at-inside c.requires.2

pub transform_at-requires : goal.transform_at-requires
transform_at-requires t c = let a = c.args in
    let v = viewed-at a.sort a.f.now a.here c.requires.0 _ _ c.step.ensures c.in-One.is in
    (less_one c.requires.0 v c.decreases, (v.below, c.requires.1, below-image (image-one a.sort a.sort (transform_of a.sort (op_of a.op a.t.now)) (transform-one a.sort (op_of a.op a.t.now)) v c.requires.2) c.below.ensures))

pub returns-in_err-a-in-One : goal.returns-in_err-a-in-One
returns-in_err-a-in-One t c = let a = c.args in
    let v = viewed-at a.sort a.f.now a.here c.requires.0 _ _ c.step.ensures c.in-One.is in
    let p = err_from_is_err_and c.from_residual.result c.from_residual.ensures.1 in
    let w = c.in_err-a-in-One.ensures in
    rw (p.1, p.2) (record { walks = one-both-stop (result-beside a.sort a.op a.t.now c.requires.1 c.requires.0 c.requires.2) v w.walks; lent = w.lent })

pub transform_end-requires-in-One : goal.transform_end-requires-in-One
transform_end-requires-in-One t c = let a = c.args in
    let v = viewed-at a.sort a.f.now a.here c.requires.0 _ _ c.step.ensures c.in-One.is in
    let m = c.in_ok-a-in-One.ensures.walks.moved in
    (kept-of c.transform_at.new.p, at-spans c.requires.0 (m.0 ∙ v.end), c.requires.1, at-spans c.requires.2 (m.1 ∙ below_end (image-one a.sort a.sort (transform_of a.sort (op_of a.op a.t.now)) (transform-one a.sort (op_of a.op a.t.now)) v c.requires.2) c.below.ensures))

pub invariant_of-p-in-One : goal.invariant_of-p-in-One
invariant_of-p-in-One t c = let a = c.args in
    let v = viewed-at a.sort a.f.now a.here c.requires.0 _ _ c.step.ensures c.in-One.is in
    record { indexed = runs-led (one-both (result-beside a.sort a.op a.t.now c.requires.1 c.requires.0 c.requires.2) v c.in_ok-a-in-One.ensures.walks (below_end (image-one a.sort a.sort (transform_of a.sort (op_of a.op a.t.now)) (transform-one a.sort (op_of a.op a.t.now)) v c.requires.2) c.below.ensures) c.transform_end-in-One.ensures).runs }

pub returns-in_ok-a-in-One : goal.returns-in_ok-a-in-One
returns-in_ok-a-in-One t c = let a = c.args in
    let v = viewed-at a.sort a.f.now a.here c.requires.0 _ _ c.step.ensures c.in-One.is in
    record { walks = one-both (result-beside a.sort a.op a.t.now c.requires.1 c.requires.0 c.requires.2) v c.in_ok-a-in-One.ensures.walks (below_end (image-one a.sort a.sort (transform_of a.sort (op_of a.op a.t.now)) (transform-one a.sort (op_of a.op a.t.now)) v c.requires.2) c.below.ensures) c.transform_end-in-One.ensures; lent = lent-on c.in_ok-a-in-One.ensures.lent (record { ledger = refl; index = refl }) }

pub inside-requires : goal.inside-requires
inside-requires t c = (at-inside c.requires.2, pending-inside c.requires.2)

pub transform_at-requires-in-Two : goal.transform_at-requires-in-Two
transform_at-requires-in-Two t c = let a = c.args in
    let v = viewed-at a.sort a.f.now a.here c.requires.0 _ _ c.step.ensures c.in-Two.is in
    (less-left c.requires.0 v c.decreases, (v.left, c.requires.1, left-image (image-two a.sort a.sort (transform_of a.sort (op_of a.op a.t.now)) (transform-two a.sort (op_of a.op a.t.now)) v refl c.requires.2) c.inside.ensures))

pub returns-in_err-a-in-Two : goal.returns-in_err-a-in-Two
returns-in_err-a-in-Two t c = let a = c.args in
    let v = viewed-at a.sort a.f.now a.here c.requires.0 _ _ c.step.ensures c.in-Two.is in
    let p = err_from_is_err_and c.from_residual-in_err-a-in-Two.result c.from_residual-in_err-a-in-Two.ensures.1 in
    let w = c.in_err-a-in-Two.ensures in
    rw (p.1, p.2) (record { walks = two-both-stop (result-beside a.sort a.op a.t.now c.requires.1 c.requires.0 c.requires.2) v w.walks; lent = w.lent })

pub transform_at-requires-in-Two-2 : goal.transform_at-requires-in-Two-2
transform_at-requires-in-Two-2 t c = let a = c.args in
    let v = viewed-at a.sort a.f.now a.here c.requires.0 _ _ c.step.ensures c.in-Two.is in
    let m = c.in_ok-a-in-Two.ensures.walks.moved in
    (less-right c.requires.0 v m.0 c.decreases, (right-at v m.0, c.requires.1, right-image (image-two a.sort a.sort (transform_of a.sort (op_of a.op a.t.now)) (transform-two a.sort (op_of a.op a.t.now)) v m.0 c.requires.2) c.inside.ensures m.1))

pub returns-in_err-b-in-Two : goal.returns-in_err-b-in-Two
returns-in_err-b-in-Two t c = let a = c.args in
    let v = viewed-at a.sort a.f.now a.here c.requires.0 _ _ c.step.ensures c.in-Two.is in
    let p = err_from_is_err_and c.from_residual-in_err-b-in-Two.result c.from_residual-in_err-b-in-Two.ensures.1 in
    let w = c.in_err-b-in-Two.ensures in
    rw (p.1, p.2) (record { walks = two-both-stop-right (result-beside a.sort a.op a.t.now c.requires.1 c.requires.0 c.requires.2) v c.in_ok-a-in-Two.ensures.walks w.walks; lent = lent-on c.in_ok-a-in-Two.ensures.lent w.lent })

pub transform_end-requires-in-Two : goal.transform_end-requires-in-Two
transform_end-requires-in-Two t c = let a = c.args in
    let v = viewed-at a.sort a.f.now a.here c.requires.0 _ _ c.step.ensures c.in-Two.is in
    let m = c.in_ok-a-in-Two.ensures.walks.moved in
    let n = c.in_ok-b-in-Two.ensures.walks.moved in
    (kept-of c.transform_at-in-Two-2.new.p, at-spans c.requires.0 (two-end v m.0 n.0), c.requires.1, at-spans c.requires.2 (n.1 ∙ image-end (image-two a.sort a.sort (transform_of a.sort (op_of a.op a.t.now)) (transform-two a.sort (op_of a.op a.t.now)) v m.0 c.requires.2) c.inside.ensures m.1))

pub invariant_of-p-in-Two : goal.invariant_of-p-in-Two
invariant_of-p-in-Two t c = let a = c.args in
    let v = viewed-at a.sort a.f.now a.here c.requires.0 _ _ c.step.ensures c.in-Two.is in
    let m = c.in_ok-a-in-Two.ensures.walks.moved in
    record { indexed = runs-led (two-both (result-beside a.sort a.op a.t.now c.requires.1 c.requires.0 c.requires.2) v c.in_ok-a-in-Two.ensures.walks c.in_ok-b-in-Two.ensures.walks (image-end (image-two a.sort a.sort (transform_of a.sort (op_of a.op a.t.now)) (transform-two a.sort (op_of a.op a.t.now)) v m.0 c.requires.2) c.inside.ensures m.1) c.transform_end-in-Two.ensures).runs }

pub returns-in_ok-b-in-Two : goal.returns-in_ok-b-in-Two
returns-in_ok-b-in-Two t c = let a = c.args in
    let v = viewed-at a.sort a.f.now a.here c.requires.0 _ _ c.step.ensures c.in-Two.is in
    let m = c.in_ok-a-in-Two.ensures.walks.moved in
    record { walks = two-both (result-beside a.sort a.op a.t.now c.requires.1 c.requires.0 c.requires.2) v c.in_ok-a-in-Two.ensures.walks c.in_ok-b-in-Two.ensures.walks (image-end (image-two a.sort a.sort (transform_of a.sort (op_of a.op a.t.now)) (transform-two a.sort (op_of a.op a.t.now)) v m.0 c.requires.2) c.inside.ensures m.1) c.transform_end-in-Two.ensures; lent = lent-on c.in_ok-a-in-Two.ensures.lent (lent-on c.in_ok-b-in-Two.ensures.lent (record { ledger = refl; index = refl })) }

pub returns-in-Stuck : goal.returns-in-Stuck
returns-in-Stuck t c = let a = c.args in
    absurd (viewed-at a.sort a.f.now a.here c.requires.0 _ _ c.step.ensures c.in-Stuck.is)
