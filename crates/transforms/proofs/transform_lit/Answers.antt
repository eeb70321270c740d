use Rattle.std.proofs.lemmas.Result.{err_from_is_err_and}
use mathlib.Core.Path.{sym, subst}
use Rattle.calculus.specs.Calls.{emit_transform}
use Rattle.steps.specs.Trees.{Known, Literal}
use Rattle.steps.proofs.NodeLaws.{part-runs}
use Rattle.steps.proofs.PlaceLaws.{known_at, at-spans, between-part}
use Rattle.transforms.specs.Transforms.{op_of}
use Rattle.transforms.proofs.TransformLaws.{literal-image}
use Rattle.transforms.proofs.transform_lit.Goals as goal

pub over-w-requires : goal.over-w-requires
over-w-requires c = known_at c.requires.2

pub between-x-requires : goal.between-x-requires
between-x-requires c = at-spans c.requires.0 c.requires.4

pub between-y-requires : goal.between-y-requires
between-y-requires c = at-spans c.requires.2 c.over-w.ensures

pub transform_literal-requires : goal.transform_literal-requires
transform_literal-requires c = let a = c.args in
    let e = between-part c.requires.0 c.between-x.ensures c.requires.4 in
    (subst (Known a.sort) (sym e) c.requires.0.is, c.requires.1, subst (Literal a.sort a.n) (sym e) c.requires.3, literal-image a.sort a.op a.t.now c.requires.1 c.requires.0 c.requires.2 e c.between-y.ensures c.over-w.ensures)

pub returns-in_err-step : goal.returns-in_err-step
returns-in_err-step c = let a = c.args in
    let p = err_from_is_err_and c.from_residual.result c.from_residual.ensures.1 in
    let w = c.in_err-step.ensures in
    rw (p.1, p.2) (record { walks = record { runs = part-runs a.sort (emit_transform a.sort (op_of a.op a.t.now)) (between-part c.requires.0 c.between-x.ensures c.requires.4) w.runs; moved = tt }; lent = w.lent })

pub returns : goal.returns
returns c = let a = c.args in
    let w = c.in_ok-step.ensures in
    record { walks = record { runs = part-runs a.sort (emit_transform a.sort (op_of a.op a.t.now)) (between-part c.requires.0 c.between-x.ensures c.requires.4) w.runs; moved = (c.requires.4, c.over-w.ensures) }; lent = w.lent }
