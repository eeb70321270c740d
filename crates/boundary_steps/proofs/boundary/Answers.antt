use Rattle.std.proofs.lemmas.Result.{err_from_is_err_and}
use Rattle.formula.specs.declared.Sort.TheVariants.{Intervals}
use Rattle.calculus.specs.Calls.{emit_boundary}
use Rattle.steps.proofs.NodeLaws.{part-runs}
use Rattle.steps.proofs.PlaceLaws.{known_at, whole-at, whole_part}
use Rattle.boundary_steps.proofs.BoundaryLaws.{sides-start}
use Rattle.boundary_steps.proofs.boundary.Goals as goal

pub boundary_at-requires : goal.boundary_at-requires
boundary_at-requires c = (known_at (whole-at c.requires.0), sides-start c.requires.0 c.requires.1)

pub returns-in_err-x : goal.returns-in_err-x
returns-in_err-x c =
    let p = err_from_is_err_and c.from_residual.result c.from_residual.ensures.1 in
    let w = c.in_err-x.ensures in
    rw (p.1, p.2) (record { runs = part-runs Intervals emit_boundary (whole_part c.requires.0) w.walks.runs; lent = w.lent })

pub returns : goal.returns
returns c =
    let w = c.in_ok-x.ensures in
    record { runs = part-runs Intervals emit_boundary (whole_part c.requires.0) w.walks.runs; lent = w.lent }
