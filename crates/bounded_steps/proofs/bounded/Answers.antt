use Rattle.std.proofs.lemmas.Result.{err_from_is_err_and}
use Rattle.steps.proofs.NodeLaws.{part-runs}
use Rattle.steps.proofs.PlaceLaws.{known_at, whole-at, whole_part}
use Rattle.bounded_steps.specs.Programs.{emit_bounded}
use Rattle.bounded_steps.proofs.bounded.Goals as goal

pub bounded_at-requires : goal.bounded_at-requires
bounded_at-requires c = (known_at (whole-at c.requires.0), c.requires.1)

pub returns-in_err-w : goal.returns-in_err-w
returns-in_err-w c = let a = c.args in
    let p = err_from_is_err_and c.from_residual.result c.from_residual.ensures.1 in
    let w = c.in_err-w.ensures in
    rw (p.1, p.2) (record { runs = part-runs a.sort (emit_bounded a.sort a.d) (whole_part c.requires.0) w.walks.runs; lent = w.lent })

pub returns : goal.returns
returns c = let a = c.args in
    let w = c.in_ok-w.ensures in
    record { runs = part-runs a.sort (emit_bounded a.sort a.d) (whole_part c.requires.0) w.walks.runs; lent = w.lent }
