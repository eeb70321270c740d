use mathlib.Core.Path.{ap, ◌∙◌}
use Rattle.std.proofs.lemmas.Result.{err_from_is_err_and}
use Rattle.replies.proofs.GateLaws.{size_gate, operand-by}
use Rattle.replies.proofs.door.operand.Goals as goal

pub returns-in_err-z : goal.returns-in_err-z
returns-in_err-z c = let a = c.args in
    let p = err_from_is_err_and c.from_residual.result c.from_residual.ensures.1 in
    rw (p.1, p.2) (ap (size_gate a.low) c.in_err-z.ensures ∙ operand-by a.sort a.f.now a.low)

pub returns : goal.returns
returns c = let a = c.args in c.limits.ensures ∙ ap (size_gate a.low) c.in_ok-z.ensures ∙ operand-by a.sort a.f.now a.low
