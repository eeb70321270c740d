use mathlib.Core.Path.{ap, ap₂, ◌∙◌}
use mathlib.Core.Bool.{◌&&◌}
use Prim.Native.Nat.{ℕ}
use lib.Dec.{leb}
use Rattle.std.proofs.lemmas.Result.{err_from_is_err_and}
use Rattle.formula.specs.Answers.{measurement}
use Rattle.replies.specs.Asking.{limits_gate}
use Rattle.replies.proofs.GateLaws.{sizes_gate, operands-by}
use Rattle.replies.proofs.door.operands.Goals as goal

pub returns-in_err-z : goal.returns-in_err-z
returns-in_err-z c = let a = c.args in
    let p = err_from_is_err_and c.from_residual.result c.from_residual.ensures.1 in
    rw (p.1, p.2) (ap (λ x. sizes_gate a.low x (measurement a.other a.g.now)) c.in_err-z.ensures ∙ operands-by a.sort a.f.now a.other a.g.now a.low)

pub returns-in_err-y : goal.returns-in_err-y
returns-in_err-y c = let a = c.args in
    let p = err_from_is_err_and c.from_residual-in_err-y.result c.from_residual-in_err-y.ensures.1 in
    rw (p.1, p.2) (ap₂ (sizes_gate a.low) c.in_ok-z.ensures c.in_err-y.ensures ∙ operands-by a.sort a.f.now a.other a.g.now a.low)

pub returns : goal.returns
returns c = let a = c.args in
    c.limits.ensures ∙ ap₂ (λ (x y : ℕ). limits_gate (leb x 511) (a.low && leb y 255)) c.larger-nodes.ensures c.larger-bound.ensures
    ∙ ap₂ (sizes_gate a.low) c.in_ok-z.ensures c.in_ok-y.ensures ∙ operands-by a.sort a.f.now a.other a.g.now a.low
