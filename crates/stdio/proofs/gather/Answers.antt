use Rattle.std.proofs.Common.{arith, ◌∙◌}
use Rattle.stdio.proofs.Behind.{Consumes-behind}
use Rattle.stdio.proofs.gather.Goals as goal

pub loop-n-preserved : goal.loop-n-preserved
loop-n-preserved g c =
    let (same, _, before) = c.loop-n.invariant in
    let (more, within) = c.in_ok-m.ensures.within in
    (c.read_behind.auto.space ∙ same, omega (arith, within, c.read_behind.auto.space), Consumes-behind _ _ _ c.loop-n.space c.read_behind.new.space _ _ more c.read_behind.ensures.front before c.in_ok-m.ensures.took)
