use Prim.Native.Nat.{◌-◌}
use Rattle.desk.proofs.PassLaws.{Passing}
use Rattle.desk.proofs.pass.judge_steps.Given as goal

abbrev pub invariant-loop-c : goal.invariant-loop-c
invariant-loop-c l = Passing l.l l.c.step l.c.at l.noted

abbrev pub decreases-loop-c : goal.decreases-loop-c
decreases-loop-c l = l.n - l.c.step
