use Rattle.std.specs.Prelude.{◌-◌, length}
use Rattle.index.proofs.BuildLaws.{Building}
use Rattle.index.proofs.pass.build.Given as goal

abbrev pub invariant-loop-c : goal.invariant-loop-c
invariant-loop-c l = Building l.l l.h (length l.initial.x) l.x l.c.step l.c.at

abbrev pub decreases-loop-c : goal.decreases-loop-c
decreases-loop-c l = length l.l - l.c.at
