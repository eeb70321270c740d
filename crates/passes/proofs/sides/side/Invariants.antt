use Prim.Native.Nat.{◌-◌}
use lib.ListN.{length}
use Rattle.passes.proofs.SideLaws.{side_goal, Siding}
use Rattle.passes.proofs.sides.side.Given as goal

abbrev pub invariant-loop-p : goal.invariant-loop-p
invariant-loop-p l = Siding (side_goal l.s l.e) l.s l.initial.out l.out l.ends l.p l.o

abbrev pub decreases-loop-p : goal.decreases-loop-p
decreases-loop-p l = length l.s - l.p.at
