use Prim.Native.Nat.{◌-◌}
use lib.ListN.{length}
use Rattle.formula.proofs.WalkLaws.{Walking}
use Rattle.formula.proofs.walk.measure_at.Given as goal

abbrev pub invariant-loop-pending : goal.invariant-loop-pending
invariant-loop-pending l = Walking l.sort l.s l.at (record { at = l.e; pending = l.pending; nodes = l.nodes; bound = l.bound })

abbrev pub decreases-loop-pending : goal.decreases-loop-pending
decreases-loop-pending l = length l.s - l.e
