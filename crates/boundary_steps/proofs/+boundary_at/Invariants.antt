use Prim.Native.Nat.{◌-◌}
use lib.ListN.{length}
use Rattle.boundary_steps.proofs.+boundary_at.Given as goal

abbrev pub decreases-boundary_at : goal.decreases-boundary_at
decreases-boundary_at l = length l.r.now - l.here.at
