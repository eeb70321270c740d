use Prim.Native.Nat.{◌-◌}
use lib.ListN.{length}
use Rattle.forall_steps.proofs.+forall_at.Given as goal

abbrev pub decreases-forall_at : goal.decreases-forall_at
decreases-forall_at l = length l.f.now - l.here.at
