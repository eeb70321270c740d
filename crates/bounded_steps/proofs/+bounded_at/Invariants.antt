use Prim.Native.Nat.{◌-◌}
use lib.ListN.{length}
use Rattle.bounded_steps.proofs.+bounded_at.Given as goal

abbrev pub decreases-bounded_at : goal.decreases-bounded_at
decreases-bounded_at l = length l.f.now - l.here.at
