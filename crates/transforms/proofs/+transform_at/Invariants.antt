use Prim.Native.Nat.{◌-◌}
use lib.ListN.{length}
use Rattle.transforms.proofs.+transform_at.Given as goal

abbrev pub decreases-transform_at : goal.decreases-transform_at
decreases-transform_at l = length l.f.now - l.here.at
