use Prim.Native.Nat.{◌-◌}
use lib.ListN.{length}
use Rattle.needs.proofs.weights.+weigh.Given as goal

abbrev pub decreases-weigh : goal.decreases-weigh
decreases-weigh l = length l.f.now.face.now - l.at
