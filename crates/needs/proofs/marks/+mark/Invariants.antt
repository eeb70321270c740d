use Prim.Native.Nat.{◌-◌}
use lib.ListN.{length}
use Rattle.needs.proofs.marks.+mark.Given as goal

abbrev pub decreases-mark : goal.decreases-mark
decreases-mark l = length l.f.now - l.at
