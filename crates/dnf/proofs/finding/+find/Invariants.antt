use Prim.Native.Nat.{◌-◌}
use lib.ListN.{length}
use Rattle.dnf.proofs.finding.+find.Given as goal

abbrev pub decreases-find : goal.decreases-find
decreases-find l = length l.f.now - l.at
