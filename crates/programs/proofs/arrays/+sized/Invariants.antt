use Rattle.std.proofs.Common.{◌-◌}
use Rattle.programs.proofs.arrays.+sized.Given as goal

abbrev pub decreases-sized : goal.decreases-sized
decreases-sized l = 65536 - l.size
