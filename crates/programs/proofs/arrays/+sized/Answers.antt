use Rattle.std.proofs.Common.{arith}
use Rattle.programs.proofs.arrays.+sized.Goals as goal

pub with_index-requires : goal.with_index-requires
with_index-requires t c = (c.requires.0, omega arith, c.requires.0.small, c.requires.1)

pub sized-requires : goal.sized-requires
sized-requires t c = (omega (arith, c.decreases), c.requires)
