use Rattle.std.specs.Prelude.{◌≡◌, ◌<◌}
use Rattle.index.specs.Index.{blocks_of}
use Rattle.index.proofs.bucket.blocks.Given as goal

abbrev pub invariant-loop-j : goal.invariant-loop-j
invariant-loop-j l = (l.h ≡ blocks_of l.j l.from l.s) × (l.h < 2147483647)
