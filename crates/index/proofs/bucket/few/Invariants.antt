use Rattle.std.specs.Prelude.{◌≡◌, ◌<◌}
use Rattle.index.specs.Index.{bytes_of}
use Rattle.index.proofs.bucket.few.Given as goal

abbrev pub invariant-loop-b : goal.invariant-loop-b
invariant-loop-b l = (l.h ≡ bytes_of l.b-index l.from l.s) × (l.h < 2147483647)
