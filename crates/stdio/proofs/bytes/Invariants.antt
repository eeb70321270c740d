use Rattle.std.proofs.Common.{take}
use Rattle.std.specs.Io.KnownBytes.{Appends}
use Rattle.stdio.specs.Front.{spaced}
use Rattle.stdio.proofs.bytes.Given as goal

abbrev pub invariant-loop-x : goal.invariant-loop-x
invariant-loop-x g l =
    Appends (g.W.Write.contents l.initial.out) (g.W.Write.contents l.out) (spaced (take l.x-index l.b))
