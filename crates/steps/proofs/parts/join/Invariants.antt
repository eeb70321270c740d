use Rattle.std.proofs.Common.{◌≡◌, length, take}
use Rattle.steps.specs.Parts.{joined}
use Rattle.steps.proofs.parts.join.Given as goal

abbrev pub invariant-loop-part : goal.invariant-loop-part
invariant-loop-part l = (l.end ≡ length (joined (take l.part-index l.parts))) × (take l.end l.out ≡ joined (take l.part-index l.parts))
