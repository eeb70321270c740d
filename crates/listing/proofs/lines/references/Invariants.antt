use Rattle.std.proofs.Common.{take}
use Rattle.writing.specs.Writing.{Writes}
use Rattle.listing.specs.Lines.{references_text}
use Rattle.listing.specs.Writing.{step_of}
use Rattle.listing.proofs.lines.references.Given as goal

abbrev pub invariant-loop-j : goal.invariant-loop-j
invariant-loop-j l = Writes (references_text (take l.j (step_of l.l l.c.step).references)) l.initial.w l.w
