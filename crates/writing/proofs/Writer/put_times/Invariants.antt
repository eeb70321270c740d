use Rattle.writing.specs.Writing.{Writes, times}
use Rattle.writing.proofs.Writer.put_times.Given as goal

abbrev pub invariant-loop-i : goal.invariant-loop-i
invariant-loop-i l = Writes (times l.i l.x) l.initial.self l.self
