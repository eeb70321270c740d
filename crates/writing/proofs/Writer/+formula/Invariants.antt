use Rattle.std.proofs.Common.{length}
use Rattle.writing.proofs.Writer.+formula.Given as goal

abbrev pub decreases-formula : goal.decreases-formula
decreases-formula l = length l.f.now
