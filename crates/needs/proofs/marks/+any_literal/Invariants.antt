use Rattle.std.proofs.Common.{length, ◌-◌}
use Rattle.needs.proofs.marks.+any_literal.Given as goal

abbrev pub decreases-any_literal : goal.decreases-any_literal
decreases-any_literal g l = length l.f.now - l.at
