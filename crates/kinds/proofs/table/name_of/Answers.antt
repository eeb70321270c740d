use Rattle.std.proofs.Common.{sym, ap}
use Rattle.kinds.specs.Kinds.{name_in, name_bytes}
use Rattle.kinds.proofs.table.name_of.Goals as goal

pub returns-in_default : goal.returns-in_default
unfolding name_bytes
returns-in_default c = sym (ap name_in c.in_default.ensures)

pub returns : goal.returns
unfolding name_bytes
returns c = c.in-Some.ensures.0
