use Rattle.std.proofs.Common.{rules}
use Rattle.kinds.specs.Kinds.{field_at}
use Rattle.kinds.proofs.table.field_of.Goals as goal

pub returns : goal.returns
unfolding field_at
returns c = search rules
