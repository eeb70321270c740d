use Rattle.std.proofs.Common.{refl}
use Rattle.calculus.specs.Table.{table, text_bytes}
use Rattle.kinds.proofs.table.rows.Goals as goal

pub returns : goal.returns
unfolding table text_bytes
returns c = (refl, refl)
