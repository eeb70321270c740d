use Rattle.std.proofs.Common.{◌-◌, arith, ap}
use Rattle.calculus.specs.Table.{entry_of}
use Rattle.kinds.proofs.KindLaws.{row-law}
use Rattle.kinds.proofs.table.row_of.Goals as goal

pub returns-then-kind-eq0 : goal.returns-then-kind-eq0
returns-then-kind-eq0 c = ap entry_of c.if-kind-eq0.true

pub returns : goal.returns
returns c = row-law c.rows.result.now c.rows.ensures c.args.kind (c.args.kind - 1) (omega arith) c.get.result c.get.ensures.lookup
