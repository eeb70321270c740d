use Rattle.std.proofs.Common.{arith}
use Rattle.ledger.proofs.PointLaws.{inside}
use Rattle.ledger.proofs.Cursor.operands_from.Goals as goal

pub overflow_add-result : goal.overflow_add-result
overflow_add-result c = let i = inside c.requires in omega (arith, i.operands, i.whole, i.small)

pub overflow_mul-result : goal.overflow_mul-result
overflow_mul-result c = let i = inside c.requires in omega (arith, c.entry.ensures.0, i.operands, i.whole, i.small)

pub overflow_add-result-2 : goal.overflow_add-result-2
overflow_add-result-2 c = let i = inside c.requires in omega (arith, c.entry.ensures.0, i.operands, i.whole, i.small)
