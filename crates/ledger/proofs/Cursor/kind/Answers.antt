use native.Mathlib.Omega.{arith}
use mathlib.Core.Path.{◌∙◌}
use Rattle.ledger.proofs.PointLaws.{inside, points-kind}
use Rattle.ledger.proofs.Cursor.kind.Goals as goal

pub overflow_add-at : goal.overflow_add-at
overflow_add-at c = let i = inside c.requires in omega (arith, i.operands, i.whole, i.small)

pub get2-requires : goal.get2-requires
get2-requires c = let i = inside c.requires in omega (arith, i.operands, i.whole)

pub returns : goal.returns
returns c = c.get2.ensures.0 ∙ points-kind c.requires
