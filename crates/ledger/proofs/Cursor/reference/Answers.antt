use native.Mathlib.Omega.{arith}
use mathlib.Core.Path.{◌∙◌}
use Rattle.ledger.proofs.PointLaws.{inside, points-reference}
use Rattle.ledger.proofs.Cursor.reference.Goals as goal

pub overflow_add-at : goal.overflow_add-at
overflow_add-at c = let i = inside c.requires.0 in omega (arith, i.operands, i.whole, i.small)

pub overflow_mul-j : goal.overflow_mul-j
overflow_mul-j c = let i = inside c.requires.0 in omega (arith, c.requires.1, i.operands, i.whole, i.small)

pub overflow_add-at-2 : goal.overflow_add-at-2
overflow_add-at-2 c = let i = inside c.requires.0 in omega (arith, c.requires.1, i.operands, i.whole, i.small)

pub get4-requires : goal.get4-requires
get4-requires c = let i = inside c.requires.0 in omega (arith, c.requires.1, i.operands, i.whole, i.small)

pub returns : goal.returns
returns c = c.get4.ensures.0 ∙ points-reference c.requires.0 c.args.j c.requires.1
