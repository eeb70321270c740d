use native.Mathlib.Omega.{arith}
use Rattle.ledger.proofs.PointLaws.{inside, points-operands}
use Rattle.ledger.proofs.Cursor.operands.Goals as goal

pub slice_bounds-result-count : goal.slice_bounds-result-count
slice_bounds-result-count c = let i = inside c.requires in omega (arith, c.operands_from-from.ensures, c.next-end.ensures.1, i.operands)

pub slice_bounds-result-start : goal.slice_bounds-result-start
slice_bounds-result-start c = let i = inside c.requires in omega (arith, c.operands_from-from.ensures, c.next-end.ensures.1, i.operands)

pub slice_bounds-result-end : goal.slice_bounds-result-end
slice_bounds-result-end c = let i = inside c.requires in omega (arith, c.next-end.ensures.1, i.whole)

pub returns : goal.returns
returns c = points-operands c.requires _ _ c.operands_from-from.ensures c.next-end.ensures.1
