use native.Mathlib.Omega.{arith}
use Rattle.calculus.proofs.Fields.{below_each}
use Rattle.lookup.proofs.LookupLaws.{part_in, part_cut}
use Rattle.lookup.proofs.operands.Goals as goal

pub overflow_add-end : goal.overflow_add-end
overflow_add-end c = let a = c.args in let p = part_in a.l.now a.i (below_each 256 a.l.now (λ i p. omega (arith, c.type_inv.l i))) in omega (arith, p.whole, p.small, c.locate-p.ensures.0, c.locate-p.ensures.1)

pub slice_bounds-result-end : goal.slice_bounds-result-end
slice_bounds-result-end c = let a = c.args in let p = part_in a.l.now a.i (below_each 256 a.l.now (λ i p. omega (arith, c.type_inv.l i))) in omega (arith, p.whole, c.locate-p.ensures.0, c.locate-p.ensures.1)

pub returns : goal.returns
returns c = let a = c.args in part_cut (part_in a.l.now a.i (below_each 256 a.l.now (λ i p. omega (arith, c.type_inv.l i)))) c.locate-p.ensures.0 c.locate-p.ensures.1
