use native.Mathlib.Omega.{arith}
use mathlib.Core.Path.{refl, sym, ◌∙◌}
use Rattle.ledger.proofs.PointLaws.{walks-forward}
use Rattle.index.proofs.SameLaws.{ends-early, ends-unlike}
use Rattle.index.proofs.lowest.ends_with.Goals as goal

pub overflow_sub-end : goal.overflow_sub-end
overflow_sub-end c = omega (arith, (walks-forward c.requires c.next-next.ensures.1).0)

pub returns-then-end-at : goal.returns-then-end-at
returns-then-end-at c = let a = c.args in λ h. ends-early c.requires c.next-next.ensures.1 a.operands.now c.if-end-at.true

pub slice_bounds-same-end : goal.slice_bounds-same-end
slice_bounds-same-end c = (walks-forward c.requires c.next-next.ensures.1).1

pub returns : goal.returns
returns c = let a = c.args in λ h. ends-unlike c.requires c.next-next.ensures.1 a.operands.now _ refl (sym c.same.ensures ∙ h)
