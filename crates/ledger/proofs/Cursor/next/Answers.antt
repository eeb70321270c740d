use native.Mathlib.Omega.{arith}
use mathlib.Core.Path.{ap, ◌∙◌}
use Rattle.ledger.proofs.PointLaws.{inside, points-next}
use Prim.Native.Nat.{ℕ, ◌+◌}
use Rattle.ledger.proofs.Cursor.next.Goals as goal

pub get4-n-requires : goal.get4-n-requires
get4-n-requires c = let i = inside c.requires in omega (arith, i.operands, i.whole)

pub overflow_add-result : goal.overflow_add-result
overflow_add-result c = let i = inside c.requires in omega (arith, i.operands, i.whole, i.small, i.low)

pub overflow_add-result-2 : goal.overflow_add-result-2
overflow_add-result-2 c = let i = inside c.requires in omega (arith, i.operands, i.whole, i.small)

pub overflow_add-result-3 : goal.overflow_add-result-3
overflow_add-result-3 c = let i = inside c.requires in omega (arith, c.get4-n.ensures.1, i.operands, i.whole, i.small)

pub returns : goal.returns
returns c = let a = c.args in (omega arith, ap (λ (n : ℕ). a.self.at + 4 + n) c.get4-n.ensures.0 ∙ points-next c.requires)
