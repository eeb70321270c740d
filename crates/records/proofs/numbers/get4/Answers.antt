use native.Mathlib.Omega.{arith}
use mathlib.Core.Path.{◌∙◌, ap₂}
use Prim.Native.Nat.{ℕ, ◌+◌, ◌*◌}
use Rattle.records.proofs.NumberLaws.{little-four}
use Rattle.records.proofs.numbers.get4.Goals as goal

pub returns : goal.returns
returns c = let a = c.args in let x = c.get2.ensures in let y = c.get2-2.ensures in (ap₂ (λ (m n : ℕ). m + 65536 * n) x.0 y.0 ∙ little-four a.s.now a.at, omega (arith, x.1, y.1), x.2)
