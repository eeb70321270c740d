use Rattle.calculus.proofs.Fields.{below_each}
use Prim.Native.Nat.{◌+◌}
use native.Mathlib.Omega.{arith}
use Rattle.records.proofs.NumberLaws.{little-two}
use Rattle.records.proofs.numbers.get2.Goals as goal

pub returns : goal.returns
returns c = let a = c.args in (little-two a.s.now a.at, omega (arith, c.type_inv.s a.at, c.type_inv.s (a.at + 1)), below_each 256 a.s.now (λ i p. omega (arith, c.type_inv.s i)))
