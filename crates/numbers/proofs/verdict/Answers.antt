use mathlib.Core.Path.{ap}
use native.Mathlib.Omega.{arith}
use Rattle.numbers.specs.Packing.{verdict_number}
use Rattle.numbers.proofs.verdict.Goals as goal

pub overflow_mul-result : goal.overflow_mul-result
overflow_mul-result c = omega (arith, c.requires.fits _ c.in-Fails.is)

pub overflow_sub-result : goal.overflow_sub-result
overflow_sub-result c = omega (arith, c.requires.fits _ c.in-Fails.is, c.refused-in-Fails.ensures)

pub returns-in-Fails : goal.returns-in-Fails
returns-in-Fails c = let x = c.requires.fits _ c.in-Fails.is in let e = ap verdict_number c.in-Fails.is in omega (arith, x, e, c.refused-in-Fails.ensures)
