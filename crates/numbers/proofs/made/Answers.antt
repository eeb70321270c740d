use native.Mathlib.Omega.{arith}
use Rattle.numbers.proofs.made.Goals as goal

pub overflow_mul-result : goal.overflow_mul-result
overflow_mul-result c = let x = c.requires.fits _ c.in-Ok.is in omega (arith, x.1)

pub overflow_add-result : goal.overflow_add-result
overflow_add-result c = let x = c.requires.fits _ c.in-Ok.is in omega (arith, x.0, x.1)
