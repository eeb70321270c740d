use native.Mathlib.Omega.{arith}
use Rattle.numbers.proofs.claim.Goals as goal

pub overflow_mul-result : goal.overflow_mul-result
overflow_mul-result c = let x = c.requires.fits _ c.in-Ok.is in omega (arith, x.0, x.1, x.2)

pub overflow_add-result : goal.overflow_add-result
overflow_add-result c = let x = c.requires.fits _ c.in-Ok.is in omega (arith, x.0, x.1, x.2)

pub overflow_mul-result-in-Ok : goal.overflow_mul-result-in-Ok
overflow_mul-result-in-Ok c = let x = c.requires.fits _ c.in-Ok.is in omega (arith, x.0, x.1, x.2)

pub overflow_add-result-in-Ok : goal.overflow_add-result-in-Ok
overflow_add-result-in-Ok c = let x = c.requires.fits _ c.in-Ok.is in omega (arith, x.0, x.1, x.2)
