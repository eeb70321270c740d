use native.Mathlib.Omega.{arith}
use Rattle.syntax.proofs.WordLaws.{zeros-below, some_left, back-held}
use mathlib.Core.Path.{refl}
use Rattle.syntax.proofs.depths.back.Goals as goal

pub overflow_cast-result : goal.overflow_cast-result
overflow_cast-result c = omega (arith, zeros-below c.requires)

pub overflow_shr-result : goal.overflow_shr-result
overflow_shr-result c = zeros-below c.requires

pub overflow_sub-result : goal.overflow_sub-result
overflow_sub-result c = some_left c.requires

pub returns : goal.returns
returns c = back-held refl
