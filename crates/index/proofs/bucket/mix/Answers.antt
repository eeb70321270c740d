use native.Mathlib.Omega.{arith}
use mathlib.Core.Path.{refl}
use Rattle.index.specs.Index.{mixed}
use Rattle.index.proofs.bucket.mix.Goals as goal

pub returns : goal.returns
unfolding mixed
returns c = (refl, omega arith)
