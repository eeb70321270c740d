use mathlib.Core.Path.{ap₂, ◌∙◌}
use Prim.Native.Nat.{ℕ}
use Rattle.index.specs.Index.{mixed}
use Rattle.index.proofs.bucket.eight.Goals as goal

pub returns : goal.returns
returns c = (c.mix.ensures.0 ∙ ap₂ (λ (v w : ℕ). mixed c.args.h v w) c.get4-v.ensures.0 c.get4-w.ensures.0, c.mix.ensures.1)
