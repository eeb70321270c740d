use native.Mathlib.Omega.{arith}
use Rattle.needs.proofs.PlaceLaws.{literal-inside}
use Rattle.needs.proofs.WeighLaws.{literal-dimension, literal-weighed}
use mathlib.Core.Path.{refl}
use Rattle.needs.proofs.weights.literal.Goals as goal

pub dim_at-dim-requires : goal.dim_at-dim-requires
dim_at-dim-requires c = literal-inside c.requires.asks.stands c.requires.bound.0 c.requires.bound.1

pub bounds-state-dim : goal.bounds-state-dim
bounds-state-dim c = omega (arith, c.dim_at-dim.ensures.0, literal-dimension c.args.f.now c.args.at c.requires.bound.0 c.requires.bound.1 c.requires.asks)

pub returns : goal.returns
returns c = literal-weighed c.args.f.now c.args.at c.requires.bound.0 c.requires.bound.1 c.args.state.now _ _ _ _ _ c.requires.asks c.cost-weight.ensures c.dim_at-dim.ensures.0 refl refl
