use mathlib.Core.Path.{refl}
use Rattle.rows.specs.Flattening.{start_at}
use Rattle.rows.proofs.RowLaws.{start-below}
use Rattle.rows.proofs.start.Goals as goal

pub returns : goal.returns
unfolding start_at
returns c = (refl, start-below c.args.k c.requires)
