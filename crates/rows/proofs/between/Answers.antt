use mathlib.Core.Path.{refl}
use Rattle.rows.specs.Flattening.{all_lines}
use Rattle.rows.proofs.between.Goals as goal

pub returns : goal.returns
unfolding all_lines
returns c = refl
