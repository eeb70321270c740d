use mathlib.Core.Path.{ap, ◌∙◌}
use Rattle.numbers.specs.Answers.{count_number}
use Rattle.exports.proofs.lf_well_formed.Goals as goal

pub returns : goal.returns
returns c = c.counted.ensures.0 ∙ ap count_number c.well_formed-2.ensures
