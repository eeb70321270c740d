use mathlib.Core.Path.{ap, ◌∙◌}
use Rattle.numbers.specs.Answers.{repeat_number}
use Rattle.exports.proofs.lf_repeats.Goals as goal

pub returns : goal.returns
returns c = c.compared.ensures ∙ ap repeat_number c.repeats.ensures
