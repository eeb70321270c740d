use mathlib.Core.Path.{ap, ◌∙◌}
use Rattle.numbers.specs.Answers.{count_number}
use Rattle.exports.proofs.lf_fence_face.Goals as goal

pub returns : goal.returns
returns c = c.counted.ensures.0 ∙ ap count_number c.count.ensures
