use Rattle.exports.proofs.FitLaws.{delivered-number}
use Rattle.exports.proofs.lf_write_step.Goals as goal

pub returns : goal.returns
returns c = delivered-number c.write_step.result c.write_step.ensures.equal c.counted.ensures.0
