use Rattle.exports.proofs.FitLaws.{delivered-number}
use Rattle.exports.proofs.lf_write_interval.Goals as goal

pub returns : goal.returns
returns c = delivered-number c.write_formula.result c.write_formula.ensures.equal c.counted.ensures.0
