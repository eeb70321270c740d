use Rattle.exports.proofs.FitLaws.{delivered-number}
use Rattle.exports.proofs.lf_read_face.Goals as goal

pub returns : goal.returns
returns c = delivered-number c.read_formula.result c.read_formula.ensures.equal c.counted.ensures.0
