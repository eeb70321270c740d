use Rattle.exports.proofs.FitLaws.{delivered-number}
use Rattle.exports.proofs.lf_facesteps.Goals as goal

pub returns : goal.returns
returns c = delivered-number c.facesteps.result c.facesteps.ensures.delivers.equal c.counted.ensures.0
