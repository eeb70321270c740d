use Rattle.normal.proofs.AnswerLaws.{normal-length}
use Rattle.exports.proofs.FitLaws.{delivered-number}
use Rattle.exports.proofs.lf_normal.Goals as goal

pub returns : goal.returns
returns c = delivered-number c.length.result (normal-length c.length.result c.normal.ensures c.length.ensures) c.counted.ensures.0
