use Rattle.exports.proofs.FitLaws.{numbers}
use Rattle.exports.proofs.lf_entails.Goals as goal

pub returns : goal.returns
returns c = numbers c.entails.ensures c.counted.ensures.1
