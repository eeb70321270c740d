use Rattle.exports.proofs.FitLaws.{delivered-number}
use Rattle.exports.proofs.lf_rule_name.Goals as goal

pub returns : goal.returns
returns c = delivered-number c.rule_name.result c.rule_name.ensures.equal c.counted.ensures.0
