use Rattle.exports.proofs.FitLaws.{shown-number}
use Rattle.exports.proofs.lf_counterexample.Goals as goal

pub returns : goal.returns
returns c = shown-number c.counterexample.ensures c.counted.ensures.0
