use mathlib.Core.Path.{subst}
use mathlib.Core.Bool.{Bool}
use Rattle.calculus.specs.Door.{reply, endpoint}
use Rattle.numbers.specs.Answers.{Numbers}
use Rattle.exports.proofs.FitLaws.{numbers}
use Rattle.exports.proofs.lf_endpoint.Goals as goal

pub returns : goal.returns
returns c = let p = c.args in subst (λ (b : Bool). Numbers (reply (endpoint p.d p.phi.now p.r.now b) p.ledger.now) c.counted.result c.endpoint.new.l _) c.is_one-end.ensures (numbers c.endpoint.ensures c.counted.ensures.1)
