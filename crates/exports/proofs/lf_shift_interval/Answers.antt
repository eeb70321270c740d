use borrow.Author.Rules.{rules}
use Rattle.calculus.proofs.Fields.{below_each}
use Rattle.exports.proofs.FitLaws.{packs-one, numbers}
use Rattle.exports.proofs.lf_shift_interval.Goals as goal

pub made-requires : goal.made-requires
made-requires c = let l = c.args.ledger.now in packs-one (below_each 256 l (λ i h. search rules)) c.shift.ensures

pub returns : goal.returns
returns c = numbers c.shift.ensures c.made.ensures.0
