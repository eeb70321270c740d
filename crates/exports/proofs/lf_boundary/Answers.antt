use borrow.Author.Rules.{rules}
use Rattle.calculus.proofs.Fields.{below_each}
use Rattle.exports.proofs.FitLaws.{packs-both, numbers}
use Rattle.exports.proofs.lf_boundary.Goals as goal

pub made-requires : goal.made-requires
made-requires c = let l = c.args.ledger.now in packs-both (below_each 256 l (λ i h. search rules)) c.boundary.ensures

pub returns : goal.returns
returns c = numbers c.boundary.ensures c.made.ensures.1
