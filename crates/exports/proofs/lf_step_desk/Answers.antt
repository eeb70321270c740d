use borrow.Author.Rules.{rules}
use Rattle.calculus.proofs.Fields.{below_each}
use Rattle.exports.proofs.FitLaws.{desk-low, desk-number}
use Rattle.exports.proofs.lf_step_desk.Goals as goal

pub verdict-requires : goal.verdict-requires
verdict-requires c = let l = c.args.ledger.now in desk-low l (below_each 256 l (λ i h. search rules)) c.step_desk.ensures.gives

pub returns : goal.returns
returns c = desk-number c.step_desk.ensures.gives c.verdict.ensures
