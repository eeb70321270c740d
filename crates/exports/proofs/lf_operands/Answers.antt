use borrow.Author.Rules.{rules}
use mathlib.Core.Path.{ap₂, ◌∙◌}
use native.Mathlib.Omega.{arith}
use Rattle.calculus.proofs.Fields.{below_each}
use Rattle.lookup.proofs.LookupLaws.{part_in}
use Rattle.numbers.specs.Answers.{part_number}
use Rattle.exports.proofs.lf_operands.Goals as goal

pub part-requires : goal.part-requires
part-requires c = let a = c.args in let p = part_in a.ledger.now a.step (below_each 256 a.ledger.now (λ i h. search rules)) in (omega (arith, p.small, c.locate.ensures.0), omega (arith, p.small, c.locate.ensures.1))

pub returns : goal.returns
returns c = c.part.ensures ∙ ap₂ part_number c.locate.ensures.0 c.locate.ensures.1
