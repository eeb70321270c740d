use native.Mathlib.Omega.{arith}
use mathlib.Core.Path.{ap, ◌∙◌}
use Rattle.clauses.specs.Words.{bits}
use Rattle.clauses.proofs.Selecting.{bits_none}
use Rattle.literals.proofs.MaskLaws.{marking-start, marking-next, marking-end}
use Rattle.literals.proofs.rows.mask.Goals as goal

pub loop-i-init : goal.loop-i-init
loop-i-init c = marking-start c.args.numbers.now _ 256 c.requires (omega arith) (ap bits c.none-c.ensures ∙ bits_none)

pub bounds-numbers-i : goal.bounds-numbers-i
bounds-numbers-i c = c.loop-i.invariant.upto

pub bounds-numbers-i-in-loop-i : goal.bounds-numbers-i-in-loop-i
bounds-numbers-i-in-loop-i c = omega (arith, c.loop-i-test.true, c.requires)

pub loop-i-preserved : goal.loop-i-preserved
loop-i-preserved c = marking-next c.loop-i.invariant (omega (arith, c.loop-i-test.true, c.requires)) c.marked-c.ensures

pub returns : goal.returns
returns c = marking-end c.loop-i.invariant (omega (arith, c.loop-i-test.false, c.requires))
