use native.Mathlib.Omega.{arith}
use mathlib.Core.Path.{refl}
use Rattle.passes.proofs.TokenLaws.{stepped-on}
use Rattle.passes.proofs.PassLaws.{summed-start, summed_turn, summed-small, summed-more, summed-end}
use Rattle.passes.proofs.weighing.weigh.Goals as goal

-- The sum so far, with what the tokens to come weigh, is the sum of all.

pub loop-p-init : goal.loop-p-init
loop-p-init c = let a = c.args in summed-start a.sort a.rule a.hit a.s.now c.requires.0 _ c.start-p.ensures.0 c.start-p.ensures.1

pub weight-z-requires : goal.weight-z-requires
weight-z-requires c = (summed_turn c.loop-p.invariant c.loop-p-test.true c.step-x.ensures).field (λ i. omega (arith, c.type_inv.s i))

pub overflow_add-len : goal.overflow_add-len
overflow_add-len c = let k = summed-small c.loop-p.invariant c.loop-p-test.true c.step-x.ensures c.requires.1 c.weight-z.ensures in omega (arith, c.loop-p.invariant.len-small, c.loop-p.invariant.inside, c.requires.0.short, k.len)

pub overflow_add-nodes : goal.overflow_add-nodes
overflow_add-nodes c = let k = summed-small c.loop-p.invariant c.loop-p-test.true c.step-x.ensures c.requires.1 c.weight-z.ensures in omega (arith, c.loop-p.invariant.nodes-small, c.loop-p.invariant.inside, c.requires.0.short, k.nodes)

pub loop-p-smaller : goal.loop-p-smaller
loop-p-smaller c = let g = stepped-on (summed_turn c.loop-p.invariant c.loop-p-test.true c.step-x.ensures) c.place_by-p.ensures in omega (arith, g.0, g.1)

pub loop-p-preserved : goal.loop-p-preserved
loop-p-preserved c = summed-more c.loop-p.invariant c.loop-p-test.true c.step-x.ensures c.requires.1 c.weight-z.ensures c.place_by-p.ensures refl refl c.larger-bound.ensures

pub returns : goal.returns
returns c = summed-end c.loop-p.invariant c.loop-p-test.false
