use native.Mathlib.Omega.{arith}
use Rattle.passes.proofs.TokenLaws.{stepped-on}
use Rattle.passes.proofs.PassLaws.{rewriting-start, rewriting-length, rewriting-turn, rewriting-room, rewriting-more, rewriting-end}
use Rattle.passes.proofs.rewriting.rewrite.Goals as goal

-- The bytes so far, with what the tokens to come become, are the result.

pub loop-p-init : goal.loop-p-init
loop-p-init c = let a = c.args in rewriting-start a.sort a.rule a.zero.now a.one.now a.s.now a.out.now c.requires _ c.start-p.ensures.0 c.start-p.ensures.1

pub bounds-s-at : goal.bounds-s-at
bounds-s-at c = let t = rewriting-turn c.loop-p.invariant c.loop-p-test.true c.step-x.ensures in omega (arith, t.forward, t.inside)

pub node_out-o-requires : goal.node_out-o-requires
node_out-o-requires c = rewriting-room c.loop-p.invariant c.loop-p-test.true c.step-x.ensures (λ i. omega (arith, c.type_inv.s i)) c.requires.room

pub loop-p-smaller : goal.loop-p-smaller
loop-p-smaller c = let g = stepped-on (rewriting-turn c.loop-p.invariant c.loop-p-test.true c.step-x.ensures) c.place_by-p.ensures in omega (arith, g.0, g.1)

pub loop-p-preserved : goal.loop-p-preserved
loop-p-preserved c = rewriting-more c.loop-p.invariant c.loop-p-test.true c.step-x.ensures c.place_by-p.ensures c.node_out-o.ensures

pub shape_of-out : goal.shape_of-out
shape_of-out c = rewriting-length c.loop-p.invariant

pub returns : goal.returns
returns c = rewriting-end c.loop-p.invariant c.loop-p-test.false
