use native.Mathlib.Omega.{arith}
use Rattle.passes.proofs.TokenLaws.{stepped-on}
use Rattle.syntax.proofs.DepthLaws.{deepening-start, deepening-above, deepening-turn, deepening-more, deepening-over, deepening-end}
use Rattle.syntax.proofs.depths.shallow.Goals as goal

pub loop-p-init : goal.loop-p-init
loop-p-init c = let a = c.args in deepening-start a.sort a.s.now c.requires _ c.start-p.ensures.0 c.start-p.ensures.1

pub returns-then-above-ge-TOO_DEEP : goal.returns-then-above-ge-TOO_DEEP
returns-then-above-ge-TOO_DEEP c = deepening-over c.loop-p.invariant c.loop-p-test.true (omega arith)

pub onward-above-requires : goal.onward-above-requires
onward-above-requires c = deepening-above c.loop-p.invariant c.loop-p-test.true (omega arith)

pub loop-p-smaller : goal.loop-p-smaller
loop-p-smaller c = let g = stepped-on (deepening-turn c.loop-p.invariant c.loop-p-test.true c.step-x.ensures) c.place_by-p.ensures in omega (arith, g.0, g.1)

pub loop-p-preserved : goal.loop-p-preserved
loop-p-preserved c = deepening-more c.loop-p.invariant c.loop-p-test.true c.step-x.ensures (omega arith) c.onward-above.ensures c.place_by-p.ensures

pub returns : goal.returns
returns c = deepening-end c.loop-p.invariant c.loop-p-test.false
