use Prim.Native.Nat.{ℕ}
use native.Mathlib.Omega.{arith}
use mathlib.Core.Path.{refl}
use lib.ListN.{replicate, length-replicate}
use Rattle.passes.proofs.TokenLaws.{stepped-on}
use Rattle.passes.proofs.SideLaws.{siding-start, siding-length, siding-few, siding-turn, siding-room, siding-more, siding-end, bits-zeros}
use Rattle.passes.proofs.sides.side.Goals as goal

-- The same with a stack of the ends of the expressions to come.

pub loop-p-init : goal.loop-p-init
loop-p-init c = let a = c.args in siding-start a.s.now a.out.now (replicate 1024 0) a.e c.requires (length-replicate {A = ℕ} 1024 0) (bits-zeros 1024) _ c.start-p.ensures.0 c.start-p.ensures.1

pub bounds-ends-top : goal.bounds-ends-top
bounds-ends-top c = omega (arith, siding-few c.loop-p.invariant c.requires.whole)

pub bounds-s-at : goal.bounds-s-at
bounds-s-at c = let t = siding-turn c.loop-p.invariant c.loop-p-test.true c.step-x.ensures in omega (arith, t.forward, t.inside)

pub side_out-o-requires : goal.side_out-o-requires
side_out-o-requires c = siding-room c.loop-p.invariant c.loop-p-test.true c.step-x.ensures (λ i. omega (arith, c.type_inv.s i)) c.requires.room

pub push-requires : goal.push-requires
push-requires c = (c.loop-p.invariant.bits _, omega (arith, siding-few c.loop-p.invariant c.requires.whole), c.loop-p.invariant.size, refl)

pub loop-p-smaller : goal.loop-p-smaller
loop-p-smaller c = let g = stepped-on (siding-turn c.loop-p.invariant c.loop-p-test.true c.step-x.ensures) c.place_by-p.ensures in omega (arith, g.0, g.1)

pub loop-p-preserved : goal.loop-p-preserved
loop-p-preserved c = siding-more c.loop-p.invariant c.loop-p-test.true c.step-x.ensures c.place_by-p.ensures c.side_out-o.ensures c.push.ensures

pub shape_of-out : goal.shape_of-out
shape_of-out c = siding-length c.loop-p.invariant

pub returns : goal.returns
returns c = siding-end c.loop-p.invariant c.loop-p-test.false
