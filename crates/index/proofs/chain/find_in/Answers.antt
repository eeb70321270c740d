use native.Mathlib.Omega.{arith}
use mathlib.Core.Path.{◌≡◌}
use Prim.Native.Nat.{suc, ◌-◌}
use Rattle.index.proofs.FindLaws.{slots-inside, walk_start, walk_inside, walk-noted, walk-points, walk-less, walk_turn, none_found, one_found}
use Rattle.index.proofs.RoomLaws.{holds-eight}
use Rattle.index.proofs.chain.find_in.Goals as goal

pub slot-i-requires : goal.slot-i-requires
slot-i-requires c = omega (arith, c.requires.2, c.requires.0.room, holds-eight c.requires.0.led)

pub loop-i-init : goal.loop-i-init
loop-i-init c = walk_start c.requires.0 c.args.b c.args.predicate c.args.operands.now c.requires.1 _ c.requires.2 c.slot-i.ensures.0

pub find_step-c-requires : goal.find_step-c-requires
find_step-c-requires c = let k : c.loop-i.i ≡ suc (c.loop-i.i - 1) = omega arith in walk-noted c.requires.0 c.args.b c.args.predicate c.args.operands.now c.requires.1 c.loop-i.invariant (c.loop-i.i - 1) k c.places_from-p.result c.places_from-p.ensures.0

pub better-found-requires : goal.better-found-requires
better-found-requires c = let k : c.loop-i.i ≡ suc (c.loop-i.i - 1) = omega arith in walk-points c.requires.0 c.args.b c.args.predicate c.args.operands.now c.requires.1 c.loop-i.invariant (c.loop-i.i - 1) k c.find_step-c.ensures

pub link-i-requires : goal.link-i-requires
link-i-requires c = let k : c.loop-i.i ≡ suc (c.loop-i.i - 1) = omega arith in slots-inside c.requires.0 _ (walk_inside c.requires.0 c.args.b c.args.predicate c.args.operands.now c.requires.1 c.loop-i.invariant (c.loop-i.i - 1) k)

pub loop-i-smaller : goal.loop-i-smaller
loop-i-smaller c = let k : c.loop-i.i ≡ suc (c.loop-i.i - 1) = omega arith in walk-less c.requires.0 c.args.b c.args.predicate c.args.operands.now c.requires.1 c.loop-i.invariant (c.loop-i.i - 1) k c.link-i.ensures

pub loop-i-preserved : goal.loop-i-preserved
loop-i-preserved c = let k : c.loop-i.i ≡ suc (c.loop-i.i - 1) = omega arith in walk_turn c.requires.0 c.args.b c.args.predicate c.args.operands.now c.requires.1 c.loop-i.invariant (c.loop-i.i - 1) k c.find_step-c.result.step c.find_step-c.ensures.0 c.better-found.ensures c.link-i.ensures

pub slot-requires : goal.slot-requires
slot-requires c = omega (arith, c.requires.0.room, holds-eight c.requires.0.led)

pub returns-in-Some : goal.returns-in-Some
returns-in-Some c = one_found c.requires.0 c.args.b c.args.predicate c.args.operands.now c.requires.1 c.loop-i.invariant (omega arith) c.in-Some.is

pub returns-in-None : goal.returns-in-None
returns-in-None c = none_found c.requires.0 c.args.b c.args.predicate c.args.operands.now c.requires.1 c.loop-i.invariant (omega arith) c.in-None.is c.slot.ensures.0
