use mathlib.Core.Path.{sym}
use native.Mathlib.Omega.{arith}
use mathlib.Core.List.{[], ◌∷◌}
use Rattle.calculus.specs.Table.{predicate}
use Rattle.kinds.proofs.KindLaws.{numbered}
use Rattle.writing.proofs.WriteLaws.{room-first, room_next, room_as, writes-next, writes-as}
use Rattle.listing.specs.Writing.{step_of}
use Rattle.listing.proofs.LineLaws.{formed, judgement-is, operands-front, operands-wrote}
use Rattle.listing.proofs.judgements.judgement.Goals as goal

pub put_byte-requires : goal.put_byte-requires
put_byte-requires c = room-first (40 ∷ []) _ (room_as (sym (judgement-is (step_of c.args.l.now c.args.c.step).judgement c.predicate-predicate.ensures)) c.requires.room)

pub put_predicate-requires : goal.put_predicate-requires
put_predicate-requires c = (omega (arith, c.predicate-predicate.ensures, (numbered (predicate (step_of c.args.l.now c.args.c.step).judgement)).1), room-first _ _ (room_next _ (room_as (sym (judgement-is (step_of c.args.l.now c.args.c.step).judgement c.predicate-predicate.ensures)) c.requires.room) c.put_byte.ensures.wrote))

pub operands-requires-2 : goal.operands-requires-2
operands-requires-2 c = operands-front (step_of c.args.l.now c.args.c.step).judgement c.predicate-predicate.ensures c.fields_of.ensures c.operands.ensures (formed c.requires.points).limits (room_next _ (room_next _ (room_as (sym (judgement-is (step_of c.args.l.now c.args.c.step).judgement c.predicate-predicate.ensures)) c.requires.room) c.put_byte.ensures.wrote) c.put_predicate.ensures.wrote)

pub returns : goal.returns
returns c =
    let j = (step_of c.args.l.now c.args.c.step).judgement in
    writes-as (judgement-is j c.predicate-predicate.ensures)
    (writes-next c.put_byte.ensures
    (writes-next c.put_predicate.ensures
    (record { wrote = operands-wrote j c.predicate-predicate.ensures c.fields_of.ensures c.operands.ensures (formed c.requires.points).limits c.operands-2.ensures.prints; same = c.operands-2.ensures.same })))
