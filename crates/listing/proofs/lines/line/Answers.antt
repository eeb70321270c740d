use mathlib.Core.Path.{sym}
use mathlib.Core.List.{[], ◌∷◌}
use Rattle.writing.proofs.WriteLaws.{room-first, room_next, room_as, writes-next, writes-as}
use Rattle.listing.specs.Lines.{head_text}
use Rattle.listing.specs.Writing.{step_of}
use Rattle.listing.proofs.LineLaws.{line-is}
use Rattle.listing.proofs.lines.line.Goals as goal

pub head-requires : goal.head-requires
head-requires c = record { points = c.requires.points; room = room-first (head_text c.args.c.step (step_of c.args.l.now c.args.c.step)) _ (room_as (sym (line-is c.args.c.step (step_of c.args.l.now c.args.c.step))) c.requires.room) }

pub judgement-requires : goal.judgement-requires
judgement-requires c = record { points = c.requires.points; room = room-first _ (10 ∷ []) (room_next _ (room_as (sym (line-is c.args.c.step (step_of c.args.l.now c.args.c.step))) c.requires.room) c.head.ensures.wrote) }

pub put_byte-requires : goal.put_byte-requires
put_byte-requires c = room_next (10 ∷ []) (room_next _ (room_as (sym (line-is c.args.c.step (step_of c.args.l.now c.args.c.step))) c.requires.room) c.head.ensures.wrote) c.judgement.ensures.wrote

pub returns : goal.returns
returns c = writes-as (line-is c.args.c.step (step_of c.args.l.now c.args.c.step)) (writes-next c.head.ensures (writes-next c.judgement.ensures c.put_byte.ensures))
