use mathlib.Core.Path.{sym, ap, ◌∙◌}
use mathlib.Core.List.{[], ◌∷◌, ◌++◌}
use Rattle.kinds.specs.Kinds.{name_bytes}
use Rattle.writing.proofs.WriteLaws.{room-first, room_next, room_as, wrote_as, writes-next, writes-as}
use Rattle.listing.specs.Writing.{step_of}
use Rattle.listing.proofs.LineLaws.{head-is}
use Rattle.listing.proofs.lines.head.Goals as goal

pub decimal-requires : goal.decimal-requires
decimal-requires c = room-first _ _ (room_as (sym (head-is c.args.c.step (step_of c.args.l.now c.args.c.step))) c.requires.room)

pub put_byte-requires : goal.put_byte-requires
put_byte-requires c = room-first (32 ∷ []) _ (room_next _ (room_as (sym (head-is c.args.c.step (step_of c.args.l.now c.args.c.step))) c.requires.room) c.decimal.ensures.wrote)

pub put-requires : goal.put-requires
put-requires c = room_as (sym (c.name_of.ensures ∙ ap name_bytes c.kind.ensures)) (room-first (name_bytes (step_of c.args.l.now c.args.c.step).kind) _ (room_next (name_bytes (step_of c.args.l.now c.args.c.step).kind ++ _) (room_next _ (room_as (sym (head-is c.args.c.step (step_of c.args.l.now c.args.c.step))) c.requires.room) c.decimal.ensures.wrote) c.put_byte.ensures.wrote))

pub put-requires-2 : goal.put-requires-2
put-requires-2 c = room-first (32 ∷ 91 ∷ []) _ (room_next _ (room_next (name_bytes (step_of c.args.l.now c.args.c.step).kind ++ _) (room_next _ (room_as (sym (head-is c.args.c.step (step_of c.args.l.now c.args.c.step))) c.requires.room) c.decimal.ensures.wrote) c.put_byte.ensures.wrote) (wrote_as (c.name_of.ensures ∙ ap name_bytes c.kind.ensures) c.put.ensures.wrote))

pub references-requires : goal.references-requires
references-requires c = record { points = c.requires.points; room = room-first _ (93 ∷ 32 ∷ []) (room_next _ (room_next ((32 ∷ 91 ∷ []) ++ _) (room_next (name_bytes (step_of c.args.l.now c.args.c.step).kind ++ _) (room_next _ (room_as (sym (head-is c.args.c.step (step_of c.args.l.now c.args.c.step))) c.requires.room) c.decimal.ensures.wrote) c.put_byte.ensures.wrote) (wrote_as (c.name_of.ensures ∙ ap name_bytes c.kind.ensures) c.put.ensures.wrote)) c.put-2.ensures.wrote) }

pub put-requires-3 : goal.put-requires-3
put-requires-3 c = room_next (93 ∷ 32 ∷ []) (room_next _ (room_next ((32 ∷ 91 ∷ []) ++ _) (room_next (name_bytes (step_of c.args.l.now c.args.c.step).kind ++ _) (room_next _ (room_as (sym (head-is c.args.c.step (step_of c.args.l.now c.args.c.step))) c.requires.room) c.decimal.ensures.wrote) c.put_byte.ensures.wrote) (wrote_as (c.name_of.ensures ∙ ap name_bytes c.kind.ensures) c.put.ensures.wrote)) c.put-2.ensures.wrote) c.references.ensures.wrote

pub returns : goal.returns
returns c = writes-as (head-is c.args.c.step (step_of c.args.l.now c.args.c.step)) (writes-next c.decimal.ensures (writes-next c.put_byte.ensures (writes-next (writes-as (c.name_of.ensures ∙ ap name_bytes c.kind.ensures) c.put.ensures) (writes-next c.put-2.ensures (writes-next c.references.ensures c.put-3.ensures)))))
