use Rattle.std.proofs.Common.{[], ◌∷◌}
use Rattle.writing.proofs.WriteLaws.{room-first, room_next, writes-next}
use Rattle.claims.proofs.printing.ending.Goals as goal

pub put-requires : goal.put-requires
put-requires c = room-first _ _ c.requires

pub decimal-requires : goal.decimal-requires
decimal-requires c = room-first _ (10 ∷ []) (room_next _ c.requires c.put.ensures.wrote)

pub put_byte-requires : goal.put_byte-requires
put_byte-requires c = room_next (10 ∷ []) (room_next _ c.requires c.put.ensures.wrote) c.decimal.ensures.wrote

pub returns : goal.returns
returns c = writes-next c.put.ensures (writes-next c.decimal.ensures c.put_byte.ensures)
