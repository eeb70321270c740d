use Rattle.writing.proofs.WriteLaws.{room_next, writes-next}
use Rattle.claims.proofs.printing.whole.Goals as goal

pub last_line-requires : goal.last_line-requires
last_line-requires c = room_next _ c.requires.2 c.lines.ensures.wrote

pub returns : goal.returns
returns c = writes-next c.lines.ensures c.last_line.ensures
