use Rattle.writing.proofs.WriteLaws.{writes-next}
use Rattle.writing.proofs.Writer.begin.Goals as goal

pub returns : goal.returns
returns c = writes-next c.put_byte.ensures (writes-next c.put_name.ensures c.put_byte-2.ensures)
