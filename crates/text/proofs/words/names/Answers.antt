use Rattle.std.proofs.Common.{sym, ap}
use Rattle.calculus.specs.Table.{text_bytes}
use Rattle.text.specs.Words.{names}
use Rattle.text.proofs.words.names.Goals as goal

pub returns-in-Faces : goal.returns-in-Faces
unfolding text_bytes
returns-in-Faces c = ap names (sym c.in-Faces.is)

pub returns-in-Intervals : goal.returns-in-Intervals
unfolding text_bytes
returns-in-Intervals c = ap names (sym c.in-Intervals.is)
