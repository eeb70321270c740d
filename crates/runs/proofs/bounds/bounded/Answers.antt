use Rattle.replies.proofs.ReplyLaws.{end-inside}
use Rattle.runs.proofs.BoundLaws.{bounded-replies}
use Rattle.runs.proofs.bounds.bounded.Goals as goal

pub run-r-requires : goal.run-r-requires
run-r-requires c = (c.requires.0, (c.requires.1, c.requires.2))

pub ending-requires : goal.ending-requires
ending-requires c = end-inside c.requires.0 c.run-r.ensures c.used-end.ensures

pub returns : goal.returns
returns c = let p = c.args in bounded-replies p.sort p.d c.requires.0 c.requires.1 c.requires.2 c.run-r.ensures c.used-end.ensures c.ending.ensures
