use Rattle.replies.proofs.ReplyLaws.{end-inside}
use Rattle.results.proofs.SideLaws.{both-made}
use Rattle.results.proofs.boundaries.run.Goals as goal

pub run-x-requires : goal.run-x-requires
run-x-requires c = (c.requires.0, (c.requires.1, c.requires.2.sides))

pub ending-a-requires : goal.ending-a-requires
ending-a-requires c = end-inside c.requires.0 c.run-x.ensures c.used-end.ensures

pub returns : goal.returns
returns c = let p = c.args in both-made p.r.now p.out0.now p.out1.now c.requires.0 c.requires.1 c.requires.2.size c.requires.2.sides c.requires.3 c.requires.4 c.run-x.ensures c.used-end.ensures c.ending-a.ensures c.deliver.ensures c.deliver-2.ensures c.with_size.ensures
