use Rattle.replies.proofs.ReplyLaws.{end-inside}
use Rattle.results.proofs.ResultLaws.{one-made}
use Rattle.results.proofs.IndexLaws.{change-result}
use Rattle.results.proofs.substitutions.run.Goals as goal

pub run-x-requires : goal.run-x-requires
run-x-requires c = (c.requires.0, (c.requires.1, c.requires.2, c.requires.3.is))

pub ending-a-requires : goal.ending-a-requires
ending-a-requires c = end-inside c.requires.0 c.run-x.ensures c.used-end.ensures

pub returns : goal.returns
returns c = let p = c.args in one-made (change-result p.sort p.t.now p.r.now p.out.now p.op c.requires.0 c.requires.1 c.requires.2) c.requires.3 c.requires.4 c.run-x.ensures c.used-end.ensures c.ending-a.ensures c.deliver.ensures c.with_size.ensures
