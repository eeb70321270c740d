use Rattle.replies.proofs.ReplyLaws.{end-inside}
use Rattle.results.proofs.ResultLaws.{one-made}
use Rattle.results.proofs.IndexLaws.{forall-result}
use Rattle.results.proofs.foralls.run.Goals as goal

pub run-r-requires : goal.run-r-requires
run-r-requires c = (c.requires.0, (c.requires.1, c.requires.2, c.requires.3.is.bytes))

pub ending-a-requires : goal.ending-a-requires
ending-a-requires c = end-inside c.requires.0 c.run-r.ensures c.used-end.ensures

pub returns : goal.returns
returns c = let p = c.args in one-made (forall-result p.f.now p.k p.out.now c.requires.0 c.requires.1 c.requires.2) c.requires.3 c.requires.4 c.run-r.ensures c.used-end.ensures c.ending-a.ensures c.deliver.ensures c.with_size.ensures
