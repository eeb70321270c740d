use Rattle.replies.proofs.ReplyLaws.{end-inside}
use Rattle.runs.proofs.ImplicationLaws.{endpoint-replies}
use Rattle.runs.proofs.entailments.run_endpoint.Goals as goal

pub run-x-requires : goal.run-x-requires
run-x-requires c = (c.requires.0, (c.requires.1, c.requires.2, c.requires.3, c.requires.4))

pub ending-requires : goal.ending-requires
ending-requires c = end-inside c.requires.0 c.run-x.ensures c.used-end.ensures

pub returns : goal.returns
returns c = let p = c.args in endpoint-replies p.d p.phi.now p.r.now p.hi c.requires.0 c.requires.1 c.requires.2 c.requires.3 c.run-x.ensures c.used-end.ensures c.ending.ensures
