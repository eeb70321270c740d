use Rattle.std.proofs.Common.{arith}
use Rattle.text.proofs.WholeLaws.{both-short-left, both-short-right, both-put}
use Rattle.text.proofs.reads.deliver_both.Goals as goal

pub returns-then-a-left : goal.returns-then-a-left
returns-then-a-left c = let a = c.args in both-short-left a.d a.x.now a.y.now a.a.now a.b.now c.if-a-left.true

pub returns-then-short : goal.returns-then-short
returns-then-short c = let a = c.args in both-short-right a.d a.x.now a.y.now a.a.now a.b.now c.if-short.true

pub returns : goal.returns
returns c = let a = c.args in both-put a.d a.x.now a.y.now a.a.now a.b.now (omega arith) (omega arith) c.copy.ensures c.copy-2.ensures
