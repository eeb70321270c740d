use Rattle.std.proofs.Common.{sym, ◌∙◌}
use borrow.Author.Tests.{leb-true}
use Rattle.index.proofs.FindLaws.{bucket-is, found-slots}
use Rattle.index.proofs.MarkLaws.{knows-none, knows-marked}
use Rattle.index.proofs.marks.finished.Goals as goal

pub find_in-requires : goal.find_in-requires
find_in-requires c = bucket-is c.requires c.heads.result c.bucket_of-b.result 6 c.args.operands.now c.heads.ensures c.bucket_of-b.ensures

pub is_marked-requires : goal.is_marked-requires
is_marked-requires c = found-slots c.requires 6 _ c.args.operands.now c.in_ok-i.ensures

pub returns-then-is_marked : goal.returns-then-is_marked
returns-then-is_marked c = knows-marked c.requires c.args.operands.now _ c.in_ok-i.ensures (leb-true _ _ (sym c.is_marked.ensures ∙ c.if-is_marked.true))

pub returns-in_err-i : goal.returns-in_err-i
returns-in_err-i c = knows-none _ c.args.operands.now c.from_residual.result c.from_residual.ensures.0
