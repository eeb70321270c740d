use Rattle.std.proofs.Common.{length}
use Rattle.listing.proofs.judgements.+operands.Given as goal

abbrev pub decreases-operands : goal.decreases-operands
decreases-operands l = length l.fields.now
