use Rattle.index.proofs.HashLaws.{hash-long, hash-short}
use Rattle.index.proofs.bucket.hash.Goals as goal

pub returns-then-n-ge4 : goal.returns-then-n-ge4
returns-then-n-ge4 c = hash-long c.args.predicate c.args.s.now c.if-n-ge4.true c.blocks-h.ensures.0 c.saturating_sub.ensures c.eight.ensures.0

pub returns : goal.returns
returns c = hash-short c.args.predicate c.args.s.now c.if-n-ge4.false c.few.ensures
