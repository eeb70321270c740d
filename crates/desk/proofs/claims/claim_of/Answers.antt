use Rattle.desk.proofs.ClaimLaws.{claimed}
use Rattle.desk.proofs.claims.claim_of.Goals as goal

pub returns : goal.returns
returns c = claimed c.requires _ c.predicate.ensures c.operands_from.ensures c.next-next.ensures.1
