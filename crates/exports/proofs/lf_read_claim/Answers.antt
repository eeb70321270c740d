use Rattle.exports.proofs.FitLaws.{claim-number, claim-fits}
use Rattle.exports.proofs.lf_read_claim.Goals as goal

pub claim-requires : goal.claim-requires
claim-requires c = claim-fits c.read_claim.ensures

pub returns : goal.returns
returns c = claim-number c.read_claim.ensures c.claim.ensures
