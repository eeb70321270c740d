use Rattle.demand.proofs.Traces.{replies-says}
use Rattle.demand.proofs.calls.face.Goals as goal

pub returns : goal.returns
returns c = replies-says c.face.ensures
