use Rattle.demand.proofs.Traces.{replies-says}
use Rattle.demand.proofs.calls.entails.Goals as goal

pub returns : goal.returns
returns c = replies-says c.entails.ensures
