use Rattle.demand.proofs.Traces.{replies-says}
use Rattle.demand.proofs.calls.interval.Goals as goal

pub returns : goal.returns
returns c = replies-says c.interval.ensures
