use Rattle.ledger.proofs.PointLaws.{Walks}
use Rattle.ledger.proofs.steps.walk_to.Given as goal

abbrev pub invariant-loop-step : goal.invariant-loop-step
invariant-loop-step l = Walks l.l l.step l.at
