use Rattle.counterexample.proofs.StateLaws.{left}
use Rattle.counterexample.proofs.explore.+explore.Given as goal

abbrev pub decreases-explore : goal.decreases-explore
decreases-explore l = left l.state.now
