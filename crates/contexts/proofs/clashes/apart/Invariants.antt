use Rattle.contexts.proofs.ClashLaws.{MetAll}
use Rattle.contexts.proofs.clashes.apart.Given as goal

abbrev pub invariant-loop-x : goal.invariant-loop-x
invariant-loop-x l = MetAll l.g l.seen l.rest

abbrev pub decreases-loop-x : goal.decreases-loop-x
decreases-loop-x l = l.rest.count
