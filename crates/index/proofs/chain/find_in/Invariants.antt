use Rattle.index.proofs.FindLaws.{Walk}
use Rattle.index.proofs.chain.find_in.Given as goal

abbrev pub invariant-loop-i : goal.invariant-loop-i
invariant-loop-i l = Walk l.l l.x l.b l.predicate l.operands l.i l.found

abbrev pub decreases-loop-i : goal.decreases-loop-i
decreases-loop-i l = l.i
