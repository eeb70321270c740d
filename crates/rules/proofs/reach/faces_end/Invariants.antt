use Rattle.rules.proofs.Moving.{Passed}
use Rattle.rules.proofs.reach.faces_end.Given as goal

abbrev pub invariant-loop-i : goal.invariant-loop-i
invariant-loop-i l = Passed l.l l.n l.at l.end l.e l.i
