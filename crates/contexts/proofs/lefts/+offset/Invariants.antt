use Rattle.contexts.proofs.lefts.+offset.Given as goal

abbrev pub decreases-offset : goal.decreases-offset
decreases-offset l = l.i
