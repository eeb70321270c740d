use Rattle.contexts.proofs.takes.+take.Given as goal

abbrev pub decreases-take : goal.decreases-take
decreases-take l = l.i
