use Rattle.contexts.proofs.moves.+first_compound.Given as goal

abbrev pub decreases-first_compound : goal.decreases-first_compound
decreases-first_compound l = l.g.count
