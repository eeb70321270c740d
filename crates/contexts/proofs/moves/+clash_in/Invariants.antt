use Rattle.contexts.proofs.moves.+clash_in.Given as goal

abbrev pub decreases-clash_in : goal.decreases-clash_in
decreases-clash_in l = l.h.count
