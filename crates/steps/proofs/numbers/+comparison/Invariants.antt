use Rattle.steps.proofs.numbers.+comparison.Given as goal

abbrev pub decreases-comparison : goal.decreases-comparison
decreases-comparison l = l.m
