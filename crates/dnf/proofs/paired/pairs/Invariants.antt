use lib.ListN.{drop}
use Rattle.clauses.specs.Normal.{pairs as pairs_of}
use Rattle.clauses.specs.Words.{words}
use Rattle.dnf.proofs.PairLaws.{Growing}
use Rattle.dnf.proofs.paired.pairs.Given as goal

abbrev pub invariant-loop-c : goal.invariant-loop-c
invariant-loop-c l = Growing (pairs_of (words l.mask) l.left l.right) 0 l.initial.made l.made l.k (pairs_of (words l.mask) (drop l.c-index l.left) l.right)
