use lib.ListN.{drop}
use Rattle.clauses.specs.Normal.{pairs_with}
use Rattle.clauses.specs.Words.{facing}
use Rattle.dnf.proofs.PairLaws.{Growing}
use Rattle.dnf.proofs.paired.pairs_with.Given as goal

abbrev pub invariant-loop-d : goal.invariant-loop-d
invariant-loop-d l = Growing (pairs_with (facing l.o) l.c l.right) l.count l.initial.made l.made l.k (pairs_with (facing l.o) l.c (drop l.d-index l.right))
