use Rattle.clauses.specs.Words.{bits}
use Rattle.literals.proofs.MaskLaws.{Marking}
use Rattle.literals.proofs.rows.mask.Given as goal

abbrev pub invariant-loop-i : goal.invariant-loop-i
invariant-loop-i l = Marking l.numbers (bits l.c) l.i
