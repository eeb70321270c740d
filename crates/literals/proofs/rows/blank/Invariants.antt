use Rattle.literals.proofs.RowLaws.{Blanking}
use Rattle.literals.proofs.rows.blank.Given as goal

abbrev pub invariant-loop-i : goal.invariant-loop-i
invariant-loop-i l = Blanking 256 l.numbers l.i
