-- What is written, with the literals from the rank on, is the whole; where some are left, the rank is one of a literal.
use Prim.Native.Nat.{◌-◌}
use lib.ListN.{length}
use Rattle.clauses.specs.Words.{bits}
use Rattle.forms.proofs.PutLaws.{Spelling}
use Rattle.forms.proofs.put_literals.Given as goal

abbrev pub invariant-loop-left : goal.invariant-loop-left
invariant-loop-left l = Spelling l.numbers (bits l.c) l.initial.out l.to l.out l.at l.left l.rank

abbrev pub decreases-loop-left : goal.decreases-loop-left
decreases-loop-left l = length l.numbers - l.rank
