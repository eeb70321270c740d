use Prim.Native.Nat.{◌-◌}
use lib.ListN.{length}
use Rattle.passes.proofs.PassLaws.{Rewriting}
use Rattle.passes.proofs.rewriting.rewrite.Given as goal

abbrev pub invariant-loop-p : goal.invariant-loop-p
invariant-loop-p l = Rewriting l.sort l.rule l.zero l.one l.s l.initial.out l.out l.p l.o

abbrev pub decreases-loop-p : goal.decreases-loop-p
decreases-loop-p l = length l.s - l.p.at
