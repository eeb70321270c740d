use Rattle.std.proofs.Common.{◌≡◌, ◌-◌}
use Rattle.calculus.specs.Record.{size}
use Rattle.ledger.specs.Ledger.{steps_of}
use Rattle.claims.proofs.PrintLaws.{Listing}
use Rattle.claims.proofs.printing.lines.Given as goal

abbrev pub invariant-loop-c : goal.invariant-loop-c
invariant-loop-c l = (l.end ≡ size (steps_of l.l)) × Listing l.l 0 l.initial.w.out.now l.c.step l.c.at l.w.to l.w.out.now × (l.w.out.ghost_name ≡ l.initial.w.out.ghost_name)

abbrev pub decreases-loop-c : goal.decreases-loop-c
decreases-loop-c l = l.end - l.c.at
