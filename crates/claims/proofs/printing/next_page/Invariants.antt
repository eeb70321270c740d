use Rattle.std.proofs.Common.{◌≡◌, ◌-◌, ◌≤◌}
use Rattle.calculus.specs.Record.{size}
use Rattle.ledger.specs.Ledger.{steps_of}
use Rattle.claims.proofs.PrintLaws.{Listing}
use Rattle.claims.proofs.printing.next_page.Given as goal

abbrev pub invariant-loop-c : goal.invariant-loop-c
invariant-loop-c l =
    (l.end ≡ size (steps_of l.l)) × (l.w.to ≤ 2600000) × Listing l.l l.step l.initial.w.out.now l.c.step l.c.at l.w.to l.w.out.now × (l.w.out.ghost_name ≡ l.initial.w.out.ghost_name)

abbrev pub decreases-loop-c : goal.decreases-loop-c
decreases-loop-c l = l.end - l.c.at
