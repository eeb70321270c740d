use Rattle.std.proofs.Common.{length, ◌-◌, ◌≡◌}
use Rattle.calculus.specs.Record.{size}
use Rattle.ledger.specs.Ledger.{steps_of}
use Rattle.claims.specs.Printing.{Among}
use Rattle.facesteps.proofs.print_lines.Given as goal

abbrev pub invariant-loop-at : goal.invariant-loop-at
invariant-loop-at g l = (l.end ≡ size (steps_of l.ledger)) × Among l.ledger l.step l.at × (length l.space ≡ length l.initial.space)

abbrev pub decreases-loop-at : goal.decreases-loop-at
decreases-loop-at g l = length (steps_of l.ledger) - l.step
