-- The records that are left give the same answer.
use mathlib.Core.Path.{◌≡◌}
use Prim.Native.Nat.{◌-◌, ◌≤◌}
use lib.ListN.{length}
use Rattle.ledger.specs.Checks.{records_in}
use Rattle.ledger.proofs.CheckLaws.{left}
use Rattle.ledger.proofs.check.count_records.Given as goal

abbrev pub invariant-loop-at : goal.invariant-loop-at
invariant-loop-at l = (left l.i l.s l.at ≡ records_in l.s) × (l.at ≤ length l.s) × (l.i ≤ l.at)

abbrev pub decreases-loop-at : goal.decreases-loop-at
decreases-loop-at l = length l.s - l.at
