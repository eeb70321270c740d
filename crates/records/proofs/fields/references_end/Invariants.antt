-- The references that are left end where all of them do.
use Rattle.std.specs.Prelude.{◌≡◌, ◌≤◌, ◌-◌, length, drop}
use Rattle.calculus.specs.Parse.{read_references}
use Rattle.records.specs.Places.{ended}
use Rattle.records.proofs.fields.references_end.Given as goal

abbrev pub invariant-loop : goal.invariant-loop
invariant-loop l = (ended l.s (read_references l.i (l.n - l.counter) (drop l.e l.s)) ≡ ended l.s (read_references l.i l.n (drop l.at l.s))) × (l.e ≤ length l.s)
