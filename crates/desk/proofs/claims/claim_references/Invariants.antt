use mathlib.Core.Path.{◌≡◌}
use Prim.Native.Nat.{◌≤◌}
use lib.ListN.{length}
use Rattle.ledger.specs.Ledger.{steps_of}
use Rattle.desk.specs.Walking.{Filled, cited}
use Rattle.desk.proofs.claims.claim_references.Given as goal

abbrev pub invariant-loop-j : goal.invariant-loop-j
invariant-loop-j l = (length l.claims ≡ length l.initial.claims) × (1 ≤ l.j) × Filled l.l (cited (steps_of l.l) l.c.step) l.j l.claims
