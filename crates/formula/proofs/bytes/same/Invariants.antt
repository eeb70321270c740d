use Rattle.std.proofs.Common.{◌≡◌}
use lib.ListN.{drop}
use Rattle.formula.specs.Answers.{same_bytes}
use Rattle.formula.proofs.bytes.same.Given as goal

-- The lists agree as far as they were compared, so what is left decides.
abbrev pub invariant-loop-i : goal.invariant-loop-i
invariant-loop-i l = same_bytes (drop l.i l.a) (drop l.i l.b) ≡ same_bytes l.a l.b
