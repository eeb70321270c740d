use lib.ListN.{take}
use Rattle.std.specs.Prelude.{Some}
use Rattle.rows.specs.Flattening.{joined}
use Rattle.rules.specs.Matching.{Possible, Passes}
use Rattle.rules.proofs.Turning.{begin}
use Rattle.rules.proofs.match_row.Given as goal

abbrev pub invariant-loop-line : goal.invariant-loop-line
invariant-loop-line l = Passes (joined (take l.line-index l.row)) begin l.l l.claims l.initial.env (Some l.q) l.env × Possible l.l l.env
