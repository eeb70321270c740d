use lib.ListN.{take}
use Rattle.std.specs.Prelude.{Some}
use Rattle.rules.specs.Matching.{Possible, Passes}
use Rattle.rules.proofs.one_line.Given as goal

abbrev pub invariant-loop-item : goal.invariant-loop-item
invariant-loop-item l = Passes (take l.item-index l.line) l.fn.q l.l l.claims l.initial.env (Some l.p) l.env × Possible l.l l.env
