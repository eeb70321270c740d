use mathlib.Core.Path.{◌≡◌}
use lib.ListN.{take}
use lib.Seq.{sets}
use Rattle.needs.specs.States.{settled}
use Rattle.counterexample.proofs.states.settle.Given as goal

abbrev pub invariant-loop-i : goal.invariant-loop-i
invariant-loop-i l = l.best ≡ sets l.initial.best 0 (take l.i (settled l.state))
