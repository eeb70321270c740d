use mathlib.Core.Path.{◌≡◌}
use Rattle.counterexample.specs.Exploring.{precedes}
use Rattle.counterexample.proofs.states.before.Given as goal

abbrev pub invariant-loop-s : goal.invariant-loop-s
invariant-loop-s l = precedes l.left l.s-iterator.a.rest.now l.s-iterator.b.rest.now ≡ precedes l.k l.state l.best
