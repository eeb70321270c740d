use Prim.Native.Nat.{ℕ}
use mathlib.Core.Path.{ap₂, ◌∙◌}
use mathlib.Core.List.{List}
use lib.ListN.{get_or, set}
use Rattle.counterexample.proofs.LoopLaws.{settle-more, settle-ends, settle-min}
use Rattle.counterexample.proofs.states.settle.Goals as goal

pub loop-i-preserved : goal.loop-i-preserved
loop-i-preserved c = ap₂ (λ (l : List ℕ) (v : ℕ). set l c.loop-i.i v) c.loop-i.invariant (c.min.ensures ∙ settle-min (get_or c.args.state.now c.loop-i.i 0)) ∙ settle-more c.args.state.now c.args.best.now c.loop-i.i c.loop-i-test.true

pub returns : goal.returns
returns c = c.loop-i.invariant ∙ settle-ends c.args.state.now c.args.best.now c.loop-i.i c.loop-i-test.false c.requires
