use mathlib.Core.Path.{sym, ap, ◌∙◌}
use mathlib.Core.Logic.{inl, inr}
use Rattle.counterexample.specs.Exploring.{precedes}
use Rattle.counterexample.proofs.LoopLaws.{precedes-lower, precedes-higher, precedes-equal, precedes-ends}
use Rattle.counterexample.proofs.states.before.Goals as goal

pub returns-then-v-b : goal.returns-then-v-b
returns-then-v-b c = sym (precedes-lower c.loop-s.left c.in-Some.ensures.steps.0 c.in-Some.ensures.steps.1 c.lowest-v.ensures c.if-v-b.true) ∙ c.loop-s.invariant

pub returns-then-b-v : goal.returns-then-b-v
returns-then-b-v c = sym (precedes-higher c.loop-s.left c.in-Some.ensures.steps.0 c.in-Some.ensures.steps.1 c.lowest-v.ensures c.if-b-v.true) ∙ c.loop-s.invariant

pub loop-s-preserved : goal.loop-s-preserved
loop-s-preserved c = ap (λ k. precedes k c.next.new.self.a.rest.now c.next.new.self.b.rest.now) c.spent-left.ensures ∙ sym (precedes-equal c.loop-s.left c.in-Some.ensures.steps.0 c.in-Some.ensures.steps.1 c.lowest-v.ensures c.if-v-b.false c.if-b-v.false) ∙ c.loop-s.invariant

pub returns : goal.returns
returns c = sym (precedes-ends c.loop-s.left _ _ (elim c.in-None.ensures.steps [ inl p ↦ inl p.1.0 | inr p ↦ inr p.1.0 ])) ∙ c.loop-s.invariant
