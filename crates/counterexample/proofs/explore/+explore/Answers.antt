use native.Mathlib.Omega.{arith}
use mathlib.Core.Path.{refl, ◌∙◌}
use Rattle.counterexample.proofs.ExploreLaws.{holds-already, total-small, gives_up, settles, chosen-ready, chosen-falls, without-falls, without-ready, branches}
use Rattle.counterexample.proofs.explore.+explore.Goals as goal

pub overflow_add-total : goal.overflow_add-total
overflow_add-total t c = omega (arith, total-small c.requires c.weigh-need.ensures)

pub returns-then-hopeless : goal.returns-then-hopeless
returns-then-hopeless t c = record { explores = gives_up c.requires c.weigh-need.ensures c.hopeless.ensures c.if-hopeless.true; same_reference = refl }

pub returns-then-goal-eq0 : goal.returns-then-goal-eq0
returns-then-goal-eq0 t c = record { explores = holds-already c.requires c.weigh-goal.ensures c.if-goal-eq0.true; same_reference = refl }

pub returns-then-need-eq0 : goal.returns-then-need-eq0
returns-then-need-eq0 t c = record { explores = settles c.requires c.weigh-need.ensures c.hopeless.ensures c.if-hopeless.false c.weigh-goal.ensures c.if-goal-eq0.false c.if-need-eq0.true c.settle.ensures; same_reference = refl }

pub explore-requires : goal.explore-requires
explore-requires t c = (omega (arith, c.decreases, chosen-falls c.requires c.weigh-need.ensures c.hopeless.ensures c.if-hopeless.false c.if-need-eq0.false), chosen-ready c.requires c.weigh-need.ensures c.hopeless.ensures c.if-hopeless.false c.if-need-eq0.false)

pub explore-requires-2 : goal.explore-requires-2
explore-requires-2 t c = (omega (arith, c.decreases, without-falls c.requires c.weigh-need.ensures c.hopeless.ensures c.if-hopeless.false c.if-need-eq0.false c.explore.ensures.explores c.without.ensures), without-ready c.requires c.weigh-need.ensures c.hopeless.ensures c.if-hopeless.false c.if-need-eq0.false c.explore.ensures.explores c.without.ensures)

pub returns : goal.returns
returns t c = record { explores = branches c.requires c.weigh-need.ensures c.hopeless.ensures c.if-hopeless.false c.if-need-eq0.false c.explore.ensures.explores c.without.ensures c.explore-2.ensures.explores refl; same_reference = c.explore-2.ensures.same_reference ∙ c.explore.ensures.same_reference }
