use mathlib.Core.Path.{refl}
use Rattle.contexts.proofs.ContextLaws.{none-of, front-inside, front-others, front-first}
use Rattle.contexts.proofs.context.Context.split_first.Goals as goal

pub returns-then-self-eq0 : goal.returns-then-self-eq0
returns-then-self-eq0 c = none-of c.args.self c.if-self-eq0.true

pub slice_bounds-others-count : goal.slice_bounds-others-count
slice_bounds-others-count c = front-inside c.args.self c.formula_at-first.result.now c.if-self-eq0.false c.formula_at-first.ensures

pub slice_bounds-others-start : goal.slice_bounds-others-start
slice_bounds-others-start c = front-inside c.args.self c.formula_at-first.result.now c.if-self-eq0.false c.formula_at-first.ensures

pub invariant_of-others : goal.invariant_of-others
invariant_of-others c = record { sound = front-others c.args.self c.formula_at-first.result.now c.if-self-eq0.false c.formula_at-first.ensures }

pub returns : goal.returns
returns c = front-first c.args.self c.formula_at-first.result.now c.if-self-eq0.false c.formula_at-first.ensures _ refl refl
