use mathlib.Core.Path.{sym, ◌∙◌}
use native.Mathlib.Omega.{arith}
use Rattle.rules.proofs.Moving.{formula-at, formula-nowhere}
use Rattle.rules.proofs.reach.formula_end.Goals as goal

pub overflow_add-result : goal.overflow_add-result
overflow_add-result c = let a = c.args in let w = formula-at a.sort a.l.now a.at a.end c.requires.0 c.requires.1 _ (sym c.measure_at.ensures ∙ c.in-Ok.is) in omega (arith, w.1)

pub returns-in-Ok : goal.returns-in-Ok
returns-in-Ok c = let a = c.args in formula-at a.sort a.l.now a.at a.end c.requires.0 c.requires.1 _ (sym c.measure_at.ensures ∙ c.in-Ok.is)

pub returns-in-Err : goal.returns-in-Err
returns-in-Err c = let a = c.args in formula-nowhere a.sort a.l.now a.at a.end c.requires.0 c.requires.1 _ (sym c.measure_at.ensures ∙ c.in-Err.is)
