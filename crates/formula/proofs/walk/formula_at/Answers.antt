use native.Mathlib.Omega.{arith}
use Rattle.formula.proofs.WalkLaws.{part-as}
use Rattle.formula.proofs.walk.formula_at.Goals as goal

pub overflow_add-end : goal.overflow_add-end
overflow_add-end c = let a = c.args in omega (arith, (part-as a.sort a.s.now a.at c.in-Ok.ensures).0)

pub slice_bounds-result-end : goal.slice_bounds-result-end
slice_bounds-result-end c = let a = c.args in (part-as a.sort a.s.now a.at c.in-Ok.ensures).0

pub returns-in-Ok : goal.returns-in-Ok
returns-in-Ok c = let a = c.args in (part-as a.sort a.s.now a.at c.in-Ok.ensures).1

pub returns-in-Err : goal.returns-in-Err
returns-in-Err c = let a = c.args in part-as a.sort a.s.now a.at c.in-Err.ensures
