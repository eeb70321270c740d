use native.Mathlib.Omega.{arith}
use Rattle.rules.proofs.Moving.{end-face, end-interval, end-faces}
use Rattle.rules.proofs.reach.end_of.Goals as goal

pub returns-then-c-eq0 : goal.returns-then-c-eq0
returns-then-c-eq0 c = let a = c.args in end-face a.u a.q.left a.l.now a.q.at a.q.end c.formula_end.result c.if-c-eq0.true c.formula_end.ensures

pub returns-then-c-eq1 : goal.returns-then-c-eq1
returns-then-c-eq1 c = let a = c.args in end-interval a.u a.q.left a.l.now a.q.at a.q.end c.formula_end-then-c-eq1.result c.if-c-eq1.true c.formula_end-then-c-eq1.ensures

pub returns : goal.returns
returns c = let a = c.args in end-faces a.u a.q.left a.l.now a.q.at a.q.end c.faces_end.result (omega (arith, c.if-c-eq0.false, c.if-c-eq1.false)) c.faces_end.ensures
