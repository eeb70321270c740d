use Rattle.rules.proofs.Moving.{passed_start, passed_on, passed_none, passed-all}
use native.Mathlib.Omega.{arith}
use Rattle.rules.proofs.reach.faces_end.Goals as goal

pub loop-i-init : goal.loop-i-init
loop-i-init c = let a = c.args in passed_start a.l.now a.n a.at a.end c.requires.0

pub formula_end-requires : goal.formula_end-requires
formula_end-requires c = (c.loop-i.invariant.high, c.requires.1)

pub returns-in_err-e : goal.returns-in_err-e
returns-in_err-e c = let a = c.args in let o = c.loop-i in rw c.from_residual.ensures (passed_none a.l.now a.n a.at a.end o.e o.i o.invariant c.loop-i-test.true c.in_err-e.ensures)

pub loop-i-preserved : goal.loop-i-preserved
loop-i-preserved c = let a = c.args in let o = c.loop-i in passed_on a.l.now a.n a.at a.end o.e o.i o.invariant _ c.loop-i-test.true c.in_ok-e.ensures

pub returns : goal.returns
returns c = let a = c.args in let o = c.loop-i in passed-all a.l.now a.n a.at a.end o.e o.i o.invariant (omega arith)
