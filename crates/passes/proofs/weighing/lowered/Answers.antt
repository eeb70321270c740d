use mathlib.Core.Path.{sym}
use Rattle.passes.proofs.PassLaws.{down-below, down-hit, down-above}
use Rattle.passes.proofs.weighing.lowered.Goals as goal

pub returns-then-n-k : goal.returns-then-n-k
returns-then-n-k c = let a = c.args in sym (down-below a.k a.n c.if-n-k.true)

pub returns-then-n-k-2 : goal.returns-then-n-k-2
returns-then-n-k-2 c = let a = c.args in sym (down-hit a.k a.n c.if-n-k-2.true)

pub returns : goal.returns
returns c = let a = c.args in sym (down-above a.k a.n c.if-n-k.false c.if-n-k-2.false)
