use mathlib.Core.Path.{sym}
use Rattle.passes.proofs.PassLaws.{up-below, up_from}
use Rattle.passes.proofs.weighing.raised.Goals as goal

pub returns-then-n-k : goal.returns-then-n-k
returns-then-n-k c = let a = c.args in sym (up-below a.k a.n c.if-n-k.true)

pub returns : goal.returns
returns c = let a = c.args in sym (up_from a.k a.n c.if-n-k.false)
