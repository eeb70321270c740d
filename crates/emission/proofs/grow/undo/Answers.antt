use native.Mathlib.Omega.{arith}
use Rattle.emission.proofs.GrowLaws.{undone}
use Rattle.emission.proofs.grow.undo.Goals as goal

pub returns : goal.returns
returns c = let a = c.args in undone c.requires.0 a.end _ _ _ _ (omega (arith, c.requires.1)) c.used-to.ensures c.clear.ensures c.put4.ensures
