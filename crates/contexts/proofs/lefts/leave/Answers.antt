use native.Mathlib.Omega.{arith}
use mathlib.Core.Path.{sym, ap}
use lib.ListN.{length, take}
use lib.Seq.{length-take-le, length-sets}
use Rattle.contexts.proofs.LeftLaws.{cut-length, leave-writes, tail-length}
use Rattle.contexts.proofs.lefts.leave.Goals as goal

pub slice_bounds-copy-end : goal.slice_bounds-copy-end
slice_bounds-copy-end c = sym (length-take-le _ _ (omega (arith, c.requires.0, c.requires.1)))

pub copy-requires-2 : goal.copy-requires-2
copy-requires-2 c = let a = c.args in omega (arith, ap length c.copy.ensures, length-sets a.out.now 0 a.front.now, length-take-le a.at a.g.now (omega (arith, c.requires.0, c.requires.1)), cut-length a.front.now a.g.now a.at a.end c.requires.0 c.requires.1, c.requires.2)

pub copy-requires-3 : goal.copy-requires-3
copy-requires-3 c = let a = c.args in omega (arith, ap length c.copy-2.ensures, ap length c.copy.ensures, length-sets c.copy.new.out (length a.front.now) (take a.at a.g.now), length-sets a.out.now 0 a.front.now, tail-length a.end a.g.now, cut-length a.front.now a.g.now a.at a.end c.requires.0 c.requires.1, c.requires.2)

pub returns : goal.returns
returns c = let a = c.args in leave-writes a.front.now a.g.now a.at a.end c.requires.0 c.requires.1 a.out.now _ _ _ c.requires.2 c.copy.ensures c.copy-2.ensures c.copy-3.ensures
