use mathlib.Core.Path.{ap, ◌∙◌}
use Prim.Native.Nat.{ℕ, ◌+◌}
use lib.Dec.{leb}
use lib.ListN.{get_or}
use Rattle.index.specs.Index.{mark}
use Rattle.index.proofs.enter.is_marked.Goals as goal

pub returns : goal.returns
returns c = let a = c.args in ap (leb mark) (c.slot.ensures.0 ∙ ap (λ (h : ℕ). get_or a.x.now (1 + h + a.i) 0) c.heads.ensures)
