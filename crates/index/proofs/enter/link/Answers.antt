use mathlib.Core.Path.{ap, ◌∙◌}
use Prim.Native.Nat.{ℕ, ◌+◌, ◌%◌}
use lib.ListN.{get_or}
use Rattle.index.specs.Index.{mark}
use Rattle.index.proofs.enter.link.Goals as goal

pub returns : goal.returns
returns c = ap (λ (v : ℕ). v % mark) c.slot.ensures.0 ∙ ap (λ (h : ℕ). get_or c.args.x.now (1 + h + c.args.i) 0 % mark) c.heads.ensures
