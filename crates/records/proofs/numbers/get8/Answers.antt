use mathlib.Core.Path.{ap₂, ◌∙◌}
use Prim.Native.Nat.{ℕ, ◌+◌, ◌*◌}
use Rattle.records.proofs.NumberLaws.{little-eight}
use Rattle.records.proofs.numbers.get8.Goals as goal

pub returns : goal.returns
returns c = ap₂ (λ (x y : ℕ). x + 4294967296 * y) c.get4.ensures.0 c.get4-2.ensures.0 ∙ little-eight c.args.s.now c.args.at
