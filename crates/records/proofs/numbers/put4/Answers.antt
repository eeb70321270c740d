use mathlib.Core.Path.{◌∙◌, ap}
use mathlib.Core.List.{List}
use Prim.Native.Nat.{ℕ, ◌+◌, ◌/◌}
use lib.Seq.{sets}
use Rattle.calculus.specs.Record.{little_endian}
use Rattle.records.proofs.NumberLaws.{put_four}
use Rattle.records.proofs.numbers.put4.Goals as goal

pub returns : goal.returns
returns c = let a = c.args in c.put2-2.ensures ∙ ap (λ (d : List ℕ). sets d (a.at + 2) (little_endian 2 (a.n / 256 / 256))) c.put2.ensures ∙ put_four a.s.now a.at a.n
