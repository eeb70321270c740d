use native.Mathlib.Omega.{arith}
use Prim.Native.Nat.{◌+◌}
use Rattle.records.proofs.NumberLaws.{both_zero, eight-zero}
use Rattle.records.proofs.numbers.bits16.Goals as goal

pub returns : goal.returns
returns c = let l = c.args.s.now in let i = c.args.at in both_zero l i 8 8 c.get8.result c.get8-2.result (eight-zero l i c.get8.result (omega arith) c.get8.ensures) (eight-zero l (i + 8) c.get8-2.result (omega arith) c.get8-2.ensures)
