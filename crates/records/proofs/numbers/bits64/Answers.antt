use lib.Bits.{bit_or}
use Rattle.records.proofs.NumberLaws.{both_zero}
use Rattle.records.proofs.numbers.bits64.Goals as goal

pub returns : goal.returns
returns c = let l = c.args.s.now in let i = c.args.at in let a = c.bits16.result in let b = c.bits16-2.result in let d = c.bits16-3.result in both_zero l i 48 16 (bit_or (bit_or a b) d) c.bits16-4.result (both_zero l i 32 16 (bit_or a b) d (both_zero l i 16 16 a b c.bits16.ensures c.bits16-2.ensures) c.bits16-3.ensures) c.bits16-4.ensures
