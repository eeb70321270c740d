use native.Mathlib.Nat.{div-lt_self}
use Rattle.std.proofs.Common.{sym, arith}
use Rattle.writing.proofs.WriteLaws.{room-first, room_next, room_as, writes-next, writes-as}
use Rattle.writing.proofs.NumberLaws.{decimal_digit, decimal-digits}
use Rattle.writing.proofs.Writer.+decimal.Goals as goal

pub put_byte-requires : goal.put_byte-requires
put_byte-requires t c = room_as (decimal_digit c.args.n c.if-n-lt10.true) c.requires

pub returns-then-n-lt10 : goal.returns-then-n-lt10
returns-then-n-lt10 t c = writes-as (sym (decimal_digit c.args.n c.if-n-lt10.true)) c.put_byte.ensures

pub decimal-requires : goal.decimal-requires
decimal-requires t c = (omega (arith, div-lt_self {n = c.args.n} {k = 10} (omega (arith, c.if-n-lt10.false)) (omega arith), c.decreases), room-first _ _ (room_as (decimal-digits c.args.n c.if-n-lt10.false) c.requires))

pub put_byte-requires-2 : goal.put_byte-requires-2
put_byte-requires-2 t c = room_next _ (room_as (decimal-digits c.args.n c.if-n-lt10.false) c.requires) c.decimal.ensures.wrote

pub returns : goal.returns
returns t c = writes-as (sym (decimal-digits c.args.n c.if-n-lt10.false)) (writes-next c.decimal.ensures c.put_byte-2.ensures)
