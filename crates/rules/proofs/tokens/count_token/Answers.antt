use Prim.Native.Nat.{◌+◌}
use native.Mathlib.Omega.{arith}
use Rattle.rules.proofs.Moving.{count_low, count_yes}
use Rattle.rules.proofs.tokens.count_token.Goals as goal

pub returns-then-c-k : goal.returns-then-c-k
returns-then-c-k c = let a = c.args in count_low a.q a.l.now c.requires.0 c.requires.1 a.k c.from-x.result c.from-y.result c.if-q-lt2.false c.from-x.ensures c.from-y.ensures (omega (arith, c.from-x.ensures, c.type_inv.l a.q.at)) (omega (arith, c.from-y.ensures, c.type_inv.l (a.q.at + 1))) c.if-c-k.true

pub returns : goal.returns
returns c = let a = c.args in count_yes a.q a.l.now c.requires.0 c.requires.1 a.k c.from-x.result c.from-y.result c.if-q-lt2.false c.from-x.ensures c.from-y.ensures (omega (arith, c.from-x.ensures, c.type_inv.l a.q.at)) (omega (arith, c.from-y.ensures, c.type_inv.l (a.q.at + 1))) c.if-c-k.false
