use native.Mathlib.Omega.{arith}
use Rattle.rules.proofs.Moving.{number-low, number-yes, number-no}
use Rattle.rules.proofs.tokens.number_token.Goals as goal

pub returns-then-n-less : goal.returns-then-n-less
returns-then-n-less c = let a = c.args in number-low a.less a.v a.q a.l.now (omega (arith, c.if-q-lt-DIM.false)) c.requires.2 (omega (arith, c.if-n-less.true, c.dim_at-n.ensures.0)) a.env.now

pub returns-then-bind_number : goal.returns-then-bind_number
returns-then-bind_number c = let a = c.args in number-yes a.less a.v a.q a.l.now c.requires.0 (omega (arith, c.if-q-lt-DIM.false)) c.requires.2 c.dim_at-n.result c.dim_at-n.ensures.0 (omega (arith, c.if-n-less.false)) a.env.now _ c.bind_number.result c.if-bind_number.true (c.bind_number.ensures a.l.now)

pub returns : goal.returns
returns c = let a = c.args in number-no a.less a.v a.q a.l.now c.requires.0 (omega (arith, c.if-q-lt-DIM.false)) c.requires.2 c.dim_at-n.result c.dim_at-n.ensures.0 (omega (arith, c.if-n-less.false)) a.env.now _ c.bind_number.result c.if-bind_number.false (c.bind_number.ensures a.l.now)
