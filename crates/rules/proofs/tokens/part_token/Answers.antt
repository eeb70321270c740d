use native.Mathlib.Omega.{arith}
use Rattle.rules.proofs.Moving.{slot-yes, slot-no, slot-none}
use Rattle.rules.proofs.tokens.part_token.Goals as goal

pub bind_part-requires : goal.bind_part-requires
bind_part-requires c = let a = c.args in let w = c.in_ok-e.ensures in (c.requires.0, w.0, omega (arith, w.1), c.requires.3)

pub returns-in_err-e : goal.returns-in_err-e
returns-in_err-e c = let a = c.args in rw c.from_residual.ensures (slot-none a.u a.q a.l.now c.in_err-e.ensures a.env.now)

pub returns-then-bind_part : goal.returns-then-bind_part
returns-then-bind_part c = let a = c.args in slot-yes a.u a.q a.l.now _ c.requires.0 c.in_ok-e.ensures a.env.now c.bind_part.new.self c.bind_part.result c.if-bind_part.true c.bind_part.ensures

pub returns : goal.returns
returns c = let a = c.args in slot-no a.u a.q a.l.now _ c.requires.0 c.in_ok-e.ensures a.env.now c.bind_part.new.self c.bind_part.result c.if-bind_part.false c.bind_part.ensures
