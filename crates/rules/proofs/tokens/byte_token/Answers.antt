use mathlib.Core.Path.{refl}
use native.Mathlib.Omega.{arith}
use Rattle.rules.proofs.Moving.{byte-no, byte-yes}
use Rattle.rules.proofs.tokens.byte_token.Goals as goal

pub returns-then-l-q : goal.returns-then-l-q
returns-then-l-q c = let a = c.args in byte-no a.q a.l.now c.requires.0 c.requires.1 a.b _ (omega (arith, c.if-q.false)) refl c.if-l-q.true

pub returns : goal.returns
returns c = let a = c.args in byte-yes a.q a.l.now c.requires.0 c.requires.1 a.b _ (omega (arith, c.if-q.false)) refl c.if-l-q.false
