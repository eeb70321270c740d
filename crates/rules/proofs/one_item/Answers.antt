use mathlib.Core.Path.{subst, sym}
use Rattle.rows.specs.declared.Item.{Item}
use Rattle.rules.specs.Matching.{Turns}
use Rattle.rules.proofs.Turning.{token-turns}
use Rattle.rules.proofs.one_item.Goals as goal

pub returns-in-Inside : goal.returns-in-Inside
returns-in-Inside c = let a = c.args in subst (λ (i : Item). Turns i a.q a.l.now a.claims.now a.env.now c.one_token.result c.one_token.new.env) (sym c.in-Inside.is) (token-turns a.l.now a.claims.now a.q c.requires.2 c.in-Inside.t a.env.now c.one_token.new.env c.one_token.result c.one_token.ensures)
