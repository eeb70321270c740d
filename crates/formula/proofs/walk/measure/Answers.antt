use mathlib.Core.Path.{sym, ap, ◌∙◌}
use borrow.Author.Tests.{eq-eqb, ne_eqb}
use Rattle.std.proofs.Common.{rules}
use Rattle.formula.proofs.WalkLaws.{judge, measure-law}
use Rattle.formula.proofs.walk.measure.Goals as goal

pub returns-in_err-z : goal.returns-in_err-z
returns-in_err-z c = search (rules, measure-law)

pub returns-then-whole : goal.returns-then-whole
returns-then-whole c = let a = c.args in sym (measure-law a.sort a.s.now ∙ ap (judge a.sort a.s.now) (sym c.in_ok-z.ensures) ∙ rw (eq-eqb _ _ c.if-whole.true))

pub returns : goal.returns
returns c = let a = c.args in sym (measure-law a.sort a.s.now ∙ ap (judge a.sort a.s.now) (sym c.in_ok-z.ensures) ∙ rw (ne_eqb _ _ c.if-whole.false))
