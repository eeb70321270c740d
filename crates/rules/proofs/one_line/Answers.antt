use mathlib.Core.Path.{subst}
use mathlib.Core.List.{List}
use Rattle.std.specs.Prelude.{Some}
use Rattle.rows.specs.declared.Item.{Item}
use Rattle.rules.specs.Matching.{Passes}
use Rattle.rules.proofs.Turning.{passes-none, line-on, line-stop, take-past}
use Rattle.rules.proofs.one_line.Goals as goal
use native.Mathlib.Omega.{arith}

pub loop-item-init : goal.loop-item-init
loop-item-init c = let a = c.args in (passes-none a.l.now a.claims.now a.q a.env.now c.requires.2, c.requires.1)

pub one_item-requires : goal.one_item-requires
one_item-requires c = let o = c.loop-item in (c.requires.0 o.item-index _ (omega (arith, c.loop-item-test.true, c.told-line)), o.invariant.1, o.invariant.0.placed, c.requires.3)

pub returns-in_err-p : goal.returns-in_err-p
returns-in_err-p c = let a = c.args in let o = c.loop-item in rw c.from_residual.ensures (line-stop a.l.now a.claims.now a.q a.env.now a.line.now o.item-index o.p o.env o.invariant.0 _ (omega (arith, c.loop-item-test.true, c.told-line)) c.one_item.new.env c.in_err-p.ensures)

pub loop-item-preserved : goal.loop-item-preserved
loop-item-preserved c = let a = c.args in let o = c.loop-item in (line-on a.l.now a.claims.now a.q a.env.now a.line.now o.item-index o.p o.env o.invariant.0 _ (omega (arith, c.loop-item-test.true, c.told-line)) c.in_ok-p.p c.one_item.new.env c.in_ok-p.ensures, c.in_ok-p.ensures.possible o.invariant.1)

pub returns : goal.returns
returns c = let a = c.args in let o = c.loop-item in subst (λ (is : List Item). Passes is a.q a.l.now a.claims.now a.env.now (Some o.p) o.env) (take-past a.line.now o.item-index (omega (arith, c.loop-item-test.false, c.told-line))) o.invariant.0
