-- The records that are left give the same answer.
use native.Mathlib.Omega.{arith}
use mathlib.Core.Path.{sym, ◌∙◌}
use Rattle.ledger.proofs.CheckLaws.{left-all, left-none, left-short, left-long, left-record}
use Rattle.ledger.proofs.check.count_records.Goals as goal

pub loop-at-init : goal.loop-at-init
loop-at-init c = (left-all c.args.s.now, omega arith, omega arith)

pub returns-then-s-at-lt4 : goal.returns-then-s-at-lt4
returns-then-s-at-lt4 c = let a = c.args in let p = c.loop-at in sym (left-short p.i a.s.now p.at c.loop-at-test.true c.if-s-at-lt4.true) ∙ p.invariant.0

pub returns-then-s-from : goal.returns-then-s-from
returns-then-s-from c = let a = c.args in let p = c.loop-at in sym (left-long p.i a.s.now p.at (omega arith) c.get4-n.ensures.0 c.if-s-from.true) ∙ p.invariant.0

pub returns-then-not-body_fits : goal.returns-then-not-body_fits
returns-then-not-body_fits c = let a = c.args in let p = c.loop-at in sym (left-record p.i a.s.now p.at (omega arith) c.get4-n.ensures.0 (omega arith) (sym c.body_fits.ensures ∙ c.if-not-body_fits.true)) ∙ p.invariant.0

pub loop-at-preserved : goal.loop-at-preserved
loop-at-preserved c = let a = c.args in let p = c.loop-at in (sym (left-record p.i a.s.now p.at (omega arith) c.get4-n.ensures.0 (omega arith) (sym c.body_fits.ensures ∙ c.if-not-body_fits.false)) ∙ p.invariant.0, omega arith, omega arith)

pub returns : goal.returns
returns c = let a = c.args in let p = c.loop-at in sym (left-none p.i a.s.now p.at (omega arith)) ∙ p.invariant.0
