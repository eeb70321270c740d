use mathlib.Core.Path.{sym, ◌∙◌}
use native.Mathlib.Omega.{arith}
use Rattle.ledger.proofs.CheckLaws.{ledger-short, ledger-big, ledger-long, ledger-rest}
use Rattle.ledger.proofs.check.well_formed.Goals as goal

pub returns-then-short : goal.returns-then-short
returns-then-short c = sym (ledger-short c.args.l.now c.if-short.true)

pub returns-then-long : goal.returns-then-long
returns-then-long c = sym (ledger-big c.args.l.now c.if-long.true)

pub returns-then-l-n : goal.returns-then-l-n
returns-then-l-n c = sym (ledger-long c.args.l.now c.if-short.false c.if-long.false c.get4-n.ensures.0 c.if-l-n.true)

pub returns-then-not-zeros_from : goal.returns-then-not-zeros_from
returns-then-not-zeros_from c = sym (ledger-rest c.args.l.now c.if-short.false c.if-long.false c.get4-n.ensures.0 (omega arith) (sym c.zeros_from.ensures ∙ c.if-not-zeros_from.true))

pub returns : goal.returns
returns c = c.count_records.ensures ∙ sym (ledger-rest c.args.l.now c.if-short.false c.if-long.false c.get4-n.ensures.0 (omega arith) (sym c.zeros_from.ensures ∙ c.if-not-zeros_from.false))
