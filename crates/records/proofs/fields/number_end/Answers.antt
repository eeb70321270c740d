use mathlib.Core.Path.{sym}
use borrow.Author.Rules.{rules}
use borrow.Author.Tests.{le-leb, lt-leb}
use Rattle.records.proofs.FieldLaws.{number_short, number_in}
use Rattle.records.proofs.fields.number_end.Goals as goal

pub returns-then-s-at-lt-DIM : goal.returns-then-s-at-lt-DIM
returns-then-s-at-lt-DIM c = let a = c.args in sym (number_short a.s.now a.at a.most (search rules))

pub returns-then-most-dim_at : goal.returns-then-most-dim_at
returns-then-most-dim_at c = let a = c.args in sym (number_in a.s.now a.at a.most (search rules) c.dim_at.ensures.0 (lt-leb _ a.most c.if-most-dim_at.true))

pub returns : goal.returns
returns c = let a = c.args in sym (number_in a.s.now a.at a.most (search rules) c.dim_at.ensures.0 (le-leb _ a.most c.if-most-dim_at.false))
