-- The fand bytes, then the literals.
use native.Mathlib.Omega.{arith}
use mathlib.Core.Path.{sym, ap}
use lib.ListN.{length}
use Rattle.forms.proofs.FormLaws.{wrote_as}
use Rattle.forms.proofs.PutLaws.{clause-none, clause-first, clause-rest, clause-wrote}
use Rattle.forms.proofs.put_clause.Goals as goal

pub put_times-requires : goal.put_times-requires
put_times-requires c = omega (arith, c.requires.c_in_bounds, ap length (clause-none c.args.numbers.now c.args.c c.requires.numbers_len c.ones-many.ensures c.if-many-eq0.true))

pub returns-then-many-eq0 : goal.returns-then-many-eq0
returns-then-many-eq0 c = wrote_as (sym (clause-none c.args.numbers.now c.args.c c.requires.numbers_len c.ones-many.ensures c.if-many-eq0.true)) c.put_times.ensures

pub put_times-at-requires : goal.put_times-at-requires
put_times-at-requires c = clause-first c.args.numbers.now c.args.c c.requires.numbers_len c.ones-many.ensures c.args.to c.if-many-eq0.false c.requires.c_in_bounds

pub put_literals-requires : goal.put_literals-requires
put_literals-requires c = let many = c.ones-many.ensures in record { many_value = many; numbers_len = c.requires.numbers_len; all = c.requires.all; c_in_bounds = clause-rest c.args.numbers.now c.args.c c.requires.numbers_len many c.if-many-eq0.false c.requires.c_in_bounds c.put_times-at.ensures }

pub returns : goal.returns
returns c = clause-wrote c.args.numbers.now c.args.c c.requires.numbers_len c.ones-many.ensures c.if-many-eq0.false c.put_times-at.ensures c.put_literals.ensures
