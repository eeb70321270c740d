-- What is written, with the literals from the rank on, is the whole; where some are left, the rank is one of a literal.
use native.Mathlib.Omega.{arith}
use mathlib.Core.Path.{sym, ◌∙◌}
use Rattle.forms.proofs.PutLaws.{spelling-start, spelling-length, spelling-as, spelling-rank, spelling-narrow, spelling-room, spelling-next, spelling-skip, spelling-end}
use Rattle.forms.proofs.put_literals.Goals as goal
use Rattle.forms.proofs.put_literals.Goals.{then-has, else-has}

pub loop-left-init : goal.loop-left-init
loop-left-init c = spelling-start c.args.numbers.now c.args.c c.requires.numbers_len c.requires.many_value c.requires.all

pub has-requires : goal.has-requires
has-requires c = omega (arith, spelling-rank c.loop-left.invariant c.loop-left-test.true, c.requires.numbers_len)

pub offset_bounds-numbers-rank : goal.offset_bounds-numbers-rank
offset_bounds-numbers-rank c = record { fits = omega (arith, spelling-rank c.loop-left.invariant c.loop-left-test.true, c.requires.numbers_len) }

pub bounds-numbers-rank : goal.bounds-numbers-rank
bounds-numbers-rank c = spelling-rank c.loop-left.invariant c.loop-left-test.true

pub put_literal-at-requires : goal.put_literal-at-requires
put_literal-at-requires c = let s = c.loop-left.invariant in let more = c.loop-left-test.true in let has = sym c.has.ensures ∙ c.if-has.true in record { k_bound = spelling-narrow s more has; k_in_bounds = spelling-room s more has c.requires.c_in_bounds }

pub overflow_sub-left : goal.overflow_sub-left
overflow_sub-left c = omega (arith, c.loop-left-test.true)

pub overflow_add-rank : goal.overflow_add-rank
overflow_add-rank c = omega (arith, spelling-rank c.loop-left.invariant c.loop-left-test.true, c.requires.numbers_len)

pub loop-left-smaller : goal.loop-left-smaller
loop-left-smaller c = omega (arith, spelling-rank c.loop-left.invariant c.loop-left-test.true)

pub loop-left-preserved : goal.loop-left-preserved
loop-left-preserved c = let s = c.loop-left.invariant in let more = c.loop-left-test.true in let has = sym c.has.ensures in
    elim c.if-has.branch [
      | then-has w ↦ spelling-as w.out-is w.at-is w.left-is (spelling-next s more (has ∙ w.if-has.true) w.put_literal-at.ensures)
      | else-has w ↦ spelling-as w.out-is w.at-is w.left-is (spelling-skip s more (has ∙ w.if-has.false))
    ]

pub shape_of-out : goal.shape_of-out
shape_of-out c = spelling-length c.loop-left.invariant

pub returns : goal.returns
returns c = spelling-end c.loop-left.invariant c.loop-left-test.false
