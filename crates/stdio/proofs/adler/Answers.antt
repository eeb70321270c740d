use Rattle.std.proofs.Common.{arith, ◌∙◌, sym, ap}
use Rattle.std.proofs.lemmas.List.{drop_all}
use Rattle.stdio.specs.Front.{low_sum, high_sum}
use Rattle.stdio.proofs.Sums.{low-next, high-next}
use Rattle.stdio.proofs.adler.Goals as goal

pub loop-x-preserved : goal.loop-x-preserved
loop-x-preserved c =
    let l = c.loop-x in let (_, _, low, high) = l.invariant in
    let s = c.args.s.now in
    (omega arith, omega arith, rw c.from.ensures (sym (low-next l.a s l.x-index c.loop-x-test.true) ∙ low), rw c.from.ensures (sym (high-next l.a l.b s l.x-index c.loop-x-test.true) ∙ high))

pub returns-clause-sums : goal.returns-clause-sums
unfolding low_sum high_sum
returns-clause-sums c =
    let l = c.loop-x in let (_, _, low, high) = l.invariant in
    let e = drop_all l.x-index c.args.s.now c.loop-x-test.false in
    (sym (ap (low_sum l.a) e) ∙ low, sym (ap (high_sum l.a l.b) e) ∙ high)
