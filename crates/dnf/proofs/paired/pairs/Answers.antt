use native.Mathlib.Omega.{arith}
use mathlib.Core.Path.{refl}
use Rattle.clauses.specs.Words.{words, facing}
use Rattle.clauses.proofs.WordLaws.{opposes-meet}
use Rattle.dnf.proofs.PairLaws.{crossing-next, crossing-over, crossing-end, faced}
use Rattle.dnf.proofs.paired.pairs.Goals as goal

pub returns-in_err-k : goal.returns-in_err-k
returns-in_err-k c =
    let a = c.args in
    rw c.from_residual.ensures (crossing-over (words a.mask) a.left.now a.right.now c.loop-c.invariant _ c.loop-c-test.true (faced (facing c.opposites-o.result) (words a.mask) _ a.right.now (opposes-meet c.opposites-o.ensures) (λ d. refl) c.in_err-k.ensures) (omega arith) (omega arith))

pub loop-c-preserved : goal.loop-c-preserved
loop-c-preserved c =
    let a = c.args in
    crossing-next (words a.mask) a.left.now a.right.now c.loop-c.invariant _ c.loop-c-test.true (faced (facing c.opposites-o.result) (words a.mask) _ a.right.now (opposes-meet c.opposites-o.ensures) (λ d. refl) c.in_ok-k.ensures) c.pairs_with.auto.made

pub returns : goal.returns
returns c = crossing-end (words c.args.mask) c.args.left.now c.args.right.now c.loop-c.invariant c.loop-c-test.false
