use Prim.Native.Nat.{◌+◌}
use mathlib.Core.Path.{sym, ◌∙◌}
use lib.ListN.{length-set}
use borrow.Author.Tests.{ltb-true, ltb-false}
use Rattle.clauses.specs.Words.{facing}
use Rattle.clauses.proofs.ListLaws.{counted-unless}
use Rattle.dnf.proofs.PairLaws.{pairing-next, pairing-over, pairing-end}
use Rattle.dnf.proofs.paired.pairs_with.Goals as goal

pub returns-then-over : goal.returns-then-over
returns-then-over c = let a = c.args in
    pairing-over (facing a.o) a.c a.right.now c.loop-d.invariant _ c.loop-d-test.true c.join.ensures c.meet.ensures (counted-unless c.meet.result c.from-k.ensures) (ltb-true 256 (c.loop-d.k + c.from-k.result) (sym c.over.ensures ∙ c.if-over.true)) c.requires.0 c.requires.1

pub loop-d-preserved : goal.loop-d-preserved
loop-d-preserved c = let a = c.args in
    pairing-next (facing a.o) a.c a.right.now c.loop-d.invariant _ c.loop-d-test.true c.join.ensures c.meet.ensures (counted-unless c.meet.result c.from-k.ensures) (ltb-false 256 (c.loop-d.k + c.from-k.result) (sym c.over.ensures ∙ c.if-over.false)) c.requires.0 (length-set c.loop-d.made c.loop-d.k c.join.result)

pub returns : goal.returns
returns c = pairing-end (facing c.args.o) c.args.c c.args.right.now c.loop-d.invariant c.loop-d-test.false
