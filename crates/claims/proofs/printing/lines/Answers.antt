use Rattle.std.proofs.Common.{refl, ◌∙◌, arith}
use Rattle.claims.proofs.PrintLaws.{listing-begin, listing-points, listing-shows, listing-next, listing-all, listing-less, lines-writes}
use Rattle.claims.proofs.printing.lines.Goals as goal

pub loop-c-init : goal.loop-c-init
loop-c-init c = (c.used-end.ensures, listing-begin c.requires.0 (omega arith) (omega arith) c.requires.1, refl)

pub line-requires : goal.line-requires
line-requires c = listing-shows c.loop-c.invariant.1 c.loop-c.invariant.0 c.loop-c-test.true

pub next-c-requires : goal.next-c-requires
next-c-requires c = listing-points c.loop-c.invariant.1 c.loop-c.invariant.0 c.loop-c-test.true

pub loop-c-smaller : goal.loop-c-smaller
loop-c-smaller c = listing-less (listing-points c.loop-c.invariant.1 c.loop-c.invariant.0 c.loop-c-test.true) c.next-c.ensures.1 c.loop-c.invariant.0

pub loop-c-preserved : goal.loop-c-preserved
loop-c-preserved c = (c.loop-c.invariant.0, listing-next c.loop-c.invariant.1 c.loop-c.invariant.0 c.loop-c-test.true c.line.ensures.wrote c.next-c.ensures, c.line.ensures.same ∙ c.loop-c.invariant.2)

pub returns : goal.returns
returns c = lines-writes c.args.l.now c.requires.1 (listing-all c.loop-c.invariant.1 c.loop-c.invariant.0 c.loop-c-test.false) c.loop-c.invariant.2
