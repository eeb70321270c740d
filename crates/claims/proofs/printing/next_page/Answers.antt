use Rattle.std.proofs.Common.{refl, sym, ◌∙◌, arith, rules}
use Rattle.claims.proofs.PrintLaws.{listing_start, listing-points, listing-shows, listing-next, listing-less, walks-among, page-fits, page-full, page-last, pages-same}
use Rattle.claims.proofs.printing.next_page.Goals.{else-loop-c-test, then-loop-c-test+then-w-ge65536}
use Rattle.claims.proofs.printing.next_page.Goals as goal

pub loop-c-init : goal.loop-c-init
loop-c-init c = (c.used-end.ensures, omega arith, listing_start (walks-among c.requires.0), refl)

pub line-requires : goal.line-requires
line-requires c = listing-shows c.loop-c.invariant.2 c.loop-c.invariant.0 c.loop-c-test.true

pub next-c-requires : goal.next-c-requires
next-c-requires c = listing-points c.loop-c.invariant.2 c.loop-c.invariant.0 c.loop-c-test.true

pub loop-c-smaller : goal.loop-c-smaller
loop-c-smaller c = listing-less (listing-points c.loop-c.invariant.2 c.loop-c.invariant.0 c.loop-c-test.true) c.next-c.ensures.1 c.loop-c.invariant.0

pub loop-c-preserved : goal.loop-c-preserved
loop-c-preserved c =
    (c.loop-c.invariant.0, page-fits (listing-points c.loop-c.invariant.2 c.loop-c.invariant.0 c.loop-c-test.true) c.requires.1 c.if-w-ge65536.false c.line.ensures.wrote, listing-next c.loop-c.invariant.2 c.loop-c.invariant.0 c.loop-c-test.true c.line.ensures.wrote c.next-c.ensures, c.line.ensures.same ∙ c.loop-c.invariant.3)

pub returns : goal.returns
returns c =
    pages-same (let s = c.loop-c.invariant.3 in search (rules, s, sym))
    (elim c.loop-c-test.branch [
      | else-loop-c-test w ↦ page-last c.loop-c.invariant.2 c.loop-c.invariant.1 c.requires.2 c.loop-c.invariant.0 w.loop-c-test.false
      | then-loop-c-test+then-w-ge65536 w ↦ page-full c.loop-c.invariant.2 c.loop-c.invariant.1 c.requires.2 w.if-w-ge65536.true
    ])
