use Rattle.std.proofs.Common.{refl, rules, sym}
use Rattle.writing.proofs.DeliverLaws.{short-delivers, writes-deliver}
use Rattle.listing.proofs.LineLaws.{line-shows, line-of}
use Rattle.listing.proofs.lines.sized.Goals as goal

pub line-requires : goal.line-requires
line-requires c = line-shows c.requires.0 c.requires.1 c.seek-c.ensures.0 c.seek-c.ensures.1

pub returns-then-out-measure : goal.returns-then-out-measure
returns-then-out-measure c = short-delivers (line-of c.args.l.now c.seek-c.ensures.0 c.line.ensures.wrote) c.if-out-measure.true refl

pub line-requires-2 : goal.line-requires-2
line-requires-2 c = line-shows c.requires.0 c.requires.1 c.seek-c.ensures.0 c.seek-c.ensures.1

pub returns : goal.returns
returns c =
    writes-deliver (line-of c.args.l.now c.seek-c.ensures.0 c.line.ensures.wrote) c.if-out-measure.false (line-of c.args.l.now c.seek-c.ensures.0 c.line-2.ensures.wrote)
    (let s = c.line-2.ensures.same in search (rules, s, sym))
