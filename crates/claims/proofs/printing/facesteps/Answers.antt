use Rattle.std.proofs.Common.{refl, rules, sym}
use Rattle.writing.proofs.DeliverLaws.{short-delivers, writes-deliver}
use Rattle.writing.proofs.WriteLaws.{wrote_as}
use Rattle.claims.proofs.PrintLaws.{listed-room, prints}
use Rattle.claims.proofs.printing.facesteps.Goals as goal

pub whole-requires : goal.whole-requires
whole-requires c = (c.ask-a.ensures.led, refl, listed-room c.ask-a.ensures)

pub returns-then-out-measure : goal.returns-then-out-measure
returns-then-out-measure c = record { delivers = short-delivers (wrote_as (prints c.ask-a.ensures) c.whole.ensures.wrote) c.if-out-measure.true refl }

pub whole-requires-2 : goal.whole-requires-2
whole-requires-2 c = (c.ask-a.ensures.led, refl, listed-room c.ask-a.ensures)

pub returns : goal.returns
returns c =
    record {
      delivers = writes-deliver (wrote_as (prints c.ask-a.ensures) c.whole.ensures.wrote) c.if-out-measure.false (wrote_as (prints c.ask-a.ensures) c.whole-2.ensures.wrote)
          (let s = c.whole-2.ensures.same in search (rules, s, sym));
    }
