use Rattle.std.proofs.Common.{arith, sym, length-take-le}
use Rattle.claims.proofs.PrintLaws.{verdict-asked, verdict-fits}
use Rattle.facesteps.proofs.run.Goals as goal

pub verdict-len-requires : goal.verdict-len-requires
verdict-len-requires g c = verdict-asked c.ask-answer.ensures

pub slice_bounds-space-end : goal.slice_bounds-space-end
slice_bounds-space-end g c = verdict-fits c.ask-answer.ensures c.verdict-len.ensures (omega (arith, c.zeros-space.ensures, c.print_lines.auto.space))

pub slice_bounds-write_all-end : goal.slice_bounds-write_all-end
slice_bounds-write_all-end g c = sym (length-take-le _ _ (verdict-fits c.ask-answer.ensures c.verdict-len.ensures (omega (arith, c.zeros-space.ensures, c.print_lines.auto.space))))
