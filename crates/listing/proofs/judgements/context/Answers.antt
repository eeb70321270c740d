use native.Mathlib.Omega.{arith}
use Rattle.writing.proofs.FormulaLaws.{fronts-part, prints-part}
use Rattle.listing.proofs.ValueLaws.{context-long, context-asks, context-within, context-prints}
use Rattle.listing.proofs.judgements.context.Goals as goal

pub get2-n-requires : goal.get2-n-requires
get2-n-requires c = context-long c.args.f.now c.requires

pub slice_bounds-faces-count : goal.slice_bounds-faces-count
slice_bounds-faces-count c = omega (arith, context-long c.args.f.now c.requires)

pub slice_bounds-faces-start : goal.slice_bounds-faces-start
slice_bounds-faces-start c = omega (arith, context-long c.args.f.now c.requires)

pub faces-requires : goal.faces-requires
faces-requires c = fronts-part 2 c.args.f.now (context-asks c.args.f.now c.get2-n.ensures.0 c.requires)

pub overflow_add-result : goal.overflow_add-result
overflow_add-result c = omega (arith, context-within c.args.f.now c.get2-n.ensures.0 (prints-part 2 c.args.f.now c.faces.ensures.prints) c.requires)

pub returns : goal.returns
returns c = record { prints = context-prints c.args.f.now c.get2-n.ensures.0 (prints-part 2 c.args.f.now c.faces.ensures.prints); same = c.faces.ensures.same }
