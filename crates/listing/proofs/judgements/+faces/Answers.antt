use Rattle.std.proofs.Common.{arith, ◌∙◌}
use Rattle.writing.proofs.WriteLaws.{room-first}
use Rattle.writing.proofs.FormulaLaws.{fronts-part, prints-part}
use Rattle.listing.proofs.ValueLaws.{none-room, none-prints, faces-room, face-asks, faces-space, faces-others, faces-close, faces-prints}
use Rattle.listing.proofs.judgements.+faces.Goals as goal

pub put-requires : goal.put-requires
put-requires t c = none-room c.if-n-eq0.true c.requires

pub returns-then-n-eq0 : goal.returns-then-n-eq0
returns-then-n-eq0 t c = record { prints = none-prints c.if-n-eq0.true c.put.ensures.wrote; same = c.put.ensures.same }

pub put-requires-2 : goal.put-requires-2
put-requires-2 t c = room-first _ _ (faces-room c.args.n c.args.f.now c.if-n-eq0.false c.requires)

pub formula-m-requires : goal.formula-m-requires
formula-m-requires t c = face-asks c.args.n c.args.f.now c.if-n-eq0.false c.requires c.put-2.ensures.wrote

pub put_byte-requires : goal.put_byte-requires
put_byte-requires t c = (faces-space c.args.n c.args.f.now c.if-n-eq0.false c.put-2.ensures.wrote c.formula-m.ensures.prints c.requires).1

pub slice_bounds-faces-count : goal.slice_bounds-faces-count
slice_bounds-faces-count t c = omega (arith, (faces-space c.args.n c.args.f.now c.if-n-eq0.false c.put-2.ensures.wrote c.formula-m.ensures.prints c.requires).0)

pub slice_bounds-faces-start : goal.slice_bounds-faces-start
slice_bounds-faces-start t c = omega (arith, (faces-space c.args.n c.args.f.now c.if-n-eq0.false c.put-2.ensures.wrote c.formula-m.ensures.prints c.requires).0)

pub faces-k-requires : goal.faces-k-requires
faces-k-requires t c = (omega (arith, c.decreases, c.if-n-eq0.false), fronts-part _ c.args.f.now (faces-others c.args.n c.args.f.now c.if-n-eq0.false c.put-2.ensures.wrote c.formula-m.ensures.prints c.put_byte.ensures.wrote c.requires))

pub overflow_add-result : goal.overflow_add-result
overflow_add-result t c = omega (arith, (faces-close c.args.n c.args.f.now c.if-n-eq0.false c.put-2.ensures.wrote c.formula-m.ensures.prints c.put_byte.ensures.wrote (prints-part _ c.args.f.now c.faces-k.ensures.prints) c.requires).0)

pub put_byte-requires-2 : goal.put_byte-requires-2
put_byte-requires-2 t c = (faces-close c.args.n c.args.f.now c.if-n-eq0.false c.put-2.ensures.wrote c.formula-m.ensures.prints c.put_byte.ensures.wrote (prints-part _ c.args.f.now c.faces-k.ensures.prints) c.requires).1

pub returns : goal.returns
returns t c = record { prints = faces-prints c.args.n c.args.f.now c.if-n-eq0.false c.put-2.ensures.wrote c.formula-m.ensures.prints c.put_byte.ensures.wrote (prints-part _ c.args.f.now c.faces-k.ensures.prints) c.put_byte-2.ensures.wrote; same = c.put_byte-2.ensures.same ∙ c.faces-k.ensures.same ∙ c.put_byte.ensures.same ∙ c.formula-m.ensures.same ∙ c.put-2.ensures.same }
