use Rattle.std.proofs.Common.{ap, ◌∙◌, map, length, arith}
use Rattle.std.proofs.lemmas.List.{nil_from_length}
use Rattle.writing.proofs.FormulaLaws.{fronts-part}
use Rattle.listing.proofs.ValueLaws.{end-room, end-prints, fields-front, fields-print, value-space, value-asks, others-ask, values-print, values-part}
use Rattle.listing.specs.Writing.{field_of}
use Rattle.listing.proofs.judgements.+operands.Goals as goal

pub put_byte-requires : goal.put_byte-requires
put_byte-requires t c = end-room (ap (map field_of) (nil_from_length _ c.in_default.ensures.cases)) c.requires

pub returns-in_default : goal.returns-in_default
returns-in_default t c = record { prints = end-prints (ap (map field_of) (nil_from_length _ c.in_default.ensures.cases)) c.put_byte.ensures.wrote; same = c.put_byte.ensures.same }

pub put_byte-requires-2 : goal.put_byte-requires-2
put_byte-requires-2 t c = value-space (field_of c.in-Some.kind.now) (map field_of c.in-Some.rest.now) c.args.f.now (fields-front (ap (map field_of) c.in-Some.ensures.cases.0) c.requires)

pub field-m-requires : goal.field-m-requires
field-m-requires t c = value-asks (field_of c.in-Some.kind.now) (map field_of c.in-Some.rest.now) c.args.f.now c.put_byte-2.ensures.wrote (fields-front (ap (map field_of) c.in-Some.ensures.cases.0) c.requires)

pub slice_bounds-operands-count : goal.slice_bounds-operands-count
slice_bounds-operands-count t c = omega (arith, (others-ask (field_of c.in-Some.kind.now) (map field_of c.in-Some.rest.now) c.args.f.now c.put_byte-2.ensures.wrote c.field-m.ensures.prints (fields-front (ap (map field_of) c.in-Some.ensures.cases.0) c.requires)).0)

pub slice_bounds-operands-start : goal.slice_bounds-operands-start
slice_bounds-operands-start t c = omega (arith, (others-ask (field_of c.in-Some.kind.now) (map field_of c.in-Some.rest.now) c.args.f.now c.put_byte-2.ensures.wrote c.field-m.ensures.prints (fields-front (ap (map field_of) c.in-Some.ensures.cases.0) c.requires)).0)

pub operands-requires : goal.operands-requires
operands-requires t c = (omega (arith, c.decreases, ap length c.in-Some.ensures.cases.0), fronts-part _ c.args.f.now (others-ask (field_of c.in-Some.kind.now) (map field_of c.in-Some.rest.now) c.args.f.now c.put_byte-2.ensures.wrote c.field-m.ensures.prints (fields-front (ap (map field_of) c.in-Some.ensures.cases.0) c.requires)).1)

pub returns : goal.returns
returns t c = record { prints = fields-print (ap (map field_of) c.in-Some.ensures.cases.0) (values-print (field_of c.in-Some.kind.now) (map field_of c.in-Some.rest.now) c.args.f.now c.put_byte-2.ensures.wrote c.field-m.ensures.prints (values-part _ c.args.f.now c.operands.ensures.prints)); same = c.operands.ensures.same ∙ c.field-m.ensures.same ∙ c.put_byte-2.ensures.same }
