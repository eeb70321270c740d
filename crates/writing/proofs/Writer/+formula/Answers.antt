use Prim.Native.Nat.{◌+◌}
use native.Mathlib.Omega.{arith}
use mathlib.Core.Path.{sym, ◌∙◌}
use Rattle.writing.proofs.WriteLaws.{room-first}
use Rattle.writing.proofs.FormulaLaws.{seen, leaf-asks, leaf-prints, one-room, one-asks, one-close, one-prints, two-room, two-asks, two-space, two-second, two-close, two-prints, none-front, fronts-long, part-short, fronts-part, prints-part}
use Rattle.writing.proofs.Writer.+formula.Goals as goal

pub returns-in-Nullary : goal.returns-in-Nullary
returns-in-Nullary t c = record { prints = leaf-prints c.args.sort c.args.f.now (sym c.kind_of.ensures ∙ c.in-Nullary.is) c.put_name.ensures.wrote; same = c.put_name.ensures.same }

pub returns-in-Unary : goal.returns-in-Unary
returns-in-Unary t c = record { prints = one-prints c.args.sort c.args.f.now c.begin.ensures.wrote (prints-part 1 c.args.f.now c.formula-n.ensures.prints) (sym c.kind_of.ensures ∙ c.in-Unary.is) c.put_byte.ensures.wrote; same = c.put_byte.ensures.same ∙ c.formula-n.ensures.same ∙ c.begin.ensures.same }

pub returns-in-Binary : goal.returns-in-Binary
returns-in-Binary t c = record { prints = two-prints c.args.sort c.args.f.now c.begin-in-Binary.ensures.wrote (prints-part 1 c.args.f.now c.formula-m.ensures.prints) c.put_byte-in-Binary.ensures.wrote (prints-part _ c.args.f.now c.formula-n-in-Binary.ensures.prints) (sym c.kind_of.ensures ∙ c.in-Binary.is) c.put_byte-in-Binary-2.ensures.wrote; same = c.put_byte-in-Binary-2.ensures.same ∙ c.formula-n-in-Binary.ensures.same ∙ c.put_byte-in-Binary.ensures.same ∙ c.formula-m.ensures.same ∙ c.begin-in-Binary.ensures.same }

pub returns-in-Unknown : goal.returns-in-Unknown
returns-in-Unknown t c = none-front c.args.sort c.args.f.now (sym c.kind_of.ensures ∙ c.in-Unknown.is) c.requires

pub bounds-f-0 : goal.bounds-f-0
bounds-f-0 t c = fronts-long c.args.sort c.args.f.now c.requires

pub put_name-requires : goal.put_name-requires
put_name-requires t c = leaf-asks c.args.sort c.args.f.now (sym c.kind_of.ensures ∙ c.in-Nullary.is) c.requires

pub begin-requires : goal.begin-requires
begin-requires t c = let e = (sym c.kind_of.ensures ∙ c.in-Unary.is) in ((seen c.args.sort c.args.f.now e c.requires).names, room-first _ _ (one-room c.args.sort c.args.f.now e c.requires))

pub slice_bounds-formula-count : goal.slice_bounds-formula-count
slice_bounds-formula-count t c = omega (arith, fronts-long c.args.sort c.args.f.now c.requires)

pub slice_bounds-formula-start : goal.slice_bounds-formula-start
slice_bounds-formula-start t c = omega (arith, fronts-long c.args.sort c.args.f.now c.requires)

pub formula-n-requires : goal.formula-n-requires
formula-n-requires t c = (omega (arith, c.decreases, fronts-long c.args.sort c.args.f.now c.requires, part-short 1 c.args.f.now), fronts-part 1 c.args.f.now (one-asks c.args.sort c.args.f.now (sym c.kind_of.ensures ∙ c.in-Unary.is) c.requires c.begin.ensures.wrote))

pub overflow_add-result : goal.overflow_add-result
overflow_add-result t c = omega (arith, (one-close c.args.sort c.args.f.now c.begin.ensures.wrote (prints-part 1 c.args.f.now c.formula-n.ensures.prints) (sym c.kind_of.ensures ∙ c.in-Unary.is) c.requires).0)

pub put_byte-requires : goal.put_byte-requires
put_byte-requires t c = (one-close c.args.sort c.args.f.now c.begin.ensures.wrote (prints-part 1 c.args.f.now c.formula-n.ensures.prints) (sym c.kind_of.ensures ∙ c.in-Unary.is) c.requires).1

pub begin-requires-in-Binary : goal.begin-requires-in-Binary
begin-requires-in-Binary t c = let e = (sym c.kind_of.ensures ∙ c.in-Binary.is) in ((seen c.args.sort c.args.f.now e c.requires).names, room-first _ _ (two-room c.args.sort c.args.f.now e c.requires))

pub slice_bounds-formula-count-in-Binary : goal.slice_bounds-formula-count-in-Binary
slice_bounds-formula-count-in-Binary t c = omega (arith, fronts-long c.args.sort c.args.f.now c.requires)

pub slice_bounds-formula-start-in-Binary : goal.slice_bounds-formula-start-in-Binary
slice_bounds-formula-start-in-Binary t c = omega (arith, fronts-long c.args.sort c.args.f.now c.requires)

pub formula-m-requires : goal.formula-m-requires
formula-m-requires t c = (omega (arith, c.decreases, fronts-long c.args.sort c.args.f.now c.requires, part-short 1 c.args.f.now), fronts-part 1 c.args.f.now (two-asks c.args.sort c.args.f.now (sym c.kind_of.ensures ∙ c.in-Binary.is) c.requires c.begin-in-Binary.ensures.wrote))

pub put_byte-requires-in-Binary : goal.put_byte-requires-in-Binary
put_byte-requires-in-Binary t c = (two-space c.args.sort c.args.f.now c.begin-in-Binary.ensures.wrote (prints-part 1 c.args.f.now c.formula-m.ensures.prints) (sym c.kind_of.ensures ∙ c.in-Binary.is) c.requires).1

pub overflow_add-m : goal.overflow_add-m
overflow_add-m t c = omega (arith, (two-space c.args.sort c.args.f.now c.begin-in-Binary.ensures.wrote (prints-part 1 c.args.f.now c.formula-m.ensures.prints) (sym c.kind_of.ensures ∙ c.in-Binary.is) c.requires).0)

pub slice_bounds-formula-count-in-Binary-2 : goal.slice_bounds-formula-count-in-Binary-2
slice_bounds-formula-count-in-Binary-2 t c = omega (arith, (two-space c.args.sort c.args.f.now c.begin-in-Binary.ensures.wrote (prints-part 1 c.args.f.now c.formula-m.ensures.prints) (sym c.kind_of.ensures ∙ c.in-Binary.is) c.requires).0)

pub slice_bounds-formula-start-in-Binary-2 : goal.slice_bounds-formula-start-in-Binary-2
slice_bounds-formula-start-in-Binary-2 t c = omega (arith, (two-space c.args.sort c.args.f.now c.begin-in-Binary.ensures.wrote (prints-part 1 c.args.f.now c.formula-m.ensures.prints) (sym c.kind_of.ensures ∙ c.in-Binary.is) c.requires).0)

pub formula-n-requires-in-Binary : goal.formula-n-requires-in-Binary
formula-n-requires-in-Binary t c = (omega (arith, c.decreases, (two-space c.args.sort c.args.f.now c.begin-in-Binary.ensures.wrote (prints-part 1 c.args.f.now c.formula-m.ensures.prints) (sym c.kind_of.ensures ∙ c.in-Binary.is) c.requires).0, part-short (1 + c.formula-m.result) c.args.f.now), fronts-part _ c.args.f.now (two-second c.args.sort c.args.f.now c.begin-in-Binary.ensures.wrote (prints-part 1 c.args.f.now c.formula-m.ensures.prints) c.put_byte-in-Binary.ensures.wrote (sym c.kind_of.ensures ∙ c.in-Binary.is) c.requires))

pub overflow_add-result-in-Binary : goal.overflow_add-result-in-Binary
overflow_add-result-in-Binary t c = omega (arith, (two-close c.args.sort c.args.f.now c.begin-in-Binary.ensures.wrote (prints-part 1 c.args.f.now c.formula-m.ensures.prints) c.put_byte-in-Binary.ensures.wrote (prints-part _ c.args.f.now c.formula-n-in-Binary.ensures.prints) (sym c.kind_of.ensures ∙ c.in-Binary.is) c.requires).0)

pub put_byte-requires-in-Binary-2 : goal.put_byte-requires-in-Binary-2
put_byte-requires-in-Binary-2 t c = (two-close c.args.sort c.args.f.now c.begin-in-Binary.ensures.wrote (prints-part 1 c.args.f.now c.formula-m.ensures.prints) c.put_byte-in-Binary.ensures.wrote (prints-part _ c.args.f.now c.formula-n-in-Binary.ensures.prints) (sym c.kind_of.ensures ∙ c.in-Binary.is) c.requires).1
