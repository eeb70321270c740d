use Rattle.std.proofs.Common.{arith, rules, length, ◌≡◌, sym}
use lib.Seq.{length-take-le}
use Rattle.kinds.proofs.KindLaws.{few-references}
use Rattle.emission.proofs.EmitLaws.{emit-as, emit-no-kind}
use Rattle.emission.proofs.KeepLaws.{keeps-as}
use Rattle.emission.proofs.emit.emit_step.Goals as goal

pub returns-in_err-e : goal.returns-in_err-e
returns-in_err-e c = let a = c.args in (emit-no-kind a.l.now a.l.now a.kind a.references a.operands.now _ c.in_err-e.ensures, λ s f t. c.requires)

pub emit_listed-requires : goal.emit_listed-requires
emit_listed-requires c =
    let f = few-references c.args.kind c.in_ok-e.e c.in_ok-e.ensures in
    let n : length c.args.references ≡ 3 = search rules in
    (c.requires, omega (arith, length-take-le c.in_ok-e.e.references c.args.references (omega arith)))

pub slice_bounds-references-end : goal.slice_bounds-references-end
slice_bounds-references-end c =
    let f = few-references c.args.kind c.in_ok-e.e c.in_ok-e.ensures in
    let n : length c.args.references ≡ 3 = search rules in
    omega arith

pub slice_bounds-emit_listed-end : goal.slice_bounds-emit_listed-end
slice_bounds-emit_listed-end c =
    let f = few-references c.args.kind c.in_ok-e.e c.in_ok-e.ensures in
    let n : length c.args.references ≡ 3 = search rules in
    sym (length-take-le c.in_ok-e.e.references c.args.references (omega arith))

pub returns : goal.returns
returns c = let a = c.args in (
  emit-as a.l.now c.emit_listed.new.l a.kind c.in_ok-e.e a.references a.operands.now _ c.in_ok-e.ensures c.emit_listed.ensures.0,
  keeps-as a.l.now c.emit_listed.new.l c.emit_listed.new.x a.kind c.in_ok-e.e a.references a.operands.now c.in_ok-e.ensures c.emit_listed.ensures.1,
)
