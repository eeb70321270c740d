use native.Mathlib.Omega.{arith}
use mathlib.Core.Path.{ap₂, ◌∙◌}
use mathlib.Core.List.{List, ◌++◌}
use Prim.Native.Nat.{ℕ}
use Rattle.std.proofs.lemmas.Slice.{take-put_mid}
use Rattle.steps.proofs.PartLaws.{joined-inside, joined-longer, joined-next}
use Rattle.steps.proofs.parts.join.Goals as goal

pub overflow_add-to : goal.overflow_add-to
overflow_add-to c = omega (arith, c.requires, joined-inside c.args.parts.now c.loop-part.part-index c.loop-part.end c.loop-part-test.true c.loop-part.invariant.0)

pub slice_bounds-copy_from_slice-end : goal.slice_bounds-copy_from_slice-end
slice_bounds-copy_from_slice-end c = omega (arith, c.requires, c.loop-part.auto.out, joined-inside c.args.parts.now c.loop-part.part-index c.loop-part.end c.loop-part-test.true c.loop-part.invariant.0)

pub loop-part-preserved : goal.loop-part-preserved
loop-part-preserved c =
    let i = c.loop-part.invariant in
    let e = c.copy_from_slice.ensures.len in (
      joined-longer c.args.parts.now c.loop-part.part-index c.loop-part.end c.loop-part-test.true i.0,
      take-put_mid c.loop-part.end _ c.loop-part.out c.copy_from_slice.new.self _ (omega (arith, c.copy_from_slice.auto.self, e)) (omega (arith, c.requires, c.loop-part.auto.out, joined-inside c.args.parts.now c.loop-part.part-index c.loop-part.end c.loop-part-test.true i.0))
          ∙ ap₂ (λ (x y : List ℕ). x ++ y) i.1 c.copy_from_slice.ensures.after
          ∙ joined-next c.args.parts.now c.loop-part.part-index c.loop-part-test.true,
    )
