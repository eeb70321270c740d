use native.Mathlib.Omega.{arith}
use Rattle.steps.proofs.PartLaws.{joined-inside, joined-longer}
use Rattle.steps.proofs.parts.total.Goals as goal

pub overflow_add-n : goal.overflow_add-n
overflow_add-n c = omega (arith, c.requires, joined-inside c.args.parts.now c.loop-part.part-index c.loop-part.n c.loop-part-test.true c.loop-part.invariant)

pub loop-part-preserved : goal.loop-part-preserved
loop-part-preserved c = joined-longer c.args.parts.now c.loop-part.part-index c.loop-part.n c.loop-part-test.true c.loop-part.invariant
