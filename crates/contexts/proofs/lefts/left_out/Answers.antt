use native.Mathlib.Omega.{arith}
use Rattle.contexts.proofs.ContextLaws.{context-short, context-as}
use Rattle.contexts.proofs.LeftLaws.{at-end, cut_short}
use Rattle.contexts.proofs.TakeLaws.{at-others, at-left}
use Rattle.contexts.proofs.lefts.left_out.Goals as goal

pub overflow_add-at : goal.overflow_add-at
overflow_add-at c = omega (arith, at-end c.requires, context-short c.requires.whole)

pub leave-m-requires : goal.leave-m-requires
leave-m-requires c = (omega arith, at-end c.requires, omega (arith, cut_short c.requires))

pub invariant_of-others : goal.invariant_of-others
invariant_of-others c = record { sound = context-as (at-others c.requires c.leave-m.ensures.1) }

pub take-requires : goal.take-requires
take-requires c = at-left c.requires (at-others c.requires c.leave-m.ensures.1)
