use native.Mathlib.Omega.{arith}
use Rattle.syntax.proofs.WordLaws.{above_low, onward-back, onward-one, onward-two}
use Rattle.passes.specs.Stepping.{kind_over}
use mathlib.Core.Path.{refl, ap}
use mathlib.Core.Logic.{inl, inr}
use Rattle.syntax.proofs.depths.onward.Goals as goal

pub back-requires : goal.back-requires
back-requires c = c.requires

pub overflow_mul-result : goal.overflow_mul-result
overflow_mul-result c = omega (arith, above_low c.requires)

pub overflow_mul-result-in-Two : goal.overflow_mul-result-in-Two
overflow_mul-result-in-Two c = omega (arith, above_low c.requires)

pub overflow_add-result : goal.overflow_add-result
overflow_add-result c = omega (arith, above_low c.requires)

pub returns-in-Leaf : goal.returns-in-Leaf
returns-in-Leaf c =
    elim c.in-Leaf.is [
      | inl p ↦ onward-back (ap kind_over p.1) (λ d ds. refl) c.back.ensures
      | inr (inl p) ↦ onward-back (ap kind_over p.2) (λ d ds. refl) c.back.ensures
      | inr (inr p) ↦ onward-back (ap kind_over p) (λ d ds. refl) c.back.ensures
    ]

pub returns-in-One : goal.returns-in-One
returns-in-One c = onward-one (ap kind_over c.in-One.is) refl

pub returns-in-Two : goal.returns-in-Two
returns-in-Two c = onward-two (ap kind_over c.in-Two.is) refl
