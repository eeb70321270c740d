use Rattle.std.specs.Prelude.{ℕ, Option}
use native.Mathlib.Omega.{arith}
use mathlib.Core.Path.{sym, ap, ◌∙◌, subst}
use Rattle.passes.specs.Rewriting.{moved_weight}
use Rattle.passes.proofs.PassLaws.{Near, near}
use Rattle.passes.proofs.weighing.literal_weight.Goals as goal

pub overflow_add-result-in-Some : goal.overflow_add-result-in-Some
overflow_add-result-in-Some c = let a = c.args in
    let h = subst (Near a.n) (sym c.move_dim.ensures ∙ c.in-Some.is) (near a.rule a.n) in
    omega arith

pub returns-in-Some : goal.returns-in-Some
returns-in-Some c = let a = c.args in sym (ap (λ (x : Option ℕ). moved_weight x a.hit) (sym c.move_dim.ensures ∙ c.in-Some.is))

pub returns-in-None : goal.returns-in-None
returns-in-None c = let a = c.args in sym (ap (λ (x : Option ℕ). moved_weight x a.hit) (sym c.move_dim.ensures ∙ c.in-None.is))
