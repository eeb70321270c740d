use native.Mathlib.Omega.{arith}
use mathlib.Core.Path.{sym, ◌∙◌}
use Rattle.formula.proofs.StepLaws.{step_in, step-none, step-few}
use Rattle.formula.proofs.Place.step.Goals as goal

pub returns-then-pending-eq0 : goal.returns-then-pending-eq0
returns-then-pending-eq0 c = let a = c.args in sym (step-none a.sort a.s.now a.self.at a.self.pending c.if-pending-eq0.true)

pub returns-then-s-at : goal.returns-then-s-at
returns-then-s-at c = let a = c.args in sym (step-few a.sort a.s.now a.self.at a.self.pending (omega arith) (omega arith))

pub returns-then-s-at-2 : goal.returns-then-s-at-2
returns-then-s-at-2 c = let a = c.args in sym (step-few a.sort a.s.now a.self.at a.self.pending (omega arith) c.if-s-at-2.true)

pub returns-in-Nullary : goal.returns-in-Nullary
returns-in-Nullary c = let a = c.args in sym (step_in a.sort a.s.now a.self.at a.self.pending (omega arith) (omega arith) _ (sym c.in-Nullary.is ∙ c.kind_of.ensures))

pub returns-in-Literal : goal.returns-in-Literal
returns-in-Literal c = let a = c.args in c.literal_step.ensures ∙ sym (step_in a.sort a.s.now a.self.at a.self.pending (omega arith) (omega arith) _ (sym c.in-Literal.is ∙ c.kind_of.ensures))

pub returns-in-Unary : goal.returns-in-Unary
returns-in-Unary c = let a = c.args in sym (step_in a.sort a.s.now a.self.at a.self.pending (omega arith) (omega arith) _ (sym c.in-Unary.is ∙ c.kind_of.ensures))

pub returns-in-Binary : goal.returns-in-Binary
returns-in-Binary c = let a = c.args in sym (step_in a.sort a.s.now a.self.at a.self.pending (omega arith) (omega arith) _ (sym c.in-Binary.is ∙ c.kind_of.ensures))

pub returns-in-Unknown : goal.returns-in-Unknown
returns-in-Unknown c = let a = c.args in sym (step_in a.sort a.s.now a.self.at a.self.pending (omega arith) (omega arith) _ (sym c.in-Unknown.is ∙ c.kind_of.ensures))
