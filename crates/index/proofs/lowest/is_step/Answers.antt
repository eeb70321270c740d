use mathlib.Core.Path.{sym, ap, ◌∙◌}
use mathlib.Core.List.{List}
use Prim.Native.Nat.{ℕ}
use Rattle.formula.specs.Answers.{same_bytes}
use Rattle.calculus.specs.Rules.{step_at}
use Rattle.ledger.specs.Ledger.{steps_of}
use Rattle.index.proofs.SameLaws.{other-predicate, same-predicate}
use Rattle.index.proofs.lowest.is_step.Goals as goal

pub returns-then-not-ends_with : goal.returns-then-not-ends_with
returns-then-not-ends_with c = let a = c.args in sym (c.ends_with.ensures (c.if-not-ends_with.true) a.predicate)

pub returns-then-predicate : goal.returns-then-predicate
returns-then-predicate c = let a = c.args in sym (other-predicate a.predicate a.operands.now (step_at (steps_of a.l.now) a.c.step) (λ e. c.if-predicate.true (c.predicate.ensures ∙ e)))

pub returns : goal.returns
returns c = let a = c.args in c.same.ensures ∙ ap (λ (x : List ℕ). same_bytes x a.operands.now) c.operands.ensures ∙ sym (same-predicate a.predicate a.operands.now (step_at (steps_of a.l.now) a.c.step) (sym c.predicate.ensures ∙ c.if-predicate.false))
