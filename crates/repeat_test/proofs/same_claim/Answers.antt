use Rattle.std.proofs.Common.{sym, ap₂, ◌∙◌}
use borrow.Author.Tests.{eqb-true, eqb-false, ne_eqb}
use Rattle.formula.specs.Answers.{same_bytes}
use Rattle.formula.proofs.ByteLaws.{same-pointwise}
use Rattle.calculus.specs.Rules.{judgement_at}
use Rattle.ledger.specs.Ledger.{steps_of}
use Rattle.repeat_test.proofs.TestLaws.{unlike, other-left, other-right, by_bytes}
use Rattle.repeat_test.proofs.same_claim.Goals.{then-predicate-eq-ENTAILS, else-predicate-eq-ENTAILS}
use Rattle.repeat_test.proofs.same_claim.Goals as goal

pub returns-then-predicate-eq-ENTAILS-2 : goal.returns-then-predicate-eq-ENTAILS-2
returns-then-predicate-eq-ENTAILS-2 c = let a = c.args in elim c.if-predicate-eq-ENTAILS.branch [
  | then-predicate-eq-ENTAILS w ↦
      c.eq.ensures ∙ same-pointwise _ _ ∙ ap₂ same_bytes c.claim.ensures c.claim-then-predicate-eq-ENTAILS-2.ensures
      ∙ by_bytes (judgement_at (steps_of a.l.now) a.c.step) (judgement_at (steps_of a.m.now) a.e.step) (sym c.predicate.ensures ∙ w.if-predicate-eq-ENTAILS.true) (sym w.predicate-then-predicate-eq-ENTAILS.ensures ∙ eqb-true _ 7 (sym w.value-is ∙ c.if-predicate-eq-ENTAILS-2.true))
  | else-predicate-eq-ENTAILS w ↦ absurd (unlike (sym c.if-predicate-eq-ENTAILS-2.true ∙ w.value-is ∙ ne_eqb _ 7 w.if-predicate-eq-ENTAILS.false))
]

pub returns-else-predicate-eq-ENTAILS-2 : goal.returns-else-predicate-eq-ENTAILS-2
returns-else-predicate-eq-ENTAILS-2 c = elim c.if-predicate-eq-ENTAILS.branch [
  | then-predicate-eq-ENTAILS w ↦ c.if-predicate-eq-ENTAILS-2.false ∙ other-right _ _ w.predicate-then-predicate-eq-ENTAILS.ensures (eqb-false _ 7 (sym w.value-is ∙ c.if-predicate-eq-ENTAILS-2.false))
  | else-predicate-eq-ENTAILS w ↦ c.if-predicate-eq-ENTAILS-2.false ∙ other-left _ _ c.predicate.ensures w.if-predicate-eq-ENTAILS.false
]
