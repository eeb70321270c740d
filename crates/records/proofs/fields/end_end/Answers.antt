use Rattle.std.proofs.Common.{arith, refl, sym, ap, ◌∙◌}
use borrow.Author.Tests.{eq-eqb, ne_eqb}
use Rattle.formula.specs.declared.Sort.TheVariants.{Intervals}
use Rattle.records.proofs.PlaceLaws.{size_fits}
use Rattle.records.proofs.FieldLaws.{end-law, end_to, end-as}
use Rattle.records.proofs.fields.end_end.Goals.{then-z-ne1-via-then-z-ne1, then-z-ne1-via-else-z-ne1+then-dimensional}
use Rattle.records.proofs.fields.end_end.Goals as goal

pub returns-in_default : goal.returns-in_default
returns-in_default c = let a = c.args in sym (end-law a.s.now a.at c.requires ∙ ap (end_to a.at) (sym c.in_default.ensures))

pub returns-then-z-ne1 : goal.returns-then-z-ne1
returns-then-z-ne1 c = let a = c.args in elim c.then-z-ne1.branch [
  | then-z-ne1-via-then-z-ne1 w ↦ sym (end-as a.s.now a.at c.requires (sym c.in-Ok.ensures) (ne_eqb _ 1 w.if-z-ne1.true) refl)
  | then-z-ne1-via-else-z-ne1+then-dimensional w ↦ sym (end-as a.s.now a.at c.requires (sym c.in-Ok.ensures) (eq-eqb _ 1 w.if-z-ne1.false) (ne_eqb _ 0 w.if-dimensional.true))
]

pub overflow_add-result : goal.overflow_add-result
overflow_add-result c = let a = c.args in let f = size_fits Intervals a.s.now a.at c.requires _ (sym c.in-Ok.ensures) in omega arith

pub returns : goal.returns
returns c = let a = c.args in sym (end-as a.s.now a.at c.requires (sym c.in-Ok.ensures) (eq-eqb _ 1 c.if-z-ne1.false) (eq-eqb _ 0 c.if-dimensional.false))
