use Rattle.std.proofs.Common.{arith, sym, ap, ◌∙◌}
use Rattle.records.proofs.PlaceLaws.{size_fits}
use Rattle.records.proofs.FieldLaws.{formula-law, formula_to, formula-as}
use Rattle.records.proofs.fields.formula_end.Goals as goal

pub returns-in_default : goal.returns-in_default
returns-in_default c = let a = c.args in sym (formula-law a.sort a.s.now a.at c.requires ∙ ap (formula_to a.at) (sym c.in_default.ensures))

pub returns-then-not-within : goal.returns-then-not-within
returns-then-not-within c = let a = c.args in sym (formula-as a.sort a.s.now a.at c.requires (sym c.in-Ok.ensures) (sym c.if-not-within.ensures))

pub overflow_add-result : goal.overflow_add-result
overflow_add-result c = let a = c.args in let f = size_fits a.sort a.s.now a.at c.requires _ (sym c.in-Ok.ensures) in omega arith

pub returns : goal.returns
returns c = let a = c.args in sym (formula-as a.sort a.s.now a.at c.requires (sym c.in-Ok.ensures) (sym c.if-not-within.ensures))
