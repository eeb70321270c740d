use mathlib.Core.Path.{◌∙◌}
use Rattle.records.proofs.FieldLaws.{number-255, index-254, field_told}
use Rattle.records.proofs.fields.field_end.Goals as goal

pub returns-in-Number : goal.returns-in-Number
returns-in-Number c = let a = c.args in field_told a.s.now a.at c.in-Number.is (c.number_end.ensures ∙ number-255 a.s.now a.at)

pub returns-in-Index : goal.returns-in-Index
returns-in-Index c = let a = c.args in field_told a.s.now a.at c.in-Index.is (c.number_end-in-Index.ensures ∙ index-254 a.s.now a.at)

pub returns-in-Context : goal.returns-in-Context
returns-in-Context c = let a = c.args in field_told a.s.now a.at c.in-Context.is c.context_end.ensures

pub returns-in-End : goal.returns-in-End
returns-in-End c = let a = c.args in field_told a.s.now a.at c.in-End.is c.end_end.ensures

pub returns-in-Face : goal.returns-in-Face
returns-in-Face c = let a = c.args in field_told a.s.now a.at c.in-Face.is c.formula_end.ensures

pub returns-in-Interval : goal.returns-in-Interval
returns-in-Interval c = let a = c.args in field_told a.s.now a.at c.in-Interval.is c.formula_end-in-Interval.ensures
