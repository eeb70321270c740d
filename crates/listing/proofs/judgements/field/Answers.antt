use Rattle.listing.proofs.ValueLaws.{field-fronts, field-writes}
use Rattle.listing.proofs.judgements.field.Goals as goal

pub number-requires : goal.number-requires
number-requires c = field-fronts c.in-Number.is c.requires

pub number-requires-in-Index : goal.number-requires-in-Index
number-requires-in-Index c = field-fronts c.in-Index.is c.requires

pub context-requires : goal.context-requires
context-requires c = field-fronts c.in-Context.is c.requires

pub formula-requires : goal.formula-requires
formula-requires c = field-fronts c.in-End.is c.requires

pub formula-requires-in-Face : goal.formula-requires-in-Face
formula-requires-in-Face c = field-fronts c.in-Face.is c.requires

pub formula-requires-in-Interval : goal.formula-requires-in-Interval
formula-requires-in-Interval c = field-fronts c.in-Interval.is c.requires

pub returns-in-Number : goal.returns-in-Number
returns-in-Number c = field-writes c.in-Number.is c.number.ensures

pub returns-in-Index : goal.returns-in-Index
returns-in-Index c = field-writes c.in-Index.is c.number-in-Index.ensures

pub returns-in-Context : goal.returns-in-Context
returns-in-Context c = field-writes c.in-Context.is c.context.ensures

pub returns-in-End : goal.returns-in-End
returns-in-End c = field-writes c.in-End.is c.formula.ensures

pub returns-in-Face : goal.returns-in-Face
returns-in-Face c = field-writes c.in-Face.is c.formula-in-Face.ensures

pub returns-in-Interval : goal.returns-in-Interval
returns-in-Interval c = field-writes c.in-Interval.is c.formula-in-Interval.ensures
