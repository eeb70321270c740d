use Rattle.calculus.specs.Record.{fields}
use Rattle.kinds.specs.Kinds.{predicate_of}
use Rattle.records.proofs.FieldLaws.{Left}
use Rattle.records.proofs.fields.values_end.Given as goal

abbrev pub invariant-loop-f : goal.invariant-loop-f
invariant-loop-f l = Left (fields (predicate_of l.predicate)) l.s l.at l.f-index l.e
