use Rattle.std.proofs.Common.{◌∙◌}
use Rattle.records.proofs.FieldLaws.{left-ill, left-on, left-none}
use Rattle.records.proofs.fields.values_end.Goals as goal

pub returns-in_err-e : goal.returns-in_err-e
returns-in_err-e c = c.from_residual.ensures ∙ left-ill c.loop-f.invariant c.fields_of-f-items.ensures c.loop-f-test.true c.in_err-e.ensures

pub loop-f-preserved : goal.loop-f-preserved
loop-f-preserved c = left-on c.loop-f.invariant c.fields_of-f-items.ensures c.loop-f-test.true c.in_ok-e.ensures

pub returns : goal.returns
returns c = left-none c.loop-f.invariant c.fields_of-f-items.ensures c.loop-f-test.false
