use Rattle.std.proofs.Common.{sym, ap, ◌∙◌}
use Rattle.calculus.specs.Record.{fields}
use Rattle.kinds.specs.Kinds.{predicate_of}
use Rattle.records.proofs.PlaceLaws.{ended-fits}
use Rattle.records.proofs.BodyLaws.{body-short, body-none, body-some, operands_on, few-predicates}
use Rattle.records.proofs.body.body_end.Goals as goal

pub returns-then-s-lt2 : goal.returns-then-s-lt2
returns-then-s-lt2 c = let a = c.args in sym (body-short a.i a.s.now c.if-s-lt2.true)

pub returns-in_err-kind : goal.returns-in_err-kind
returns-in_err-kind c = let a = c.args in c.from_residual.ensures ∙ sym (body-none a.i a.s.now c.if-s-lt2.false c.get2.ensures.0 c.in_err-kind.ensures)

pub returns-in_err-at : goal.returns-in_err-at
returns-in_err-at c = let a = c.args in c.from_residual-in_err-at.ensures ∙ sym (body-some a.i a.s.now c.if-s-lt2.false c.get2.ensures.0 c.in_ok-kind.ensures ∙ ap (operands_on (fields (predicate_of c.in_ok-kind.kind.predicate)) a.s.now) (sym c.in_err-at.ensures))

pub values_end-requires : goal.values_end-requires
values_end-requires c = (ended-fits c.args.s.now _ _ (sym c.in_ok-at.ensures), few-predicates c.get2.result c.in_ok-kind.ensures)

pub returns : goal.returns
returns c = let a = c.args in c.values_end.ensures ∙ sym (body-some a.i a.s.now c.if-s-lt2.false c.get2.ensures.0 c.in_ok-kind.ensures ∙ ap (operands_on (fields (predicate_of c.in_ok-kind.kind.predicate)) a.s.now) (sym c.in_ok-at.ensures))
