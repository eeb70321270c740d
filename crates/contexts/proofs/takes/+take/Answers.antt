use mathlib.Core.Path.{refl, subst}
use native.Mathlib.Omega.{arith}
use Rattle.std.proofs.lemmas.Result.{err_from_is_err_and}
use Rattle.steps.proofs.RunLaws.{runs-led}
use Rattle.steps.proofs.LentLaws.{kept-of, lent-on}
use Rattle.contexts.specs.Faces.{Splits}
use Rattle.contexts.proofs.ContextLaws.{some-of}
use Rattle.contexts.proofs.TakeLaws.{take_short, take-here, take-some, rest-left, take-stop, take-up}
use Rattle.contexts.proofs.takes.+take.Goals as goal

pub emit-requires : goal.emit-requires
emit-requires t c = let a = c.args in (kept-of a.p.now, take_short a.g a.d c.requires c.count_field-before.ensures c.count_field-after.ensures)

pub invariant_of-p : goal.invariant_of-p
invariant_of-p t c = let a = c.args in record { indexed = runs-led (take-here a.g a.d c.requires c.if-i-eq0.true c.count_field-before.ensures c.count_field-after.ensures c.emit.ensures) }

pub returns-then-i-eq0 : goal.returns-then-i-eq0
returns-then-i-eq0 t c = let a = c.args in record { runs = take-here a.g a.d c.requires c.if-i-eq0.true c.count_field-before.ensures c.count_field-after.ensures c.emit.ensures; lent = record { ledger = refl; index = refl } }

pub unwrap-requires : goal.unwrap-requires
unwrap-requires t c = let a = c.args in some-of a.g c.split_first.result c.split_first.ensures (take-some a.g a.d c.requires c.if-i-eq0.false).0

pub unwrap-requires-2 : goal.unwrap-requires-2
unwrap-requires-2 t c = let a = c.args in some-of a.d c.split_first-2.result c.split_first-2.ensures (take-some a.g a.d c.requires c.if-i-eq0.false).1

pub take-requires : goal.take-requires
take-requires t c = let a = c.args in (omega (arith, c.decreases, c.if-i-eq0.false), rest-left a.g a.d c.requires c.if-i-eq0.false (subst (Splits a.g) c.unwrap.ensures c.split_first.ensures) (subst (Splits a.d) c.unwrap-2.ensures c.split_first-2.ensures))

pub returns-in_err-r : goal.returns-in_err-r
returns-in_err-r t c = let a = c.args in
    let p = err_from_is_err_and c.from_residual.result c.from_residual.ensures.1 in
    rw (p.1, p.2) (record {
      runs = take-stop a.g a.d c.requires c.if-i-eq0.false (subst (Splits a.g) c.unwrap.ensures c.split_first.ensures) (subst (Splits a.d) c.unwrap-2.ensures c.split_first-2.ensures) c.in_err-r.ensures.runs refl;
      lent = c.in_err-r.ensures.lent;
    })

pub emit-requires-2 : goal.emit-requires-2
emit-requires-2 t c = let a = c.args in (runs-led c.in_ok-r.ensures.runs, take_short a.g a.d c.requires c.count_field-before.ensures c.count_field-after.ensures)

pub invariant_of-p-2 : goal.invariant_of-p-2
invariant_of-p-2 t c = let a = c.args in record {
  indexed = runs-led (take-up a.g a.d c.requires c.if-i-eq0.false (subst (Splits a.g) c.unwrap.ensures c.split_first.ensures) (subst (Splits a.d) c.unwrap-2.ensures c.split_first-2.ensures) c.in_ok-r.ensures.runs refl refl
      c.count_field-before.ensures c.count_field-after.ensures c.emit-2.ensures);
}

pub returns : goal.returns
returns t c = let a = c.args in record {
  runs = take-up a.g a.d c.requires c.if-i-eq0.false (subst (Splits a.g) c.unwrap.ensures c.split_first.ensures) (subst (Splits a.d) c.unwrap-2.ensures c.split_first-2.ensures) c.in_ok-r.ensures.runs refl refl
      c.count_field-before.ensures c.count_field-after.ensures c.emit-2.ensures;
  lent = lent-on c.in_ok-r.ensures.lent (record { ledger = refl; index = refl });
}
