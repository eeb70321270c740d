use mathlib.Core.Path.{refl, sym, ◌∙◌}
use Rattle.std.proofs.lemmas.Result.{err_from_is_err_and}
use Rattle.steps.proofs.RunLaws.{runs-led}
use Rattle.steps.proofs.LentLaws.{kept-of, lent-same, lent-on}
use Rattle.contexts.proofs.MemberLaws.{member-none, member-here, member-stop, member-up, member_short}
use Rattle.contexts.proofs.members.+member.Goals as goal

pub returns-in_default : goal.returns-in_default
returns-in_default t c = record { runs = member-none (kept-of c.args.p.now) _ c.in_default.ensures; lent = lent-same }

pub emit-requires : goal.emit-requires
emit-requires t c = (kept-of c.args.p.now, member_short c.requires c.args.g.sound c.count_field-count.ensures)

pub invariant_of-p : goal.invariant_of-p
invariant_of-p t c = record { indexed = runs-led (member-here c.requires c.in-Some.ensures (sym c.same.ensures ∙ c.if-same.true) c.count_field-count.ensures c.emit.ensures) }

pub returns-then-same : goal.returns-then-same
returns-then-same t c = record { runs = member-here c.requires c.in-Some.ensures (sym c.same.ensures ∙ c.if-same.true) c.count_field-count.ensures c.emit.ensures; lent = record { ledger = refl; index = refl } }

pub returns-in_err-i : goal.returns-in_err-i
returns-in_err-i t c =
    let p = err_from_is_err_and c.from_residual.result c.from_residual.ensures.1 in
    rw (p.1, p.2) (record { runs = member-stop c.requires c.in-Some.ensures (sym c.same.ensures ∙ c.if-same.false) c.in_err-i.ensures.runs refl; lent = c.in_err-i.ensures.lent })

pub emit-requires-2 : goal.emit-requires-2
emit-requires-2 t c = (runs-led c.in_ok-i.ensures.runs, member_short c.requires c.args.g.sound c.count_field-count.ensures)

pub invariant_of-p-2 : goal.invariant_of-p-2
invariant_of-p-2 t c = record { indexed = runs-led (member-up c.requires c.in-Some.ensures (sym c.same.ensures ∙ c.if-same.false) c.in_ok-i.ensures.runs refl refl c.count_field-count.ensures c.emit-2.ensures) }

pub returns : goal.returns
returns t c = record { runs = member-up c.requires c.in-Some.ensures (sym c.same.ensures ∙ c.if-same.false) c.in_ok-i.ensures.runs refl refl c.count_field-count.ensures c.emit-2.ensures; lent = lent-on c.in_ok-i.ensures.lent (record { ledger = refl; index = refl }) }
