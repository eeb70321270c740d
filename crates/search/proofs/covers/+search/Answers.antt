use native.Mathlib.Omega.{arith}
use mathlib.Core.Path.{refl, sym, ◌∙◌}
use Rattle.calculus.specs.Rules
use Rattle.calculus.specs.Emit.{not-implied}
use Rattle.std.proofs.lemmas.Result.{err_from_is_err_and}
use Rattle.steps.proofs.RunLaws.{runs-led, runs-failure}
use Rattle.steps.proofs.TreeLaws.{known, is-short}
use Rattle.steps.proofs.LentLaws.{kept-of, lent-same, lent-on}
use Rattle.contexts.proofs.ContextLaws.{context-as, context-short, context-count}
use Rattle.contexts.proofs.LeftLaws.{at-end}
use Rattle.contexts.proofs.MoveLaws.{face-some}
use Rattle.search.proofs.TurnLaws.{told}
use Rattle.search.proofs.FinishLaws.{ended, marked-runs, settled-runs}
use Rattle.search.proofs.SplitLaws.{is-fand, is-for, halves, second-shorter, both-are, first-are, second-are, both-falls, first-falls, second-falls, split-is, made-fits, made-length, made-context}
use Rattle.search.proofs.SearchLaws.{by_turn, made-runs, and-left-stop, and-left-stop-2, and-left-up, or-left-stop, or-left-stop-2, or-left-stop-3, or-left-up, and-right-stop, and-right-stop-2, and-right-up, or-right-up, or-right-full, or-right-stop, or-right-up-2}
use Rattle.search.proofs.covers.+search.Goals as goal

pub and_left-left_out-requires : goal.and_left-left_out-requires
and_left-left_out-requires t c = split-is c.args.g.sound c.requires.1 c.formula_at-x.ensures

pub and_left-returns-in_err-t : goal.and_left-returns-in_err-t
and_left-returns-in_err-t t c =
    let p = err_from_is_err_and c.from_residual.result c.from_residual.ensures.1 in
    rw (p.1, p.2) (record { runs = and-left-stop (split-is c.args.g.sound c.requires.1 c.formula_at-x.ensures) c.requires.0 c.in_err-t.ensures.runs c.requires.1.parts refl; lent = c.in_err-t.ensures.lent })

pub and_left-overflow_add-end : goal.and_left-overflow_add-end
and_left-overflow_add-end t c = omega (arith, at-end (split-is c.args.g.sound c.requires.1 c.formula_at-x.ensures), context-short c.args.g.sound)

pub and_left-slice_bounds-branch-count : goal.and_left-slice_bounds-branch-count
and_left-slice_bounds-branch-count t c = face-some (split-is c.args.g.sound c.requires.1 c.formula_at-x.ensures).out

pub and_left-slice_bounds-branch-start : goal.and_left-slice_bounds-branch-start
and_left-slice_bounds-branch-start t c = face-some (split-is c.args.g.sound c.requires.1 c.formula_at-x.ensures).out

pub and_left-overflow_add-g : goal.and_left-overflow_add-g
and_left-overflow_add-g t c = omega (arith, context-count c.args.g.sound)

pub and_left-branch-p-requires : goal.and_left-branch-p-requires
and_left-branch-p-requires t c = (omega (arith, c.decreases, both-falls is-fand (split-is c.args.g.sound c.requires.1 c.formula_at-x.ensures) c.requires.1.parts refl), (omega arith, at-end (split-is c.args.g.sound c.requires.1 c.formula_at-x.ensures), context-as (both-are is-fand (split-is c.args.g.sound c.requires.1 c.formula_at-x.ensures) c.requires.1.parts refl), c.requires.0))

pub and_left-returns-in_err-j : goal.and_left-returns-in_err-j
and_left-returns-in_err-j t c =
    let p = err_from_is_err_and c.from_residual-in_err-j.result c.from_residual-in_err-j.ensures.1 in
    rw (p.1, p.2) (record { runs = and-left-stop-2 (split-is c.args.g.sound c.requires.1 c.formula_at-x.ensures) c.requires.0 c.in_ok-t.ensures.runs c.requires.1.parts refl c.in_err-j.ensures.runs refl; lent = lent-on c.in_ok-t.ensures.lent c.in_err-j.ensures.lent })

pub and_left-cover_step-requires : goal.and_left-cover_step-requires
and_left-cover_step-requires t c = (runs-led c.in_ok-j.ensures.runs, c.requires.0)

pub and_left-invariant_of-p : goal.and_left-invariant_of-p
and_left-invariant_of-p t c = record { indexed = runs-led (and-left-up (split-is c.args.g.sound c.requires.1 c.formula_at-x.ensures) c.requires.0 c.in_ok-t.ensures.runs c.requires.1.parts refl c.in_ok-j.ensures.runs refl refl refl c.cover_step.ensures) }

pub and_left-returns : goal.and_left-returns
and_left-returns t c = record { runs = and-left-up (split-is c.args.g.sound c.requires.1 c.formula_at-x.ensures) c.requires.0 c.in_ok-t.ensures.runs c.requires.1.parts refl c.in_ok-j.ensures.runs refl refl refl c.cover_step.ensures; lent = lent-on (lent-on c.in_ok-t.ensures.lent c.in_ok-j.ensures.lent) (record { ledger = refl; index = refl }) }

pub and_right-cover-requires : goal.and_right-cover-requires
and_right-cover-requires t c = (omega (arith, c.decreases, (halves is-fand c.requires.0 c.requires.1 c.formula_at-a.ensures).inside), known (halves is-fand c.requires.0 c.requires.1 c.formula_at-a.ensures).first)

pub and_right-returns-in_err-i : goal.and_right-returns-in_err-i
and_right-returns-in_err-i t c =
    let p = err_from_is_err_and c.from_residual.result c.from_residual.ensures.1 in
    rw (p.1, p.2) (record { runs = and-right-stop c.args.g.sound c.requires.0 c.formula_at-a.ensures c.in_err-i.ensures.runs c.requires.1 refl; lent = c.in_err-i.ensures.lent })

pub and_right-overflow_add-m : goal.and_right-overflow_add-m
and_right-overflow_add-m t c = omega (arith, (halves is-fand c.requires.0 c.requires.1 c.formula_at-a.ensures).inside, is-short c.requires.0)

pub and_right-slice_bounds-cover-count : goal.and_right-slice_bounds-cover-count
and_right-slice_bounds-cover-count t c = (halves is-fand c.requires.0 c.requires.1 c.formula_at-a.ensures).inside

pub and_right-slice_bounds-cover-start : goal.and_right-slice_bounds-cover-start
and_right-slice_bounds-cover-start t c = (halves is-fand c.requires.0 c.requires.1 c.formula_at-a.ensures).inside

pub and_right-cover-requires-2 : goal.and_right-cover-requires-2
and_right-cover-requires-2 t c = (omega (arith, c.decreases, second-shorter (halves is-fand c.requires.0 c.requires.1 c.formula_at-a.ensures)), known (halves is-fand c.requires.0 c.requires.1 c.formula_at-a.ensures).second)

pub and_right-returns-in_err-j : goal.and_right-returns-in_err-j
and_right-returns-in_err-j t c =
    let p = err_from_is_err_and c.from_residual-in_err-j.result c.from_residual-in_err-j.ensures.1 in
    rw (p.1, p.2) (record { runs = and-right-stop-2 c.args.g.sound c.requires.0 c.formula_at-a.ensures c.in_ok-i.ensures.runs c.requires.1 refl c.in_err-j.ensures.runs refl; lent = lent-on c.in_ok-i.ensures.lent c.in_err-j.ensures.lent })

pub and_right-cover_step-requires : goal.and_right-cover_step-requires
and_right-cover_step-requires t c = (runs-led c.in_ok-j.ensures.runs, c.requires.0)

pub and_right-invariant_of-p : goal.and_right-invariant_of-p
and_right-invariant_of-p t c = record { indexed = runs-led (and-right-up c.args.g.sound c.requires.0 c.formula_at-a.ensures c.in_ok-i.ensures.runs c.requires.1 refl c.in_ok-j.ensures.runs refl refl refl c.cover_step.ensures) }

pub and_right-returns : goal.and_right-returns
and_right-returns t c = record { runs = and-right-up c.args.g.sound c.requires.0 c.formula_at-a.ensures c.in_ok-i.ensures.runs c.requires.1 refl c.in_ok-j.ensures.runs refl refl refl c.cover_step.ensures; lent = lent-on (lent-on c.in_ok-i.ensures.lent c.in_ok-j.ensures.lent) (record { ledger = refl; index = refl }) }

pub branch-leave-k-requires : goal.branch-leave-k-requires
branch-leave-k-requires t c = let a = c.args in (c.requires.0, c.requires.1, omega (arith, made-fits a.front.now a.g.faces.now a.at a.end c.requires.2))

pub branch-invariant_of-context : goal.branch-invariant_of-context
branch-invariant_of-context t c = let a = c.args in record { sound = made-context a.front.now a.g.faces.now a.at a.end c.leave-k.ensures.1 c.requires.2 }

pub branch-fresh-requires : goal.branch-fresh-requires
branch-fresh-requires t c = let a = c.args in (omega (arith, c.decreases, made-length a.front.now a.g.faces.now a.at a.end c.leave-k.ensures.1 c.requires.0 c.requires.1), c.requires.3)

pub branch-returns-in-Ok : goal.branch-returns-in-Ok
branch-returns-in-Ok t c = record { runs = made-runs _ _ c.leave-k.ensures.1 (settled-runs (kept-of c.args.p.now) _ _ c.in-Ok.is c.finished.ensures); lent = (record { ledger = refl; index = refl }) }

pub branch-returns-in-Err : goal.branch-returns-in-Err
branch-returns-in-Err t c = record { runs = made-runs _ _ c.leave-k.ensures.1 c.fresh.ensures.runs; lent = c.fresh.ensures.lent }

pub cover-returns-in-Ok : goal.cover-returns-in-Ok
cover-returns-in-Ok t c = record { runs = settled-runs (kept-of c.args.p.now) _ _ c.in-Ok.is c.finished.ensures; lent = (record { ledger = refl; index = refl }) }

pub cover-returns-in-Err : goal.cover-returns-in-Err
cover-returns-in-Err t c = record { runs = c.fresh.ensures.runs; lent = c.fresh.ensures.lent }

pub fresh-invariant_of-p : goal.fresh-invariant_of-p
fresh-invariant_of-p t c = record { indexed = rw c.mark.ensures.1 c.mark.ensures.0 }

pub fresh-returns : goal.fresh-returns
fresh-returns t c = record { runs = rw c.mark.ensures.1 (marked-runs c.in_ok-i.ensures.runs c.mark.ensures.0); lent = lent-on c.in_ok-i.ensures.lent (record { ledger = refl; index = refl }) }

pub or_left-left_out-requires : goal.or_left-left_out-requires
or_left-left_out-requires t c = split-is c.args.g.sound c.requires.1 c.formula_at-x.ensures

pub or_left-returns-in_err-t : goal.or_left-returns-in_err-t
or_left-returns-in_err-t t c =
    let p = err_from_is_err_and c.from_residual.result c.from_residual.ensures.1 in
    rw (p.1, p.2) (record { runs = or-left-stop (split-is c.args.g.sound c.requires.1 c.formula_at-x.ensures) c.requires.0 c.in_err-t.ensures.runs c.requires.1.parts refl; lent = c.in_err-t.ensures.lent })

pub or_left-overflow_add-end : goal.or_left-overflow_add-end
or_left-overflow_add-end t c = omega (arith, at-end (split-is c.args.g.sound c.requires.1 c.formula_at-x.ensures), context-short c.args.g.sound)

pub or_left-branch-p-requires : goal.or_left-branch-p-requires
or_left-branch-p-requires t c = (omega (arith, c.decreases, first-falls is-for (split-is c.args.g.sound c.requires.1 c.formula_at-x.ensures) c.requires.1.parts c.formula_at-a.ensures), (omega arith, at-end (split-is c.args.g.sound c.requires.1 c.formula_at-x.ensures), context-as (first-are is-for (split-is c.args.g.sound c.requires.1 c.formula_at-x.ensures) c.requires.1.parts c.formula_at-a.ensures), c.requires.0))

pub or_left-returns-in_err-j : goal.or_left-returns-in_err-j
or_left-returns-in_err-j t c =
    let p = err_from_is_err_and c.from_residual-in_err-j.result c.from_residual-in_err-j.ensures.1 in
    rw (p.1, p.2) (record { runs = or-left-stop-2 (split-is c.args.g.sound c.requires.1 c.formula_at-x.ensures) c.requires.0 c.in_ok-t.ensures.runs c.requires.1.parts refl c.formula_at-a.ensures c.in_err-j.ensures.runs refl; lent = lent-on c.in_ok-t.ensures.lent c.in_err-j.ensures.lent })

pub or_left-overflow_add-m : goal.or_left-overflow_add-m
or_left-overflow_add-m t c = omega (arith, (halves is-for (split-is c.args.g.sound c.requires.1 c.formula_at-x.ensures).out c.requires.1.parts c.formula_at-a.ensures).inside, is-short (split-is c.args.g.sound c.requires.1 c.formula_at-x.ensures).out)

pub or_left-slice_bounds-branch-count : goal.or_left-slice_bounds-branch-count
or_left-slice_bounds-branch-count t c = (halves is-for (split-is c.args.g.sound c.requires.1 c.formula_at-x.ensures).out c.requires.1.parts c.formula_at-a.ensures).inside

pub or_left-slice_bounds-branch-start : goal.or_left-slice_bounds-branch-start
or_left-slice_bounds-branch-start t c = (halves is-for (split-is c.args.g.sound c.requires.1 c.formula_at-x.ensures).out c.requires.1.parts c.formula_at-a.ensures).inside

pub or_left-branch-p-requires-2 : goal.or_left-branch-p-requires-2
or_left-branch-p-requires-2 t c = (omega (arith, c.decreases, second-falls is-for (split-is c.args.g.sound c.requires.1 c.formula_at-x.ensures) c.requires.1.parts c.formula_at-a.ensures), (omega arith, at-end (split-is c.args.g.sound c.requires.1 c.formula_at-x.ensures), context-as (second-are is-for (split-is c.args.g.sound c.requires.1 c.formula_at-x.ensures) c.requires.1.parts c.formula_at-a.ensures), c.requires.0))

pub or_left-returns-in_err-k : goal.or_left-returns-in_err-k
or_left-returns-in_err-k t c =
    let p = err_from_is_err_and c.from_residual-in_err-k.result c.from_residual-in_err-k.ensures.1 in
    rw (p.1, p.2) (record { runs = or-left-stop-3 (split-is c.args.g.sound c.requires.1 c.formula_at-x.ensures) c.requires.0 c.in_ok-t.ensures.runs c.requires.1.parts refl c.formula_at-a.ensures c.in_ok-j.ensures.runs refl c.in_err-k.ensures.runs refl; lent = lent-on (lent-on c.in_ok-t.ensures.lent c.in_ok-j.ensures.lent) c.in_err-k.ensures.lent })

pub or_left-cover_step-requires : goal.or_left-cover_step-requires
or_left-cover_step-requires t c = (runs-led c.in_ok-k.ensures.runs, c.requires.0)

pub or_left-invariant_of-p : goal.or_left-invariant_of-p
or_left-invariant_of-p t c = record { indexed = runs-led (or-left-up (split-is c.args.g.sound c.requires.1 c.formula_at-x.ensures) c.requires.0 c.in_ok-t.ensures.runs c.requires.1.parts refl c.formula_at-a.ensures c.in_ok-j.ensures.runs refl c.in_ok-k.ensures.runs refl refl refl refl c.cover_step.ensures) }

pub or_left-returns : goal.or_left-returns
or_left-returns t c = record { runs = or-left-up (split-is c.args.g.sound c.requires.1 c.formula_at-x.ensures) c.requires.0 c.in_ok-t.ensures.runs c.requires.1.parts refl c.formula_at-a.ensures c.in_ok-j.ensures.runs refl c.in_ok-k.ensures.runs refl refl refl refl c.cover_step.ensures; lent = lent-on (lent-on (lent-on c.in_ok-t.ensures.lent c.in_ok-j.ensures.lent) c.in_ok-k.ensures.lent) (record { ledger = refl; index = refl }) }

pub or_right-cover-requires : goal.or_right-cover-requires
or_right-cover-requires t c = (omega (arith, c.decreases, (halves is-for c.requires.0 c.requires.1 c.formula_at-a.ensures).inside), known (halves is-for c.requires.0 c.requires.1 c.formula_at-a.ensures).first)

pub or_right-cover_step-requires : goal.or_right-cover_step-requires
or_right-cover_step-requires t c = (runs-led c.in-Ok.ensures.runs, c.requires.0)

pub or_right-invariant_of-p : goal.or_right-invariant_of-p
or_right-invariant_of-p t c = record { indexed = runs-led (or-right-up c.args.g.sound c.requires.0 c.formula_at-a.ensures c.in-Ok.ensures.runs c.requires.1 refl refl c.cover_step.ensures) }

pub or_right-returns-in-Ok : goal.or_right-returns-in-Ok
or_right-returns-in-Ok t c = record { runs = or-right-up c.args.g.sound c.requires.0 c.formula_at-a.ensures c.in-Ok.ensures.runs c.requires.1 refl refl c.cover_step.ensures; lent = lent-on c.in-Ok.ensures.lent (record { ledger = refl; index = refl }) }

pub or_right-returns-in-Err : goal.or_right-returns-in-Err
or_right-returns-in-Err t c = record { runs = or-right-full c.args.g.sound c.requires.0 c.formula_at-a.ensures c.in-Err.ensures.runs c.requires.1 refl (sym c.is_full.ensures ∙ c.if-is_full.true); lent = c.in-Err.ensures.lent }

pub or_right-overflow_add-m : goal.or_right-overflow_add-m
or_right-overflow_add-m t c = omega (arith, (halves is-for c.requires.0 c.requires.1 c.formula_at-a.ensures).inside, is-short c.requires.0)

pub or_right-slice_bounds-cover-count : goal.or_right-slice_bounds-cover-count
or_right-slice_bounds-cover-count t c = (halves is-for c.requires.0 c.requires.1 c.formula_at-a.ensures).inside

pub or_right-slice_bounds-cover-start : goal.or_right-slice_bounds-cover-start
or_right-slice_bounds-cover-start t c = (halves is-for c.requires.0 c.requires.1 c.formula_at-a.ensures).inside

pub or_right-cover-requires-in-Err-2 : goal.or_right-cover-requires-in-Err-2
or_right-cover-requires-in-Err-2 t c = (omega (arith, c.decreases, second-shorter (halves is-for c.requires.0 c.requires.1 c.formula_at-a.ensures)), known (halves is-for c.requires.0 c.requires.1 c.formula_at-a.ensures).second)

pub or_right-returns-in_err-i-in-Err-2 : goal.or_right-returns-in_err-i-in-Err-2
or_right-returns-in_err-i-in-Err-2 t c =
    let p = err_from_is_err_and c.from_residual.result c.from_residual.ensures.1 in
    rw (p.1, p.2) (record { runs = or-right-stop c.args.g.sound c.requires.0 c.formula_at-a.ensures c.in-Err.ensures.runs c.requires.1 refl (sym c.is_full.ensures ∙ c.if-is_full.false) c.in_err-i-in-Err-2.ensures.runs refl; lent = lent-on c.in-Err.ensures.lent c.in_err-i-in-Err-2.ensures.lent })

pub or_right-invariant_of-p-in-Err-2 : goal.or_right-invariant_of-p-in-Err-2
or_right-invariant_of-p-in-Err-2 t c = record { indexed = runs-led (or-right-up-2 c.args.g.sound c.requires.0 c.formula_at-a.ensures c.in-Err.ensures.runs c.requires.1 refl (sym c.is_full.ensures ∙ c.if-is_full.false) c.in_ok-i-in-Err-2.ensures.runs refl refl c.cover_step-in-Err-2.ensures) }

pub or_right-returns-in_ok-i-in-Err-2 : goal.or_right-returns-in_ok-i-in-Err-2
or_right-returns-in_ok-i-in-Err-2 t c = record { runs = or-right-up-2 c.args.g.sound c.requires.0 c.formula_at-a.ensures c.in-Err.ensures.runs c.requires.1 refl (sym c.is_full.ensures ∙ c.if-is_full.false) c.in_ok-i-in-Err-2.ensures.runs refl refl c.cover_step-in-Err-2.ensures; lent = lent-on (lent-on c.in-Err.ensures.lent c.in_ok-i-in-Err-2.ensures.lent) (record { ledger = refl; index = refl }) }

pub take_turn-by_top-requires : goal.take_turn-by_top-requires
take_turn-by_top-requires t c = (c.requires, (told c.next_turn.ensures c.in-Top.is).0)

pub take_turn-by_member-requires : goal.take_turn-by_member-requires
take_turn-by_member-requires t c = (c.requires, c.requires, Rules.cover-hit)

pub take_turn-by_clash-requires : goal.take_turn-by_clash-requires
take_turn-by_clash-requires t c = ((told c.next_turn.ensures c.in-Opposed.is).0, c.requires)

pub take_turn-and_left-requires : goal.take_turn-and_left-requires
take_turn-and_left-requires t c = (omega (arith, c.decreases), (c.requires, (told c.next_turn.ensures c.in-AndLeft.is).0))

pub take_turn-or_left-requires : goal.take_turn-or_left-requires
take_turn-or_left-requires t c = (omega (arith, c.decreases), (c.requires, (told c.next_turn.ensures c.in-OrLeft.is).0))

pub take_turn-and_right-requires : goal.take_turn-and_right-requires
take_turn-and_right-requires t c = (omega (arith, c.decreases), (c.requires, (told c.next_turn.ensures c.in-AndRight.is).0))

pub take_turn-or_right-requires : goal.take_turn-or_right-requires
take_turn-or_right-requires t c = (omega (arith, c.decreases), (c.requires, (told c.next_turn.ensures c.in-OrRight.is).0))

pub take_turn-returns-in-Top : goal.take_turn-returns-in-Top
take_turn-returns-in-Top t c = record { runs = by_turn c.next_turn.ensures (told c.next_turn.ensures c.in-Top.is).1 c.by_top.ensures.runs; lent = c.by_top.ensures.lent }

pub take_turn-returns-in-Hit : goal.take_turn-returns-in-Hit
take_turn-returns-in-Hit t c = record { runs = by_turn c.next_turn.ensures (told c.next_turn.ensures c.in-Hit.is) c.by_member.ensures.runs; lent = c.by_member.ensures.lent }

pub take_turn-returns-in-Absurd : goal.take_turn-returns-in-Absurd
take_turn-returns-in-Absurd t c = record { runs = by_turn c.next_turn.ensures (told c.next_turn.ensures c.in-Absurd.is) c.by_absurd.ensures.runs; lent = c.by_absurd.ensures.lent }

pub take_turn-returns-in-Opposed : goal.take_turn-returns-in-Opposed
take_turn-returns-in-Opposed t c = record { runs = by_turn c.next_turn.ensures (told c.next_turn.ensures c.in-Opposed.is).1 c.by_clash.ensures.runs; lent = c.by_clash.ensures.lent }

pub take_turn-returns-in-AndLeft : goal.take_turn-returns-in-AndLeft
take_turn-returns-in-AndLeft t c = record { runs = by_turn c.next_turn.ensures (told c.next_turn.ensures c.in-AndLeft.is).1 c.and_left.ensures.runs; lent = c.and_left.ensures.lent }

pub take_turn-returns-in-OrLeft : goal.take_turn-returns-in-OrLeft
take_turn-returns-in-OrLeft t c = record { runs = by_turn c.next_turn.ensures (told c.next_turn.ensures c.in-OrLeft.is).1 c.or_left.ensures.runs; lent = c.or_left.ensures.lent }

pub take_turn-returns-in-AndRight : goal.take_turn-returns-in-AndRight
take_turn-returns-in-AndRight t c = record { runs = by_turn c.next_turn.ensures (told c.next_turn.ensures c.in-AndRight.is).1 c.and_right.ensures.runs; lent = c.and_right.ensures.lent }

pub take_turn-returns-in-OrRight : goal.take_turn-returns-in-OrRight
take_turn-returns-in-OrRight t c = record { runs = by_turn c.next_turn.ensures (told c.next_turn.ensures c.in-OrRight.is).1 c.or_right.ensures.runs; lent = c.or_right.ensures.lent }

pub take_turn-returns-in-Stuck : goal.take_turn-returns-in-Stuck
take_turn-returns-in-Stuck t c = record { runs = by_turn c.next_turn.ensures (told c.next_turn.ensures c.in-Stuck.is) (runs-failure (kept-of c.args.p.now) not-implied); lent = lent-same }

pub fresh-mark-requires : goal.fresh-mark-requires
fresh-mark-requires t c = let e = ended c.args.g.sound c.requires c.in_ok-i.ensures.runs refl in (runs-led c.in_ok-i.ensures.runs, e.0, e.1)

pub or_right-cover_step-requires-in-Err-2 : goal.or_right-cover_step-requires-in-Err-2
or_right-cover_step-requires-in-Err-2 t c = (runs-led c.in_ok-i-in-Err-2.ensures.runs, c.requires.0)
