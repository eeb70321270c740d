use mathlib.Core.Path.{refl}
use Rattle.std.proofs.lemmas.Result.{err_from_is_err_and}
use Rattle.steps.proofs.RunLaws.{runs-led}
use Rattle.steps.proofs.LentLaws.{lent-on}
use Rattle.contexts.proofs.ClosingLaws.{by-member-stop, by-member-up}
use Rattle.contexts.proofs.closings.by_member.Goals as goal

pub returns-in_err-i : goal.returns-in_err-i
returns-in_err-i c =
    let p = err_from_is_err_and c.from_residual.result c.from_residual.ensures.1 in
    rw (p.1, p.2) (record { runs = by-member-stop _ _ _ _ c.in_err-i.ensures.runs refl; lent = c.in_err-i.ensures.lent })

pub cover_step-requires : goal.cover_step-requires
cover_step-requires c = (runs-led c.in_ok-i.ensures.runs, c.requires.1)

pub invariant_of-p : goal.invariant_of-p
invariant_of-p c = record { indexed = runs-led (by-member-up _ _ _ _ c.args.g.sound c.requires.1 c.requires.2 c.in_ok-i.ensures.runs refl refl c.cover_step.ensures) }

pub returns : goal.returns
returns c = record { runs = by-member-up _ _ _ _ c.args.g.sound c.requires.1 c.requires.2 c.in_ok-i.ensures.runs refl refl c.cover_step.ensures; lent = lent-on c.in_ok-i.ensures.lent (record { ledger = refl; index = refl }) }
