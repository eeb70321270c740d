use mathlib.Core.Path.{refl}
use Rattle.std.proofs.lemmas.Result.{err_from_is_err_and}
use Rattle.steps.proofs.RunLaws.{runs-led}
use Rattle.steps.proofs.LentLaws.{lent-on}
use Rattle.contexts.proofs.AfterLaws.{three-stop, three-stop-2, three-stop-3, three_up}
use Rattle.calculus.specs.Door.{end_of}
use Rattle.steps.proofs.TreeLaws.{known, is-short}
use Rattle.boundary_steps.proofs.BoundaryLaws.{side-is}
use Rattle.implications.proofs.ImplicationLaws.{goal-at, local-rule, endpoint-program, local-limited, local-bytes}
use Rattle.implications.proofs.endpoint.Goals as goal

pub returns-in_err-i : goal.returns-in_err-i
returns-in_err-i c =
    let p = err_from_is_err_and c.from_residual.result c.from_residual.ensures.1 in
    rw (p.1, p.2) (record { runs = three-stop _ _ (endpoint-program (end_of c.args.hi) c.requires.1 c.requires.2 (goal-at (end_of c.args.hi) refl c.requires.3)) c.in_err-i.ensures.runs refl; lent = c.in_err-i.ensures.lent })

pub returns-in_err-j : goal.returns-in_err-j
returns-in_err-j c =
    let p = err_from_is_err_and c.from_residual-in_err-j.result c.from_residual-in_err-j.ensures.1 in
    rw (p.1, p.2) (record { runs = three-stop-2 _ _ (endpoint-program (end_of c.args.hi) c.requires.1 c.requires.2 (goal-at (end_of c.args.hi) refl c.requires.3)) c.in_ok-i.ensures.runs refl c.in_err-j.ensures.runs refl; lent = lent-on c.in_ok-i.ensures.lent c.in_err-j.ensures.lent })

pub entails-requires : goal.entails-requires
entails-requires c = (c.requires.0, c.requires.1, known (side-is (end_of c.args.hi) c.requires.2 (goal-at (end_of c.args.hi) c.face_at.ensures c.requires.3)))

pub returns-in_err-k : goal.returns-in_err-k
returns-in_err-k c =
    let p = err_from_is_err_and c.from_residual-in_err-k.result c.from_residual-in_err-k.ensures.1 in
    rw (p.1, p.2) (record { runs = three-stop-3 _ _ (endpoint-program (end_of c.args.hi) c.requires.1 c.requires.2 (goal-at (end_of c.args.hi) c.face_at.ensures c.requires.3)) c.in_ok-i.ensures.runs refl c.in_ok-j.ensures.runs refl c.in_err-k.ensures.runs refl; lent = lent-on (lent-on c.in_ok-i.ensures.lent c.in_ok-j.ensures.lent) c.in_err-k.ensures.lent })

pub local-requires : goal.local-requires
local-requires c = (runs-led c.in_ok-k.ensures.runs, c.requires.0, is-short c.requires.1, is-short c.requires.2)

pub invariant_of-p : goal.invariant_of-p
invariant_of-p c = record { indexed = runs-led (three_up _ _ (endpoint-program (end_of c.args.hi) c.requires.1 c.requires.2 (goal-at (end_of c.args.hi) c.face_at.ensures c.requires.3)) c.in_ok-i.ensures.runs refl c.in_ok-j.ensures.runs refl c.in_ok-k.ensures.runs refl refl refl refl (local-rule (end_of c.args.hi)) (local-limited (end_of c.args.hi) c.requires.1 c.requires.2 c.requires.0) (local-bytes (end_of c.args.hi) c.requires.1 c.requires.2) c.local.ensures) }

pub returns : goal.returns
returns c = record { runs = three_up _ _ (endpoint-program (end_of c.args.hi) c.requires.1 c.requires.2 (goal-at (end_of c.args.hi) c.face_at.ensures c.requires.3)) c.in_ok-i.ensures.runs refl c.in_ok-j.ensures.runs refl c.in_ok-k.ensures.runs refl refl refl refl (local-rule (end_of c.args.hi)) (local-limited (end_of c.args.hi) c.requires.1 c.requires.2 c.requires.0) (local-bytes (end_of c.args.hi) c.requires.1 c.requires.2) c.local.ensures; lent = lent-on (lent-on (lent-on c.in_ok-i.ensures.lent c.in_ok-j.ensures.lent) c.in_ok-k.ensures.lent) (record { ledger = refl; index = refl }) }
