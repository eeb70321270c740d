use mathlib.Core.Path.{refl}
use Rattle.std.proofs.lemmas.Result.{err_from_is_err_and}
use Rattle.steps.proofs.RunLaws.{runs-led}
use Rattle.steps.proofs.LentLaws.{lent-on}
use Rattle.contexts.proofs.AfterLaws.{three-stop, three-stop-2, three-stop-3, three_up}
use Rattle.calculus.specs.Rules.{entails-checked}
use Rattle.implications.proofs.ImplicationLaws.{context-one, entails-program, entails-limited, entails-bytes, entails-short}
use Rattle.implications.proofs.entails.Goals as goal

pub returns-in_err-i : goal.returns-in_err-i
returns-in_err-i c =
    let p = err_from_is_err_and c.from_residual.result c.from_residual.ensures.1 in
    rw (p.1, p.2) (record { runs = three-stop _ _ (entails-program c.requires.1 c.requires.2) c.in_err-i.ensures.runs refl; lent = c.in_err-i.ensures.lent })

pub returns-in_err-j : goal.returns-in_err-j
returns-in_err-j c =
    let p = err_from_is_err_and c.from_residual-in_err-j.result c.from_residual-in_err-j.ensures.1 in
    rw (p.1, p.2) (record { runs = three-stop-2 _ _ (entails-program c.requires.1 c.requires.2) c.in_ok-i.ensures.runs refl c.in_err-j.ensures.runs refl; lent = lent-on c.in_ok-i.ensures.lent c.in_err-j.ensures.lent })

pub invariant_of-alone : goal.invariant_of-alone
invariant_of-alone c = record { sound = context-one c.requires.1 }

pub returns-in_err-k : goal.returns-in_err-k
returns-in_err-k c =
    let p = err_from_is_err_and c.from_residual-in_err-k.result c.from_residual-in_err-k.ensures.1 in
    rw (p.1, p.2) (record { runs = three-stop-3 _ _ (entails-program c.requires.1 c.requires.2) c.in_ok-i.ensures.runs refl c.in_ok-j.ensures.runs refl c.in_err-k.ensures.runs refl; lent = lent-on (lent-on c.in_ok-i.ensures.lent c.in_ok-j.ensures.lent) c.in_err-k.ensures.lent })

pub emit-requires : goal.emit-requires
emit-requires c = (runs-led c.in_ok-k.ensures.runs, entails-short c.requires.1 c.requires.2 c.number.ensures)

pub invariant_of-p : goal.invariant_of-p
invariant_of-p c = record { indexed = runs-led (three_up _ _ (entails-program c.requires.1 c.requires.2) c.in_ok-i.ensures.runs refl c.in_ok-j.ensures.runs refl c.in_ok-k.ensures.runs refl refl refl refl entails-checked (entails-limited c.requires.1 c.requires.2 c.requires.0) (entails-bytes c.requires.1 c.requires.2 c.number.ensures) c.emit.ensures) }

pub returns : goal.returns
returns c = record { runs = three_up _ _ (entails-program c.requires.1 c.requires.2) c.in_ok-i.ensures.runs refl c.in_ok-j.ensures.runs refl c.in_ok-k.ensures.runs refl refl refl refl entails-checked (entails-limited c.requires.1 c.requires.2 c.requires.0) (entails-bytes c.requires.1 c.requires.2 c.number.ensures) c.emit.ensures; lent = lent-on (lent-on (lent-on c.in_ok-i.ensures.lent c.in_ok-j.ensures.lent) c.in_ok-k.ensures.lent) (record { ledger = refl; index = refl }) }
