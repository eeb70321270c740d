use mathlib.Core.Path.{refl}
use Rattle.std.proofs.lemmas.Result.{err_from_is_err_and}
use Rattle.formula.specs.Answers.{tree_of}
use Rattle.steps.proofs.RunLaws.{runs-led}
use Rattle.steps.proofs.TreeLaws.{is-long, is-short}
use Rattle.steps.proofs.NodeLaws.{literal-low, literal-view}
use Rattle.steps.proofs.LentLaws.{kept-of, lent-on}
use Rattle.bounded_steps.proofs.BelowLaws.{literal-stop, literal-of-face, literal-of-interval}
use Rattle.bounded_steps.proofs.bounded_literal.Goals as goal

pub dimension-requires : goal.dimension-requires
dimension-requires c = let a = c.args in
    (c.requires.1, literal-low (tree_of a.sort a.f.now) (literal-view c.requires.0 c.requires.2) c.requires.0)

pub returns-in_err-i : goal.returns-in_err-i
returns-in_err-i c = let a = c.args in
    let p = err_from_is_err_and c.from_residual.result c.from_residual.ensures.1 in
    rw (p.1, p.2) (record { runs = literal-stop a.sort a.d (tree_of a.sort a.f.now) (literal-view c.requires.0 c.requires.2) c.in_err-i.ensures.runs; lent = c.in_err-i.ensures.lent })

pub bounded_whole-requires : goal.bounded_whole-requires
bounded_whole-requires c = (kept-of c.dimension.new.p, is-long c.requires.0, is-short c.requires.0, c.requires.1)

pub invariant_of-p : goal.invariant_of-p
invariant_of-p c = let a = c.args in
    record { indexed = runs-led (literal-of-face a.sort a.d c.in-Faces.is c.requires.0 c.requires.2 c.requires.1 c.in_ok-i.ensures.runs c.bounded_whole.ensures) }

pub returns-in-Faces : goal.returns-in-Faces
returns-in-Faces c = let a = c.args in
    record {
      runs = literal-of-face a.sort a.d c.in-Faces.is c.requires.0 c.requires.2 c.requires.1 c.in_ok-i.ensures.runs c.bounded_whole.ensures;
      lent = lent-on c.in_ok-i.ensures.lent (record { ledger = refl; index = refl });
    }

pub returns-in-Intervals : goal.returns-in-Intervals
returns-in-Intervals c = let a = c.args in
    record { runs = literal-of-interval a.sort a.d c.in-Intervals.is c.requires.0 c.requires.2 c.in_ok-i.ensures.runs; lent = c.in_ok-i.ensures.lent }
