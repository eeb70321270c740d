use native.Mathlib.Omega.{arith}
use mathlib.Core.Path.{refl}
use Rattle.std.proofs.lemmas.Result.{err_from_is_err_and}
use Rattle.formula.specs.declared.Sort.TheVariants.{Faces}
use Rattle.formula.specs.Answers.{tree_of}
use Rattle.steps.proofs.RunLaws.{runs-led}
use Rattle.steps.proofs.TreeLaws.{is-long, is-short}
use Rattle.steps.proofs.NodeLaws.{literal-end, literal-view}
use Rattle.steps.proofs.CompareLaws.{above}
use Rattle.steps.proofs.LentLaws.{kept-of, lent-on}
use Rattle.forall_steps.proofs.ForallLaws.{forall-is, foralls-limited, foralls-bytes, literal-hit, literal-below-stop, literal-below, literal-above-stop, literal-above}
use Rattle.forall_steps.proofs.forall_literal.Goals as goal

pub forall_whole-requires : goal.forall_whole-requires
forall_whole-requires c = let a = c.args in
    (kept-of a.p.now, is-long c.requires.0, is-short c.requires.0, is-short (forall-is a.k c.requires.0 c.requires.3), c.requires.1, omega arith)

pub invariant_of-p : goal.invariant_of-p
invariant_of-p c = let a = c.args in
    record { indexed = runs-led (literal-hit a.k (tree_of Faces a.f.now) (literal-end (tree_of Faces a.f.now) (literal-view c.requires.0 c.requires.2)) c.if-n-k.true (foralls-limited a.k c.requires.0 c.requires.3 c.requires.1) (foralls-bytes a.k c.requires.0 c.requires.3) c.forall_whole.ensures) }

pub returns-then-n-k : goal.returns-then-n-k
returns-then-n-k c = let a = c.args in
    record { runs = literal-hit a.k (tree_of Faces a.f.now) (literal-end (tree_of Faces a.f.now) (literal-view c.requires.0 c.requires.2)) c.if-n-k.true (foralls-limited a.k c.requires.0 c.requires.3 c.requires.1) (foralls-bytes a.k c.requires.0 c.requires.3) c.forall_whole.ensures; lent = (record { ledger = refl; index = refl }) }

pub returns-in_err-i : goal.returns-in_err-i
returns-in_err-i c = let a = c.args in
    let p = err_from_is_err_and c.from_residual.result c.from_residual.ensures.1 in
    rw (p.1, p.2) (record { runs = literal-below-stop a.k (tree_of Faces a.f.now) (literal-end (tree_of Faces a.f.now) (literal-view c.requires.0 c.requires.2)) c.if-n-k-2.true c.in_err-i.ensures.runs; lent = c.in_err-i.ensures.lent })

pub forall_whole-requires-then-n-k-2 : goal.forall_whole-requires-then-n-k-2
forall_whole-requires-then-n-k-2 c = let a = c.args in
    (kept-of c.comparison.new.p, is-long c.requires.0, is-short c.requires.0, is-short (forall-is a.k c.requires.0 c.requires.3), c.requires.1, omega arith)

pub invariant_of-p-then-n-k-2 : goal.invariant_of-p-then-n-k-2
invariant_of-p-then-n-k-2 c = let a = c.args in
    record { indexed = runs-led (literal-below a.k (tree_of Faces a.f.now) (literal-end (tree_of Faces a.f.now) (literal-view c.requires.0 c.requires.2)) c.if-n-k-2.true (foralls-limited a.k c.requires.0 c.requires.3 c.requires.1) (foralls-bytes a.k c.requires.0 c.requires.3) c.in_ok-i.ensures.runs c.forall_whole-then-n-k-2.ensures) }

pub returns-then-n-k-2 : goal.returns-then-n-k-2
returns-then-n-k-2 c = let a = c.args in
    record { runs = literal-below a.k (tree_of Faces a.f.now) (literal-end (tree_of Faces a.f.now) (literal-view c.requires.0 c.requires.2)) c.if-n-k-2.true (foralls-limited a.k c.requires.0 c.requires.3 c.requires.1) (foralls-bytes a.k c.requires.0 c.requires.3) c.in_ok-i.ensures.runs c.forall_whole-then-n-k-2.ensures; lent = lent-on c.in_ok-i.ensures.lent (record { ledger = refl; index = refl }) }

pub returns-in_err-i-2 : goal.returns-in_err-i-2
returns-in_err-i-2 c = let a = c.args in
    let p = err_from_is_err_and c.from_residual-in_err-i-2.result c.from_residual-in_err-i-2.ensures.1 in
    rw (p.1, p.2) (record { runs = literal-above-stop a.k (tree_of Faces a.f.now) (literal-end (tree_of Faces a.f.now) (literal-view c.requires.0 c.requires.2)) (above a.n a.k c.if-n-k.false c.if-n-k-2.false) c.in_err-i-2.ensures.runs; lent = c.in_err-i-2.ensures.lent })

pub forall_whole-requires-2 : goal.forall_whole-requires-2
forall_whole-requires-2 c = let a = c.args in
    (kept-of c.comparison-2.new.p, is-long c.requires.0, is-short c.requires.0, is-short (forall-is a.k c.requires.0 c.requires.3), c.requires.1, omega arith)

pub invariant_of-p-2 : goal.invariant_of-p-2
invariant_of-p-2 c = let a = c.args in
    record { indexed = runs-led (literal-above a.k (tree_of Faces a.f.now) (literal-end (tree_of Faces a.f.now) (literal-view c.requires.0 c.requires.2)) (above a.n a.k c.if-n-k.false c.if-n-k-2.false) (foralls-limited a.k c.requires.0 c.requires.3 c.requires.1) (foralls-bytes a.k c.requires.0 c.requires.3) c.in_ok-i-2.ensures.runs c.forall_whole-2.ensures) }

pub returns : goal.returns
returns c = let a = c.args in
    record { runs = literal-above a.k (tree_of Faces a.f.now) (literal-end (tree_of Faces a.f.now) (literal-view c.requires.0 c.requires.2)) (above a.n a.k c.if-n-k.false c.if-n-k-2.false) (foralls-limited a.k c.requires.0 c.requires.3 c.requires.1) (foralls-bytes a.k c.requires.0 c.requires.3) c.in_ok-i-2.ensures.runs c.forall_whole-2.ensures; lent = lent-on c.in_ok-i-2.ensures.lent (record { ledger = refl; index = refl }) }
