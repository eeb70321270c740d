use Rattle.std.proofs.lemmas.Result.{err_from_is_err_and}
use native.Mathlib.Omega.{arith}
use Prim.Native.Nat.{Ordering}
use Prim.Native.Nat.{compare}
use mathlib.Core.Path.{refl}
use Rattle.formula.specs.declared.Sort.TheVariants.{Intervals}
use Rattle.operations.specs.declared.Op.TheVariants.{DShift}
use Rattle.formula.specs.Operations.{shift}
use Rattle.formula.proofs.Compare.{compare-lt}
use Rattle.calculus.specs.Judgement.{lt, le}
use Rattle.calculus.specs.Calls.{less, at_most, emit_comparison}
use Rattle.formula.specs.Answers.{tree_of}
use Rattle.steps.proofs.RunLaws.{runs-led}
use Rattle.steps.proofs.TreeLaws.{is-long, is-short}
use Rattle.steps.proofs.NodeLaws.{literal-view}
use Rattle.transforms.proofs.TransformLaws.{transforms-limited, transforms-bytes, literal-dim, dim-stop, dim-runs, shift-below, shift-program, shift-above}
use Rattle.steps.proofs.LentLaws.{kept-of, lent-on}
use Rattle.transforms.proofs.shift_dimension.Goals as goal

pub returns-in_err-i : goal.returns-in_err-i
returns-in_err-i c = let a = c.args in
    let p = err_from_is_err_and c.from_residual.result c.from_residual.ensures.1 in
    rw (p.1, p.2) (record { runs = dim-stop (shift a.k) Ordering.lt (emit_comparison less a.n a.k) 51 (compare-lt a.n a.k c.if-n-k.true) refl (tree_of Intervals a.f.now) (literal-dim (tree_of Intervals a.f.now) (literal-view c.requires.0 c.requires.2)) c.in_err-i.ensures.runs; lent = c.in_err-i.ensures.lent })

pub dimension_whole-requires : goal.dimension_whole-requires
dimension_whole-requires c = let a = c.args in
    (kept-of c.comparison.new.p, is-long c.requires.0, is-short c.requires.0, is-short c.requires.3, c.requires.1, omega arith)

pub invariant_of-p : goal.invariant_of-p
invariant_of-p c = let a = c.args in
    record { indexed = runs-led (dim-runs 0 (DShift a.k) (shift a.k) Ordering.lt (emit_comparison less a.n a.k) 51 (lt a.n a.k) (compare-lt a.n a.k c.if-n-k.true) refl (shift-below a.k a.n c.if-n-k.true) refl (tree_of Intervals a.f.now) (literal-dim (tree_of Intervals a.f.now) (literal-view c.requires.0 c.requires.2)) (transforms-limited a.f.now Intervals (DShift a.k) c.requires.1 c.requires.0 c.requires.3) (transforms-bytes a.f.now Intervals (DShift a.k) c.requires.1 c.requires.0 c.requires.3) c.in_ok-i.ensures.runs c.dimension_whole.ensures) }

pub returns-then-n-k : goal.returns-then-n-k
returns-then-n-k c = let a = c.args in
    record { runs = dim-runs 0 (DShift a.k) (shift a.k) Ordering.lt (emit_comparison less a.n a.k) 51 (lt a.n a.k) (compare-lt a.n a.k c.if-n-k.true) refl (shift-below a.k a.n c.if-n-k.true) refl (tree_of Intervals a.f.now) (literal-dim (tree_of Intervals a.f.now) (literal-view c.requires.0 c.requires.2)) (transforms-limited a.f.now Intervals (DShift a.k) c.requires.1 c.requires.0 c.requires.3) (transforms-bytes a.f.now Intervals (DShift a.k) c.requires.1 c.requires.0 c.requires.3) c.in_ok-i.ensures.runs c.dimension_whole.ensures; lent = lent-on c.in_ok-i.ensures.lent (record { ledger = refl; index = refl }) }

pub returns-in_err-i-2 : goal.returns-in_err-i-2
returns-in_err-i-2 c = let a = c.args in
    let p = err_from_is_err_and c.from_residual-in_err-i-2.result c.from_residual-in_err-i-2.ensures.1 in
    rw (p.1, p.2) (record { runs = dim-stop (shift a.k) (compare a.n a.k) (emit_comparison at_most a.k a.n) 52 refl (shift-program a.k a.n c.if-n-k.false) (tree_of Intervals a.f.now) (literal-dim (tree_of Intervals a.f.now) (literal-view c.requires.0 c.requires.2)) c.in_err-i-2.ensures.runs; lent = c.in_err-i-2.ensures.lent })

pub dimension_whole-requires-2 : goal.dimension_whole-requires-2
dimension_whole-requires-2 c = let a = c.args in
    (kept-of c.comparison-2.new.p, is-long c.requires.0, is-short c.requires.0, is-short c.requires.3, c.requires.1, omega arith)

pub invariant_of-p-2 : goal.invariant_of-p-2
invariant_of-p-2 c = let a = c.args in
    record { indexed = runs-led (dim-runs 1 (DShift a.k) (shift a.k) (compare a.n a.k) (emit_comparison at_most a.k a.n) 52 (le a.k a.n) refl (shift-program a.k a.n c.if-n-k.false) (shift-above a.k a.n c.if-n-k.false) refl (tree_of Intervals a.f.now) (literal-dim (tree_of Intervals a.f.now) (literal-view c.requires.0 c.requires.2)) (transforms-limited a.f.now Intervals (DShift a.k) c.requires.1 c.requires.0 c.requires.3) (transforms-bytes a.f.now Intervals (DShift a.k) c.requires.1 c.requires.0 c.requires.3) c.in_ok-i-2.ensures.runs c.dimension_whole-2.ensures) }

pub returns : goal.returns
returns c = let a = c.args in
    record { runs = dim-runs 1 (DShift a.k) (shift a.k) (compare a.n a.k) (emit_comparison at_most a.k a.n) 52 (le a.k a.n) refl (shift-program a.k a.n c.if-n-k.false) (shift-above a.k a.n c.if-n-k.false) refl (tree_of Intervals a.f.now) (literal-dim (tree_of Intervals a.f.now) (literal-view c.requires.0 c.requires.2)) (transforms-limited a.f.now Intervals (DShift a.k) c.requires.1 c.requires.0 c.requires.3) (transforms-bytes a.f.now Intervals (DShift a.k) c.requires.1 c.requires.0 c.requires.3) c.in_ok-i-2.ensures.runs c.dimension_whole-2.ensures; lent = lent-on c.in_ok-i-2.ensures.lent (record { ledger = refl; index = refl }) }
