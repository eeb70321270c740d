use Prim.Native.Nat.{ℕ, ◌+◌, max}
use native.Mathlib.Omega.{arith}
use mathlib.Core.Path.{refl, sym, ap, ◌∙◌}
use lib.ListN.{drop}
use borrow.Author.Tests.{le-leb, lt-leb}
use Rattle.formula.specs.declared.Kind.TheVariants.{Nullary, Literal, Unary, Binary, Unknown}
use Rattle.formula.proofs.WalkLaws.{walking-outside, walking_start, walking-few, walking-broken, walking_on, on-eq, finish-zero, size-none, size_from, measure-at-law}
use Rattle.formula.proofs.walk.measure_at.Goals as goal
use Rattle.formula.proofs.walk.measure_at.Goals.{in-Nullary, in-Literal+else-s-e-lt-DIM, in-Unary, in-Binary}

pub returns-then-s-at : goal.returns-then-s-at
returns-then-s-at c = size-none c.args.sort c.args.s.now c.args.at (walking-outside c.args.sort c.args.s.now c.args.at c.if-s-at.true)

pub loop-pending-init : goal.loop-pending-init
loop-pending-init c = walking_start c.args.sort c.args.s.now c.args.at (omega arith)

pub returns-then-s-e : goal.returns-then-s-e
returns-then-s-e c = size-none c.args.sort c.args.s.now c.args.at (walking-few c.args.sort c.loop-pending.invariant (omega arith) (omega arith))

pub returns-then-s-e-lt-DIM : goal.returns-then-s-e-lt-DIM
returns-then-s-e-lt-DIM c = size-none c.args.sort c.args.s.now c.args.at (walking-broken c.args.sort c.loop-pending.invariant (omega arith) (omega arith) Literal (sym c.in-Literal.is ∙ c.kind_of.ensures) (simp (lt-leb _ _ c.if-s-e-lt-DIM.true)))

pub returns-in-Unknown : goal.returns-in-Unknown
returns-in-Unknown c = size-none c.args.sort c.args.s.now c.args.at (walking-broken c.args.sort c.loop-pending.invariant (omega arith) (omega arith) Unknown (sym c.in-Unknown.is ∙ c.kind_of.ensures) refl)

pub loop-pending-preserved : goal.loop-pending-preserved
loop-pending-preserved c =
    elim c.match-kind_of.branch [
      | in-Nullary w ↦ walking_on c.args.sort c.loop-pending.invariant (omega arith) (omega arith) Nullary (sym w.in-Nullary.is ∙ c.kind_of.ensures) _ (on-eq w.e-is w.pending-is w.bound-is) (omega arith) (omega arith) refl
      | in-Literal+else-s-e-lt-DIM w ↦ walking_on c.args.sort c.loop-pending.invariant (omega arith) (omega arith) Literal (sym w.in-Literal.is ∙ c.kind_of.ensures) _ (simp (le-leb _ _ w.if-s-e-lt-DIM.false) (on-eq w.e-is w.pending-is (w.bound-is ∙ w.larger-bound.ensures ∙ ap (λ (n : ℕ). max c.loop-pending.bound (n + 1)) w.dim_at.ensures.0))) (omega arith) (omega arith) refl
      | in-Unary w ↦ walking_on c.args.sort c.loop-pending.invariant (omega arith) (omega arith) Unary (sym w.in-Unary.is ∙ c.kind_of.ensures) _ (on-eq w.e-is w.pending-is w.bound-is) (omega arith) (omega arith) refl
      | in-Binary w ↦ walking_on c.args.sort c.loop-pending.invariant (omega arith) (omega arith) Binary (sym w.in-Binary.is ∙ c.kind_of.ensures) _ (on-eq w.e-is w.pending-is w.bound-is) (omega arith) (omega arith) refl
    ]

pub returns : goal.returns
returns c = let a = c.args in sym (measure-at-law a.sort a.s.now a.at ∙ ap (size_from a.sort a.at) (sym c.loop-pending.invariant.ends ∙ finish-zero a.sort _ (drop c.loop-pending.e a.s.now) (omega arith)))
