-- The maps in context, where a context of d names is the numbers below d.
use Prim.Native.Nat.{ℕ, suc, pred, ◌≤◌, compare, Ordering}
use native.Mathlib.Omega.{arith}
use Rattle.formula.specs.Formula.{End, Face, ff, ft, at, fand, for, Interval, beside}
use Rattle.formula.specs.Operations.{boundary, forall}
use Rattle.formula.specs.Bytes.{bound_face, bound_interval}
use Rattle.formula.proofs.Compare.{Compares, stands}
use Rattle.calculus.proofs.Calling.{boundary-size}
use Rattle.paper.specs.Maps.{weaken}

-- Weakening adds a name at most.
weaken-context : (d k : ℕ) (ψ : Face) → bound_face ψ ≤ d → bound_face (weaken k ψ) ≤ suc d
unfolding bound_face weaken
weaken-context d k ff h = omega arith
weaken-context d k ft h = omega arith
weaken-context d k (at e n) h = go (compare n k)
  where
    go : (o : Ordering) → suc (beside o n (suc n) (suc n)) ≤ suc d
    go Ordering.lt = omega arith
    go Ordering.eq = omega arith
    go Ordering.gt = omega arith
weaken-context d k (fand a b) h = omega (arith, weaken-context d k a (omega arith), weaken-context d k b (omega arith))
weaken-context d k (for a b) h = omega (arith, weaken-context d k a (omega arith), weaken-context d k b (omega arith))

-- ∀ of a name that is there leaves one less.
forall-context : (d k : ℕ) (φ : Face) → k ≤ d → bound_face φ ≤ suc d → bound_face (forall k φ) ≤ d
unfolding bound_face forall
forall-context d k ff l h = omega arith
forall-context d k ft l h = omega arith
forall-context d k (at e n) l h = go (compare n k) (stands n k)
  where
    go : (o : Ordering) → Compares o n k → bound_face (beside o (at e n) ff (at e (pred n))) ≤ d
    go Ordering.lt s = omega arith
    go Ordering.eq s = omega arith
    go Ordering.gt s = omega arith
forall-context d k (fand a b) l h = omega (arith, forall-context d k a l (omega arith), forall-context d k b l (omega arith))
forall-context d k (for a b) l h = omega (arith, forall-context d k a l (omega arith), forall-context d k b l (omega arith))

-- Over d names: (r=0) and (r=1) are faces over the names of r; weakening goes from d names to one more, ∀ of a name among one more back to d.
pub contexts-paper : (d : ℕ)
    → ((e : End) (r : Interval) → bound_interval r ≤ d → bound_face (boundary e r) ≤ d)
    × ((k : ℕ) (ψ : Face) → bound_face ψ ≤ d → bound_face (weaken k ψ) ≤ suc d)
    × ((k : ℕ) (φ : Face) → k ≤ d → bound_face φ ≤ suc d → bound_face (forall k φ) ≤ d)
contexts-paper d = (λ e r h. omega (arith, (boundary-size e r).1), weaken-context d, forall-context d)
