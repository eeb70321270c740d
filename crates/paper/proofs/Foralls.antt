-- `forall` is the paper's ∀i, and the right adjoint of weakening.
use mathlib.Core.Path.{◌≡◌, refl, ap₂}
use mathlib.Core.Logic.{◌↔◌}
use Prim.Native.Nat.{ℕ, suc, pred, compare, Ordering}
use native.Mathlib.Omega.{arith}
use Rattle.formula.specs.Formula.{End, Face, ff, ft, at, fand, for, Entails, beside, raised}
use Rattle.formula.specs.Operations.{forall, shift, ftransform}
use Rattle.formula.proofs.Compare.{compare-lt, Compares, stands}
use Rattle.formula.proofs.Meaning.{boundary-dim, forall-hit, forall_below, forall-above, forall-adjoint, raised-pred}
use Rattle.calculus.specs.Lattice.{◌⊑◌, reflexive, transitive}
use Rattle.calculus.proofs.Lattices.{order-iff-entails}
use Rattle.paper.specs.Maps.{◌⊑⊒◌, weaken, Forall}
use Rattle.paper.proofs.Equality.{itself, chained, both_equal, either-equal}

-- The operation shift is weakening.
pub shift-paper : (k : ℕ) (f : Face) → ftransform (shift k) f ≡ weaken k f
unfolding ftransform weaken
shift-paper k ff = refl
shift-paper k ft = refl
shift-paper k (at e n) = boundary-dim e (raised k n)
shift-paper k (fand a b) = ap₂ fand (shift-paper k a) (shift-paper k b)
shift-paper k (for a b) = ap₂ for (shift-paper k a) (shift-paper k b)

-- The adjunction over the lattice's order.
forall-right : (k : ℕ) (g f : Face) → (g ⊑ forall k f) ↔ (weaken k g ⊑ f)
forall-right k g f = (
  λ p. (order-iff-entails (weaken k g) f).1 (adjoint.0 ((order-iff-entails g (forall k f)).0 p)),
  λ p. (order-iff-entails g (forall k f)).1 (adjoint.1 ((order-iff-entails (weaken k g) f).0 p)),
)
  where
    adjoint : Entails g (forall k f) ↔ Entails (weaken k g) f
    adjoint = rw (shift-paper k g) at (forall-adjoint k g f)

-- ∀i keeps the order.
forall-monotone : (k : ℕ) {a b : Face} → a ⊑ b → forall k a ⊑ forall k b
forall-monotone k {a} {b} p = (forall-right k (forall k a) b).1 (transitive ((forall-right k (forall k a) a).0 reflexive) p)

-- ∀i keeps a generator on another name.
forall-raised : (k : ℕ) (e : End) (n : ℕ) → forall k (at e (raised k n)) ≡ at e n
forall-raised k e n = go (compare n k) (stands n k)
  where
    go : (o : Ordering) → Compares o n k → forall k (at e (beside o n (suc n) (suc n))) ≡ at e n
    go Ordering.lt h = forall_below e n k h
    go Ordering.eq h = forall-above e (suc n) k (omega arith)
    go Ordering.gt h = forall-above e (suc n) k (omega arith)

-- `forall` is a lattice map with the values of ∀i on generators.
forall-map : (k : ℕ) → Forall k (forall k)
unfolding forall
forall-map k = record {
  map = record {
    respects = λ p. record { below = forall-monotone k p.below; above = forall-monotone k p.above };
    keeps-zero = itself;
    keeps-one = itself;
    keeps-inf = λ a b. itself;
    keeps-sup = λ a b. itself;
  };
  loses = λ e. rw (forall-hit e k) itself;
  keeps = λ e n. rw (forall-raised k e n) itself;
}

-- Whatever map is ∀i gives the faces of `forall`.
forall-only : (k : ℕ) (g : Face → Face) → Forall k g → (f : Face) → g f ⊑⊒ forall k f
unfolding forall
forall-only k g c ff = c.map.keeps-zero
forall-only k g c ft = c.map.keeps-one
forall-only k g c (at e n) = go (compare n k) (stands n k)
  where
    go : (o : Ordering) → Compares o n k → g (at e n) ⊑⊒ beside o (at e n) ff (at e (pred n))
    go Ordering.lt h = rw (compare-lt n k h) at (c.keeps e n)
    go Ordering.eq h = rw h (c.loses e)
    go Ordering.gt h = rw (raised-pred k n h) at (c.keeps e (pred n))
forall-only k g c (fand a b) = chained (c.map.keeps-inf a b) (both_equal (forall-only k g c a) (forall-only k g c b))
forall-only k g c (for a b) = chained (c.map.keeps-sup a b) (either-equal (forall-only k g c a) (forall-only k g c b))

-- `forall` is the paper's: it is ∀i, the only such map up to equality of faces, and ψ ≤ ∀i.φ exactly where ψ, weakened by i, is below φ;
-- so it is the largest face over Γ that is below φ once it is weakened.
pub forall-paper : (k : ℕ) → Forall k (forall k)
    × ((g : Face → Face) → Forall k g → (f : Face) → g f ⊑⊒ forall k f)
    × ((ψ φ : Face) → (ψ ⊑ forall k φ) ↔ (weaken k ψ ⊑ φ))
forall-paper k = (forall-map k, forall-only k, forall-right k)
