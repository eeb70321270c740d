-- A face says nothing of dimensions that it has not.
use mathlib.Core.Path.{◌≡◌, refl, sym, ◌∙◌, ap, ap₂}
use mathlib.Core.Bool.{true, false, ◌&&◌, ◌||◌, true≢false}
use Prim.Native.Nat.{ℕ, ◌<◌, compare}
use native.Mathlib.Omega.{arith}
use native.Mathlib.Decide.{dec_lt}
use Rattle.formula.specs.Formula.{End, lo, hi, Face, ff, ft, at, fand, for, vu, is, Assignment, holds, beside}
use Rattle.formula.specs.Bytes.{bound_face}
use Rattle.formula.proofs.Compare.{compare-lt, compare-eq}
use Rattle.calculus.proofs.Sound.{end_value}

-- It holds alike at assignments that agree below its bound.
holds-alike : (g : Face) (σ τ : Assignment) → ((n : ℕ) → n < bound_face g → σ n ≡ τ n) → holds g σ ≡ holds g τ
unfolding holds bound_face
holds-alike ff σ τ h = refl
holds-alike ft σ τ h = refl
holds-alike (at e n) σ τ h = ap (is e) (h n (omega arith))
holds-alike (fand a b) σ τ h = ap₂ ◌&&◌ (holds-alike a σ τ (λ n p. h n (omega arith))) (holds-alike b σ τ (λ n p. h n (omega arith)))
holds-alike (for a b) σ τ h = ap₂ ◌||◌ (holds-alike a σ τ (λ n p. h n (omega arith))) (holds-alike b σ τ (λ n p. h n (omega arith)))

is-itself : (e : End) → is e (end_value e) ≡ true
is-itself lo = refl
is-itself hi = refl

not-undetermined : (e : End) → is e vu ≡ false
not-undetermined lo = refl
not-undetermined hi = refl

-- A face that holds exactly where dimension m is an end has a dimension of m or more.
pub reaches : (e : End) (m : ℕ) (g : Face) → ((σ : Assignment) → holds g σ ≡ is e (σ m)) → m < bound_face g
reaches e m g h = go (dec_lt m (bound_face g))
  where
    below : Assignment
    below n = beside (compare n m) (end_value e) vu vu

    go : Dec (m < bound_face g) → m < bound_face g
    go (yes p) = p
    go (no p) =
        let alike : holds g (λ n. end_value e) ≡ holds g below = holds-alike g (λ n. end_value e) below (λ n q. rw (compare-lt n m (omega arith))) in
        let ends : holds g (λ n. end_value e) ≡ true = h (λ n. end_value e) ∙ is-itself e in
        let not : holds g below ≡ false = h below ∙ rw (compare-eq m) (not-undetermined e) in
        absurd (true≢false (sym ends ∙ alike ∙ not))
