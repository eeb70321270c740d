-- The boundary of an interval expression is the paper's (r=0) and (r=1).
use mathlib.Core.Path.{◌≡◌, refl, sym, ◌∙◌, ap₂}
use mathlib.Core.Bool.{Bool, true, false, ◌&&◌, ◌||◌, and_comm, or_comm, and_assoc, or_assoc, and-true, or-false, and-or_distrib_left, or-and_distrib_left, and-eq-true_iff}
use Rattle.formula.specs.Formula.{End, lo, hi, other, Face, ff, fand, Interval, i0, i1, dim, neg, meet, join, Assignment, value, holds}
use Rattle.formula.specs.Operations.{boundary}
use Rattle.formula.proofs.Meaning.{boundary-holds, boundary-neg}
use Rattle.calculus.specs.Lattice.{ff-least}
use Rattle.calculus.proofs.Sound.{not-both-ends}
use Rattle.calculus.proofs.Lattices.{order-iff-entails}
use Rattle.paper.specs.DeMorgan.{◌≐◌, reflexive, symmetric, transitive, neg-respects, meet-respects, join-respects, meet-commutes, join-commutes, meet-associates, join-associates, meet-absorbs, join-absorbs, distributive, meet_one, join-zero, involution, neg-zero, neg-one, neg-meet, neg-join}
use Rattle.paper.specs.Maps.{◌⊑⊒◌, Canonical, where_end}
use Rattle.paper.proofs.Equality.{same-equal, itself, chained, both_equal, either-equal}

-- Absorption of truth values.
and-absorbs : (a b : Bool) → (a && (a || b)) ≡ a
and-absorbs true b = refl
and-absorbs false b = refl

or-absorbs : (a b : Bool) → (a || (a && b)) ≡ a
or-absorbs true b = refl
or-absorbs false b = refl

-- Does the expression have this end as its value?
abbrev ends : End → Assignment → Interval → Bool
ends e σ r = holds (boundary e r) σ

-- Equal expressions have an end as their value at the same assignments: at lo the laws of a lattice are asked of or, at hi of and.
ends-equal : {r s : Interval} → r ≐ s → (e : End) (σ : Assignment) → ends e σ r ≡ ends e σ s
unfolding holds boundary
ends-equal reflexive e σ = refl
ends-equal (symmetric p) e σ = sym (ends-equal p e σ)
ends-equal (transitive p q) e σ = ends-equal p e σ ∙ ends-equal q e σ
ends-equal (neg-respects p) lo σ = ends-equal p hi σ
ends-equal (neg-respects p) hi σ = ends-equal p lo σ
ends-equal (meet-respects p q) lo σ = ap₂ ◌||◌ (ends-equal p lo σ) (ends-equal q lo σ)
ends-equal (meet-respects p q) hi σ = ap₂ ◌&&◌ (ends-equal p hi σ) (ends-equal q hi σ)
ends-equal (join-respects p q) lo σ = ap₂ ◌&&◌ (ends-equal p lo σ) (ends-equal q lo σ)
ends-equal (join-respects p q) hi σ = ap₂ ◌||◌ (ends-equal p hi σ) (ends-equal q hi σ)
ends-equal (meet-commutes {r} {s}) lo σ = or_comm (ends lo σ r) (ends lo σ s)
ends-equal (meet-commutes {r} {s}) hi σ = and_comm (ends hi σ r) (ends hi σ s)
ends-equal (join-commutes {r} {s}) lo σ = and_comm (ends lo σ r) (ends lo σ s)
ends-equal (join-commutes {r} {s}) hi σ = or_comm (ends hi σ r) (ends hi σ s)
ends-equal (meet-associates {r} {s} {t}) lo σ = or_assoc (ends lo σ r) (ends lo σ s) (ends lo σ t)
ends-equal (meet-associates {r} {s} {t}) hi σ = and_assoc (ends hi σ r) (ends hi σ s) (ends hi σ t)
ends-equal (join-associates {r} {s} {t}) lo σ = and_assoc (ends lo σ r) (ends lo σ s) (ends lo σ t)
ends-equal (join-associates {r} {s} {t}) hi σ = or_assoc (ends hi σ r) (ends hi σ s) (ends hi σ t)
ends-equal (meet-absorbs {r} {s}) lo σ = or-absorbs (ends lo σ r) (ends lo σ s)
ends-equal (meet-absorbs {r} {s}) hi σ = and-absorbs (ends hi σ r) (ends hi σ s)
ends-equal (join-absorbs {r} {s}) lo σ = and-absorbs (ends lo σ r) (ends lo σ s)
ends-equal (join-absorbs {r} {s}) hi σ = or-absorbs (ends hi σ r) (ends hi σ s)
ends-equal (distributive {r} {s} {t}) lo σ = or-and_distrib_left (ends lo σ r) (ends lo σ s) (ends lo σ t)
ends-equal (distributive {r} {s} {t}) hi σ = and-or_distrib_left (ends hi σ r) (ends hi σ s) (ends hi σ t)
ends-equal (meet_one {r}) lo σ = or-false (ends lo σ r)
ends-equal (meet_one {r}) hi σ = and-true (ends hi σ r)
ends-equal (join-zero {r}) lo σ = and-true (ends lo σ r)
ends-equal (join-zero {r}) hi σ = or-false (ends hi σ r)
ends-equal involution lo σ = refl
ends-equal involution hi σ = refl
ends-equal neg-zero lo σ = refl
ends-equal neg-zero hi σ = refl
ends-equal neg-one lo σ = refl
ends-equal neg-one hi σ = refl
ends-equal neg-meet lo σ = refl
ends-equal neg-meet hi σ = refl
ends-equal neg-join lo σ = refl
ends-equal neg-join hi σ = refl

-- The face (r=1) is a canonical map.
boundary-canonical : Canonical (boundary hi)
unfolding boundary
boundary-canonical = record {
  map = record {
    respects = λ p. same-equal (ends-equal p hi);
    keeps-zero = itself;
    keeps-one = itself;
    keeps-inf = λ r s. itself;
    keeps-sup = λ r s. itself;
  };
  name = λ n. itself;
  negated = λ n. itself;
}

-- Whatever map is canonical gives the faces of the boundary.
boundary-only : (f : Interval → Face) → Canonical f → (e : End) (r : Interval) → where_end f e r ⊑⊒ boundary e r
unfolding boundary
boundary-only f c lo i0 = chained (c.map.respects neg-zero) c.map.keeps-one
boundary-only f c hi i0 = c.map.keeps-zero
boundary-only f c lo i1 = chained (c.map.respects neg-one) c.map.keeps-zero
boundary-only f c hi i1 = c.map.keeps-one
boundary-only f c lo (dim n) = c.negated n
boundary-only f c hi (dim n) = c.name n
boundary-only f c lo (neg r) = chained (c.map.respects involution) (boundary-only f c hi r)
boundary-only f c hi (neg r) = boundary-only f c lo r
boundary-only f c lo (meet r s) =
    chained (chained (c.map.respects neg-meet) (c.map.keeps-sup (neg r) (neg s))) (either-equal (boundary-only f c lo r) (boundary-only f c lo s))
boundary-only f c hi (meet r s) = chained (c.map.keeps-inf r s) (both_equal (boundary-only f c hi r) (boundary-only f c hi s))
boundary-only f c lo (join r s) =
    chained (chained (c.map.respects neg-join) (c.map.keeps-inf (neg r) (neg s))) (both_equal (boundary-only f c lo r) (boundary-only f c lo s))
boundary-only f c hi (join r s) = chained (c.map.keeps-sup r s) (either-equal (boundary-only f c hi r) (boundary-only f c hi s))

-- No expression is one and zero.
boundary-apart : (r : Interval) → fand (boundary hi r) (boundary lo r) ⊑⊒ ff
unfolding holds
boundary-apart r = record { below = (order-iff-entails (fand (boundary hi r) (boundary lo r)) ff).1 never; above = ff-least }
  where
    never : (σ : Assignment) → (ends hi σ r && ends lo σ r) ≡ true → false ≡ true
    never σ h =
        let p = (and-eq-true_iff (ends hi σ r) (ends lo σ r)).0 h in
        absurd (not-both-ends (value r σ) (sym (boundary-holds lo r σ) ∙ p.1) (sym (boundary-holds hi r σ) ∙ p.0))

-- The boundary is the paper's: `boundary hi` is the canonical map, the only one up to equality of faces, and with every canonical map
-- (r=0) and (r=1) are the boundary of r; 1 − r exchanges the two, as formulas; and (r=1) ∧ (r=0) = 0.
pub boundary-paper : Canonical (boundary hi)
    × ((f : Interval → Face) → Canonical f → (e : End) (r : Interval) → where_end f e r ⊑⊒ boundary e r)
    × ((e : End) (r : Interval) → boundary e (neg r) ≡ boundary (other e) r)
    × ((r : Interval) → fand (boundary hi r) (boundary lo r) ⊑⊒ ff)
boundary-paper = (boundary-canonical, boundary-only, boundary-neg, boundary-apart)
