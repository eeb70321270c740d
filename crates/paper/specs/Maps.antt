-- The maps into the face lattice of Cohen, Coquand, Huber and Mörtberg: (r=1) and (r=0) (section 4.1), and ∀i.
-- The lattice itself is `Lattice` of the calculus: its order is `◌⊑◌`, and the paper's 0, 1, (i=0), (i=1), ∧, ∨ are ff, ft, at lo n, at hi n, fand, for.
use Rattle.std.specs.Prelude.{ℕ}
use Rattle.formula.specs.Formula.{End, lo, hi, Face, ff, ft, at, fand, for, Interval, i0, i1, dim, neg, meet, join, raised}
use Rattle.calculus.specs.Lattice.{◌⊑◌}
use Rattle.paper.specs.DeMorgan.{◌≐◌}

-- Equality in the face lattice: each is below the other.
infix 50 ◌⊑⊒◌
pub record ◌⊑⊒◌ (a b : Face) : Type 0 where
  pub below : a ⊑ b
  pub above : b ⊑ a

-- A map of bounded lattices into the face lattice, from what has an equality, 0, 1, ∧ and ∨.
pub record LatticeMap {A : Type 0} (equal : A → A → Type 0) (zero one : A) (inf sup : A → A → A) (f : A → Face) : Type 0 where
  pub respects : {x y : A} → equal x y → f x ⊑⊒ f y
  pub keeps-zero : f zero ⊑⊒ ff
  pub keeps-one : f one ⊑⊒ ft
  pub keeps-inf : (x y : A) → f (inf x y) ⊑⊒ fand (f x) (f y)
  pub keeps-sup : (x y : A) → f (sup x y) ⊑⊒ for (f x) (f y)

-- The canonical map from the interval: the lattice map that sends i to (i=1) and 1 − i to (i=0).
pub record Canonical (f : Interval → Face) : Type 0 where
  pub map : LatticeMap ◌≐◌ i0 i1 meet join f
  pub name : (n : ℕ) → f (dim n) ⊑⊒ at hi n
  pub negated : (n : ℕ) → f (neg (dim n)) ⊑⊒ at lo n

-- By the canonical map f: (r=1) is the image of r, and (r=0) is (1 − r = 1).
abbrev pub where_end : (Interval → Face) → End → Interval → Face
where_end f hi r = f r
where_end f lo r = f (neg r)

-- Names and numbers: in the paper's Γ, i the name i is here the number k, and name n of Γ is the number `raised k n` (n below k, else n + 1).
-- Every number but k is the place of exactly one name of Γ. That Γ has d names says only that its numbers are below d (`contexts-paper`).

-- A face over Γ, read over Γ, i: each generator stays on its name.
unfoldable pub weaken : ℕ → Face → Face
weaken k ff = ff
weaken k ft = ft
weaken k (at e n) = at e (raised k n)
weaken k (fand a b) = fand (weaken k a) (weaken k b)
weaken k (for a b) = for (weaken k a) (weaken k b)

-- ∀i, from faces over Γ, i to faces over Γ: the lattice map that sends (i=0) and (i=1) to 0 and keeps the generators on other names.
pub record Forall (k : ℕ) (g : Face → Face) : Type 0 where
  pub map : LatticeMap ◌⊑⊒◌ ff ft fand for g
  pub loses : (e : End) → g (at e k) ⊑⊒ ff
  pub keeps : (e : End) (n : ℕ) → g (at e (raised k n)) ⊑⊒ at e n
