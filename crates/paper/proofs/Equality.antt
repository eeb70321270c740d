-- Laws of equality in the face lattice.
use mathlib.Core.Path.{◌≡◌, sym, ◌∙◌}
use Rattle.formula.specs.Formula.{Face, fand, for, Assignment, holds}
use Rattle.calculus.specs.Lattice.{reflexive, transitive, meet_left, meet_right, meet-greatest, join-left, join-right, join-least}
use Rattle.calculus.proofs.Lattices.{order-iff-entails}
use Rattle.paper.specs.Maps.{◌⊑⊒◌}

-- Faces that hold at the same assignments are equal.
pub same-equal : {a b : Face} → ((σ : Assignment) → holds a σ ≡ holds b σ) → a ⊑⊒ b
same-equal {a} {b} h =
    record { below = (order-iff-entails a b).1 (λ σ p. sym (h σ) ∙ p); above = (order-iff-entails b a).1 (λ σ p. h σ ∙ p) }

-- A face is equal to itself.
pub itself : {a : Face} → a ⊑⊒ a
itself = record { below = reflexive; above = reflexive }

-- One equality after another.
pub chained : {a b c : Face} → a ⊑⊒ b → b ⊑⊒ c → a ⊑⊒ c
chained p q = record { below = transitive p.below q.below; above = transitive q.above p.above }

-- Conjunctions of equal faces are equal.
pub both_equal : {a b c d : Face} → a ⊑⊒ b → c ⊑⊒ d → fand a c ⊑⊒ fand b d
both_equal p q = record {
  below = meet-greatest (transitive meet_left p.below) (transitive meet_right q.below);
  above = meet-greatest (transitive meet_left p.above) (transitive meet_right q.above);
}

-- Disjunctions of equal faces are equal.
pub either-equal : {a b c d : Face} → a ⊑⊒ b → c ⊑⊒ d → for a c ⊑⊒ for b d
either-equal p q = record {
  below = join-least (transitive p.below join-left) (transitive q.below join-right);
  above = join-least (transitive p.above join-left) (transitive q.above join-right);
}
