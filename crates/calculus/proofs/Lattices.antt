-- The order of the paper's face lattice is entailment over all three-valued assignments.
use mathlib.Core.Path.{◌≡◌, refl, sym, ◌∙◌}
use mathlib.Core.Logic.{◌↔◌, inl, inr, ⊎_elim}
use mathlib.Core.Bool.{Bool, true, false≢true, and-eq-true_iff, and-or_distrib_left}
use mathlib.Core.List.{List, [], ◌∷◌, ◌++◌, Memᴰ}
use Prim.Native.Nat.{ℕ, zero, suc}
use Rattle.formula.specs.Formula.{lo, hi, Face, ft, at, fand, for, holds, Entails}
use Rattle.calculus.specs.Truth.{LeftOut, here, there}
use Rattle.calculus.specs.Search.{Move, act, search_in, search}
use Rattle.calculus.specs.Lattice.{◌⊑◌, reflexive, transitive, ff-least, ft-greatest, meet_left, meet_right, meet-greatest, join-left, join-right, join-least, distributive, ends-disjoint}
use Rattle.calculus.proofs.Sound.{or-iff, not-both-ends}
use Rattle.calculus.proofs.Searching.{Moves, is-top, is-hit, is-absurd, is-clash, is-and-left, is-or-left, is-and-right, is-or-right, is_stuck, move-view, left_out, search-entails}

-- The order's axioms hold of entailment.
below-entails : {a b : Face} → a ⊑ b → Entails a b
unfolding holds
below-entails reflexive σ h = h
below-entails (transitive p q) σ h = below-entails q σ (below-entails p σ h)
below-entails ff-least σ h = absurd (false≢true h)
below-entails ft-greatest σ h = refl
below-entails (meet_left {a} {b}) σ h = ((and-eq-true_iff (holds a σ) (holds b σ)).0 h).0
below-entails (meet_right {a} {b}) σ h = ((and-eq-true_iff (holds a σ) (holds b σ)).0 h).1
below-entails (meet-greatest {a} {b} p q) σ h = (and-eq-true_iff (holds a σ) (holds b σ)).1 (below-entails p σ h, below-entails q σ h)
below-entails (join-left {a} {b}) σ h = (or-iff (holds a σ) (holds b σ)).1 (inl h)
below-entails (join-right {a} {b}) σ h = (or-iff (holds a σ) (holds b σ)).1 (inr h)
below-entails (join-least {a} {b} p q) σ h = ⊎_elim (below-entails p σ) (below-entails q σ) ((or-iff (holds a σ) (holds b σ)).0 h)
below-entails (distributive {a} {b} {c}) σ h = sym (and-or_distrib_left (holds a σ) (holds b σ) (holds c σ)) ∙ h
below-entails (ends-disjoint {n}) σ h = let p = (and-eq-true_iff (holds (at lo n) σ) (holds (at hi n) σ)).0 h in absurd (not-both-ends (σ n) p.0 p.1)

-- The meet of a context.
unfoldable pub meet_of : List Face → Face
meet_of [] = ft
meet_of (f ∷ G) = fand f (meet_of G)

meet-monotone : {a b c d : Face} → a ⊑ b → c ⊑ d → fand a c ⊑ fand b d
meet-monotone p q = meet-greatest (transitive meet_left p) (transitive meet_right q)

swapped : {a b c : Face} → fand a (fand b c) ⊑ fand b (fand a c)
swapped = meet-greatest (transitive meet_right meet_left) (meet-monotone reflexive meet_right)

regrouped : {a b c : Face} → fand (fand a b) c ⊑ fand a (fand b c)
regrouped = meet-greatest (transitive meet_left meet_left) (meet-monotone meet_right reflexive)

commuted : {a b : Face} → fand a b ⊑ fand b a
commuted = meet-greatest meet_right meet_left

-- A context is below each of its faces, and below one left out and the rest.
member_below : {f : Face} {G : List Face} → Memᴰ f G → meet_of G ⊑ f
unfolding meet_of
member_below (Memᴰ.head e) = rw e meet_left
member_below (Memᴰ.tail m) = transitive meet_right (member_below m)

left-out-below : {f : Face} {G D : List Face} → LeftOut f G D → meet_of G ⊑ fand f (meet_of D)
unfolding meet_of
left-out-below here = reflexive
left-out-below (there o) = transitive (meet-monotone reflexive (left-out-below o)) swapped

-- What the search covers is above the context.
act-below : (c : List Face → Face → Bool) → ((G : List Face) (g : Face) → c G g ≡ true → meet_of G ⊑ g)
    → {P : Type 0} {G : List Face} {g : Face} {m : Move} → Moves P G g m → act c G g m ≡ true → meet_of G ⊑ g
unfolding meet_of
act-below c k (is-top e) y = rw e ft-greatest
act-below c k (is-hit m) y = member_below m
act-below c k (is-absurd m) y = transitive (member_below m) ff-least
act-below c k (is-clash m o) y = transitive (meet-greatest (member_below m) (member_below o)) (transitive ends-disjoint ff-least)
act-below c k {g = g} (is-and-left {b} {a} {x} {y = z} e) y =
    rw e (transitive (left-out-below (left_out b (fand x z) a)) (transitive regrouped (k (x ∷ z ∷ (b ++ a)) g y)))
act-below c k {g = g} (is-or-left {b} {a} {x} {y = z} e) y =
    let h = (and-eq-true_iff (c (x ∷ (b ++ a)) g) (c (z ∷ (b ++ a)) g)).0 y in
    rw e (transitive (left-out-below (left_out b (for x z) a)) (transitive commuted (transitive distributive
    (join-least (transitive commuted (k (x ∷ (b ++ a)) g h.0)) (transitive commuted (k (z ∷ (b ++ a)) g h.1))))))
act-below c k {G = G} (is-and-right {x} {y = z} e) y =
    let h = (and-eq-true_iff (c G x) (c G z)).0 y in
    rw e (meet-greatest (k G x h.0) (k G z h.1))
act-below c k {G = G} (is-or-right {x} {y = z} s e) y =
    rw e (⊎_elim (λ h. transitive (k G x h) join-left) (λ h. transitive (k G z h) join-right) ((or-iff (c G x) (c G z)).0 y))
act-below c k (is_stuck p) y = absurd (false≢true y)

search_in-below : (n : ℕ) (G : List Face) (g : Face) → search_in n G g ≡ true → meet_of G ⊑ g
unfolding search_in
search_in-below zero G g e = absurd (false≢true e)
search_in-below (suc n) G g e = act-below (search_in n) (search_in-below n) (move-view G g) e

pub search-below : (G : List Face) (g : Face) → search G g ≡ true → meet_of G ⊑ g
unfolding search
search-below G g e = search_in-below _ G g e

entails-below : {a b : Face} → Entails a b → a ⊑ b
unfolding meet_of
entails-below {a} {b} h = transitive (meet-greatest reflexive ft-greatest) (search-below (a ∷ []) b ((search-entails a b).1 h))

-- The order of the face lattice is entailment.
pub order-iff-entails : (a b : Face) → (a ⊑ b) ↔ Entails a b
order-iff-entails a b = (below-entails, entails-below)
