-- What the operations on formulas mean (document 01, "Formulas and their meaning").
use mathlib.Core.Path.{◌≡◌, refl, sym, ◌∙◌, ap, ap₂, fun_ext}
use mathlib.Core.Logic.{◌↔◌}
use mathlib.Core.Bool.{Bool, true, false, ◌&&◌, ◌||◌, or-true, false≢true}
use Prim.Native.Nat.{ℕ, suc, pred, ◌<◌, compare, Ordering}
use native.Mathlib.Omega.{arith}
use Rattle.formula.specs.Formula.{End, lo, hi, other, Face, ff, ft, at, fand, for, Interval, i0, i1, dim, neg, meet, join, Val, v0, v1, vu, Assignment, neg_v, meet_v, join_v, value, is, holds, Entails, beside, insert, raised, remove}
use Rattle.formula.specs.Operations.{boundary, forall, Op, shift, subst, dim_to, itransform, ftransform, change}
use Rattle.formula.proofs.Compare.{compare-lt, compare-eq, compare-gt, Compares, stands}

-- What is asked of two parts: either at lo, both at hi.
abbrev gate : End → Bool → Bool → Bool
gate lo x y = x || y
gate hi x y = x && y

-- A negation is an end where its part is the other.
is-neg : (e : End) (v : Val) → is (other e) v ≡ is e (neg_v v)
is-neg lo v0 = refl
is-neg lo v1 = refl
is-neg lo vu = refl
is-neg hi v0 = refl
is-neg hi v1 = refl
is-neg hi vu = refl

-- A meet is zero where a part is, one where both are.
is-meet : (e : End) (v w : Val) → gate e (is e v) (is e w) ≡ is e (meet_v v w)
is-meet lo v0 w = refl
is-meet lo v1 w = refl
is-meet lo vu v0 = refl
is-meet lo vu v1 = refl
is-meet lo vu vu = refl
is-meet hi v0 w = refl
is-meet hi v1 w = refl
is-meet hi vu v0 = refl
is-meet hi vu v1 = refl
is-meet hi vu vu = refl

-- A join is zero where both parts are, one where a part is.
is_join : (e : End) (v w : Val) → gate (other e) (is e v) (is e w) ≡ is e (join_v v w)
is_join lo v0 w = refl
is_join lo v1 w = refl
is_join lo vu v0 = refl
is_join lo vu v1 = refl
is_join lo vu vu = refl
is_join hi v0 w = refl
is_join hi v1 w = refl
is_join hi vu v0 = refl
is_join hi vu v1 = refl
is_join hi vu vu = refl

-- The first face of a boundary holds exactly where the expression is zero, the second exactly where it is one.
pub boundary-holds : (e : End) (r : Interval) (σ : Assignment) → holds (boundary e r) σ ≡ is e (value r σ)
unfolding holds boundary value
boundary-holds lo i0 σ = refl
boundary-holds hi i0 σ = refl
boundary-holds lo i1 σ = refl
boundary-holds hi i1 σ = refl
boundary-holds e (dim n) σ = refl
boundary-holds lo (neg r) σ = boundary-holds hi r σ ∙ is-neg lo (value r σ)
boundary-holds hi (neg r) σ = boundary-holds lo r σ ∙ is-neg hi (value r σ)
boundary-holds lo (meet r s) σ = ap₂ ◌||◌ (boundary-holds lo r σ) (boundary-holds lo s σ) ∙ is-meet lo (value r σ) (value s σ)
boundary-holds hi (meet r s) σ = ap₂ ◌&&◌ (boundary-holds hi r σ) (boundary-holds hi s σ) ∙ is-meet hi (value r σ) (value s σ)
boundary-holds lo (join r s) σ = ap₂ ◌&&◌ (boundary-holds lo r σ) (boundary-holds lo s σ) ∙ is_join lo (value r σ) (value s σ)
boundary-holds hi (join r s) σ = ap₂ ◌||◌ (boundary-holds hi r σ) (boundary-holds hi s σ) ∙ is_join hi (value r σ) (value s σ)

-- The boundary of a dimension is its literal.
pub boundary-dim : (e : End) (n : ℕ) → boundary e (dim n) ≡ at e n
unfolding boundary
boundary-dim e n = refl

-- A negation is an end on the face where its part is the other.
pub boundary-neg : (e : End) (r : Interval) → boundary e (neg r) ≡ boundary (other e) r
unfolding boundary
boundary-neg lo r = refl
boundary-neg hi r = refl

-- ∀k holds exactly where the face does with k undetermined.
pub forall-holds : (k : ℕ) (f : Face) (σ : Assignment) → holds (forall k f) σ ≡ holds f (insert k vu σ)
unfolding holds forall
forall-holds k ff σ = refl
forall-holds k ft σ = refl
forall-holds k (at e n) σ = go e (compare n k)
  where
    go : (e : End) (o : Ordering) → holds (beside o (at e n) ff (at e (pred n))) σ ≡ is e (beside o (σ n) vu (σ (pred n)))
    go e Ordering.lt = refl
    go lo Ordering.eq = refl
    go hi Ordering.eq = refl
    go e Ordering.gt = refl
forall-holds k (fand a b) σ = ap₂ ◌&&◌ (forall-holds k a σ) (forall-holds k b σ)
forall-holds k (for a b) σ = ap₂ ◌||◌ (forall-holds k a σ) (forall-holds k b σ)

-- ∀k loses a literal on k.
pub forall-hit : (e : End) (k : ℕ) → forall k (at e k) ≡ ff
unfolding forall
forall-hit e k = rw compare-eq

-- ∀k keeps a literal below k.
pub forall_below : (e : End) (n k : ℕ) → n < k → forall k (at e n) ≡ at e n
unfolding forall
forall_below e n k h = rw compare-lt

-- ∀k lowers a literal above k.
pub forall-above : (e : End) (n k : ℕ) → k < n → forall k (at e n) ≡ at e (pred n)
unfolding forall
forall-above e n k h = rw compare-gt

-- ∀k goes through a conjunction.
pub forall-fand : (k : ℕ) (a b : Face) → forall k (fand a b) ≡ fand (forall k a) (forall k b)
unfolding forall
forall-fand k a b = refl

-- ∀k goes through a disjunction.
pub forall-for : (k : ℕ) (a b : Face) → forall k (for a b) ≡ for (forall k a) (forall k b)
unfolding forall
forall-for k a b = refl

-- ∀k keeps the false face.
pub forall-ff : (k : ℕ) → forall k ff ≡ ff
unfolding forall
forall-ff k = refl

-- ∀k keeps the true face.
pub forall-ft : (k : ℕ) → forall k ft ≡ ft
unfolding forall
forall-ft k = refl

-- What a dimension becomes has the value that the changed assignment gives it.
pub dim_to-value : (o : Op) (n : ℕ) (σ : Assignment) → value (dim_to o n) σ ≡ change o σ n
unfolding value
dim_to-value (shift k) n σ = refl
dim_to-value (subst k r) n σ = go (compare n k)
  where
    go : (o : Ordering) → value (beside o (dim n) r (dim (pred n))) σ ≡ beside o (σ n) (value r σ) (σ (pred n))
    go Ordering.lt = refl
    go Ordering.eq = refl
    go Ordering.gt = refl

-- A transformed expression has the value of the expression at the changed assignment.
pub itransform-value : (o : Op) (r : Interval) (σ : Assignment) → value (itransform o r) σ ≡ value r (change o σ)
unfolding value itransform
itransform-value o i0 σ = refl
itransform-value o i1 σ = refl
itransform-value o (dim n) σ = dim_to-value o n σ
itransform-value o (neg r) σ = ap neg_v (itransform-value o r σ)
itransform-value o (meet r s) σ = ap₂ meet_v (itransform-value o r σ) (itransform-value o s σ)
itransform-value o (join r s) σ = ap₂ join_v (itransform-value o r σ) (itransform-value o s σ)

-- A transformed face holds exactly where the face does at the changed assignment.
pub ftransform-holds : (o : Op) (f : Face) (σ : Assignment) → holds (ftransform o f) σ ≡ holds f (change o σ)
unfolding holds ftransform
ftransform-holds o ff σ = refl
ftransform-holds o ft σ = refl
ftransform-holds o (at e n) σ = boundary-holds e (dim_to o n) σ ∙ ap (is e) (dim_to-value o n σ)
ftransform-holds o (fand a b) σ = ap₂ ◌&&◌ (ftransform-holds o a σ) (ftransform-holds o b σ)
ftransform-holds o (for a b) σ = ap₂ ◌||◌ (ftransform-holds o a σ) (ftransform-holds o b σ)

-- The first value is undetermined or the second.
pub data Below : Val → Val → Type 0 where
  undetermined : {v : Val} → Below vu v
  same : {v : Val} → Below v v

-- The first assignment gives each dimension what the second does, or leaves it undetermined.
abbrev pub LessDetermined : Assignment → Assignment → Type 0
LessDetermined σ τ = (n : ℕ) → Below (σ n) (τ n)

-- A value that is an end stays so above.
below-is : {v w : Val} → Below v w → (e : End) → is e v ≡ true → is e w ≡ true
below-is undetermined lo h = cc
below-is undetermined hi h = cc
below-is same e h = h

-- A value is below another that is each end that it is.
is_below : (v w : Val) → ((e : End) → is e v ≡ true → is e w ≡ true) → Below v w
is_below v0 v0 h = same
is_below v0 v1 h = absurd (false≢true (h lo refl))
is_below v0 vu h = absurd (false≢true (h lo refl))
is_below v1 v0 h = absurd (false≢true (h hi refl))
is_below v1 v1 h = same
is_below v1 vu h = absurd (false≢true (h hi refl))
is_below vu w h = undetermined

-- Either and both keep truth.
gate-monotone : (e : End) {a b c d : Bool} → (a ≡ true → c ≡ true) → (b ≡ true → d ≡ true) → gate e a b ≡ true → gate e c d ≡ true
gate-monotone lo {a = true} f g h = rw (f refl)
gate-monotone lo {a = false} f g h = rw (g h, or-true)
gate-monotone hi {a = true} f g h = rw (f refl, g h)
gate-monotone hi {a = false} f g h = cc

-- A face that holds at an assignment holds at each that is more determined.
pub holds-monotone : (f : Face) (σ τ : Assignment) → LessDetermined σ τ → holds f σ ≡ true → holds f τ ≡ true
unfolding holds
holds-monotone ff σ τ l h = h
holds-monotone ft σ τ l h = h
holds-monotone (at e n) σ τ l h = below-is (l n) e h
holds-monotone (fand a b) σ τ l h = gate-monotone hi (holds-monotone a σ τ l) (holds-monotone b σ τ l) h
holds-monotone (for a b) σ τ l h = gate-monotone lo (holds-monotone a σ τ l) (holds-monotone b σ τ l) h

-- The value of an expression at an assignment is below its value at each that is more determined.
pub value-monotone : (r : Interval) (σ τ : Assignment) → LessDetermined σ τ → Below (value r σ) (value r τ)
value-monotone r σ τ l =
    is_below (value r σ) (value r τ) (λ e h. sym (boundary-holds e r τ) ∙ holds-monotone (boundary e r) σ τ l (boundary-holds e r σ ∙ h))

-- Removing a place undoes inserting there.
pub remove-insert : (k : ℕ) (v : Val) (σ : Assignment) → remove k (insert k v σ) ≡ σ
remove-insert k v σ = fun_ext λ n. go n (compare n k) (stands n k)
  where
    go : (n : ℕ) (o : Ordering) → Compares o n k → insert k v σ (beside o n (suc n) (suc n)) ≡ σ n
    go n Ordering.lt h = rw compare-lt
    go n Ordering.eq h = rw (compare-gt (suc n) k (omega arith))
    go n Ordering.gt h = rw (compare-gt (suc n) k (omega arith))

-- A place above k that is lowered and raised is where it was.
pub raised-pred : (k n : ℕ) → k < n → raised k (pred n) ≡ n
raised-pred k n l = go (compare (pred n) k) (stands (pred n) k)
  where
    go : (o : Ordering) → Compares o (pred n) k → beside o (pred n) (suc (pred n)) (suc (pred n)) ≡ n
    go Ordering.lt h = absurd (omega arith)
    go Ordering.eq h = omega arith
    go Ordering.gt h = omega arith

-- An assignment with a place made undetermined is less determined than it was.
pub insert-remove-below : (k : ℕ) (σ : Assignment) → LessDetermined (insert k vu (remove k σ)) σ
insert-remove-below k σ n = go (compare n k) (stands n k)
  where
    go : (o : Ordering) → Compares o n k → Below (beside o (σ (beside o n (suc n) (suc n))) vu (σ (raised k (pred n)))) (σ n)
    go Ordering.lt h = same
    go Ordering.eq h = undetermined
    go Ordering.gt h = rw (raised-pred k n h) same

-- A face entails ∀k of another exactly if, with a place made at k, it entails the other.
pub forall-adjoint : (k : ℕ) (g f : Face) → Entails g (forall k f) ↔ Entails (ftransform (shift k) g) f
forall-adjoint k g f = (onto, from)
  where
    onto : Entails g (forall k f) → Entails (ftransform (shift k) g) f
    onto h σ p = holds-monotone f (insert k vu (remove k σ)) σ (insert-remove-below k σ) (rw forall-holds at (h (remove k σ) (rw ftransform-holds at p)))

    from : Entails (ftransform (shift k) g) f → Entails g (forall k f)
    from h σ p = rw forall-holds (h (insert k vu σ) (rw (ftransform-holds, remove-insert) p))
