-- The runs for boundary, endpoint, forall and transformations: each step that they append follows and keeps the limits, and the number is that of the judgement.
use mathlib.Core.Path.{◌≡◌, refl}
use mathlib.Core.Bool.{Bool}
use mathlib.Core.Option.{some}
use mathlib.Core.List.{List}
use Prim.Native.Nat.{ℕ, zero, suc, pred, ◌≤◌, ◌<◌, compare, Ordering}
use native.Mathlib.Omega.{arith}
use Rattle.formula.specs.declared.Sort.{Sort}
use Rattle.formula.specs.declared.Sort.TheVariants.{Faces, Intervals}
use Rattle.formula.specs.Formula.{End, lo, hi, Face, ff, ft, at, fand, for, Interval, i0, i1, dim, neg, meet, join, beside}
use Rattle.formula.specs.Operations
use Rattle.formula.specs.Operations.{Op, shift, subst, dim_to, itransform, ftransform}
use Rattle.formula.specs.Bytes.{Tree, nodes, bound, nodes_face, nodes_interval, bound_face, bound_interval, max_nodes, max_bound}
use Rattle.formula.proofs.Compare.{lt-of-compare, eq-of-compare, gt-of-compare}
use Rattle.formula.proofs.Meaning.{boundary-dim, forall-hit, forall_below, forall-above}
use Rattle.calculus.specs.Judgement.{Step, interval, local}
use Rattle.calculus.specs.Rules
use Rattle.calculus.specs.Emit.{find, run}
use Rattle.calculus.specs.Calls.{side, less, at_most, bounds, emit_boundary, emit_endpoint, foralls, emit_forall_at, emit_forall, transform, takes, transforms, emit_dimension, place_of, emit_intervals, emit_literal, emit_faces, emit_transform}
use Rattle.calculus.proofs.Growing.{Limited, is-i0, is-i1, IsEnd, extends-trans, keep, Good, next-good, end_of, ◌and◌, emit-good}
use Rattle.calculus.proofs.Ends.{local_at, fforall-hit, fforall-lt, fforall-gt, fshift-at, fsubst-at, takes-0, takes-1, takes-neg, takes-meet, takes-join, takes-ff, takes-ft, takes-and, takes-or}
use Rattle.calculus.proofs.Emitting.{comparison-good, interval-good, entails-good}

-- Sizes of results --------------------------------------------------------------------------

-- A boundary is no larger than its expression.
pub boundary-size : (e : End) (r : Interval) → (nodes_face (Operations.boundary e r) ≤ nodes_interval r) × (bound_face (Operations.boundary e r) ≤ bound_interval r)
unfolding Operations.boundary nodes_face nodes_interval bound_face bound_interval
boundary-size lo i0 = omega arith
boundary-size hi i0 = omega arith
boundary-size lo i1 = omega arith
boundary-size hi i1 = omega arith
boundary-size e (dim n) = omega arith
boundary-size lo (neg r) = omega (arith, boundary-size hi r)
boundary-size hi (neg r) = omega (arith, boundary-size lo r)
boundary-size lo (meet r s) = omega (arith, boundary-size lo r, boundary-size lo s)
boundary-size hi (meet r s) = omega (arith, boundary-size hi r, boundary-size hi s)
boundary-size lo (join r s) = omega (arith, boundary-size lo r, boundary-size lo s)
boundary-size hi (join r s) = omega (arith, boundary-size hi r, boundary-size hi s)

-- forall makes no face larger.
pub forall-size : (k : ℕ) (f : Face) → (nodes_face (Operations.forall k f) ≤ nodes_face f) × (bound_face (Operations.forall k f) ≤ bound_face f)
unfolding Operations.forall nodes_face bound_face
forall-size k ff = omega arith
forall-size k ft = omega arith
forall-size k (at e n) = go (compare n k)
  where
    go : (o : Ordering) → (nodes_face (beside o (at e n) ff (at e (pred n))) ≤ 1) × (bound_face (beside o (at e n) ff (at e (pred n))) ≤ suc n)
    go Ordering.lt = omega arith
    go Ordering.eq = omega arith
    go Ordering.gt = omega arith
forall-size k (fand a b) = omega (arith, forall-size k a, forall-size k b)
forall-size k (for a b) = omega (arith, forall-size k a, forall-size k b)

-- A formula keeps the limits.
abbrev pub Small : (s : Sort) → Tree s → Type 0
Small s t = (nodes s t ≤ max_nodes) × (bound s t ≤ max_bound)

-- An operation keeps the limits.
abbrev pub SmallOp : Op → Type 0
SmallOp (shift k) = k < max_bound
SmallOp (subst k t) = (k < max_bound) × Small Intervals t

-- The judgement of a transformation keeps the limits.
takes-limited : (s : Sort) (o : Op) (t u : Tree s) → SmallOp o → Small s t → Small s u → Limited (takes s o t u)
takes-limited Faces (shift k) f g p q r = omega arith
takes-limited Faces (subst k t) f g p q r = omega arith
takes-limited Intervals (shift k) x y p q r = omega arith
takes-limited Intervals (subst k t) x y p q r = omega arith

-- A boundary by its end.
side-boundary : (e : End) (r : Interval) → Operations.boundary e r ≡ side e (Operations.boundary lo r) (Operations.boundary hi r)
side-boundary lo r = refl
side-boundary hi r = refl

end-of-side : (e : End) → IsEnd (side e i0 i1)
end-of-side lo = is-i0
end-of-side hi = is-i1

bounds-limited : (r : Interval) → Small Intervals r → Limited (bounds r)
bounds-limited r h = omega (arith, boundary-size lo r, boundary-size hi r)

foralls-limited : (k : ℕ) (f : Face) → k < max_bound → Small Faces f → Limited (foralls k f)
foralls-limited k f p h = omega (arith, forall-size k f)

local-limited : (d : ℕ) (phi : Face) (r : Interval) (e : End) → d ≤ max_bound → Small Faces phi → Small Intervals r → Limited (local d phi r (side e i0 i1))
local-limited d phi r e p q h = (p, (q, (h, (end-of-side e, tt))))

-- What a dimension becomes keeps the limits where the operation, the dimension and the transformed literal do.
pub dim_to-small : (o : Op) (e : End) (n : ℕ) → SmallOp o → n < max_bound → Small Faces (ftransform o (at e n)) → Small Intervals (dim_to o n)
unfolding ftransform Operations.boundary nodes_face bound_face nodes_interval bound_interval
dim_to-small (shift k) e n p q h = omega arith
dim_to-small (subst k t) e n p q h = go (compare n k)
  where
    go : (c : Ordering) → Small Intervals (beside c (dim n) t (dim (pred n)))
    go Ordering.lt = omega arith
    go Ordering.eq = p.1
    go Ordering.gt = omega arith

pub dim-small : (n : ℕ) → n < max_bound → Small Intervals (dim n)
unfolding nodes_interval bound_interval
dim-small n h = omega arith

-- A dimension alone is transformed to what it becomes.
pub itransform-dim : (o : Op) (n : ℕ) → Small Intervals (dim_to o n) → Small Intervals (itransform o (dim n))
unfolding itransform
itransform-dim o n h = h

module _ (room : List Step → Bool) where
  pub boundary-good : (r : Interval) → Small Intervals r → (L : List Step) → Good (bounds r) L (run room (emit_boundary r) L)
  unfolding run emit_boundary Operations.boundary nodes_interval bound_interval
  boundary-good i0 h L = emit-good room end_of Rules.boundary-0 (bounds-limited i0 h)
  boundary-good i1 h L = emit-good room end_of Rules.boundary-1 (bounds-limited i1 h)
  boundary-good (dim n) h L = emit-good room end_of Rules.boundary-dim (bounds-limited (dim n) h)
  boundary-good (neg r) h L = next-good (boundary-good r (omega arith) L) (λ i M x f. emit-good room (f and end_of) Rules.boundary-neg (bounds-limited (neg r) h))
  boundary-good (meet r s) h L =
      next-good (boundary-good r (omega arith) L) (λ i M x f.
      next-good (boundary-good s (omega arith) M) (λ k N y g.
      emit-good room (keep (bounds r) i y f and g and end_of) Rules.boundary-meet (bounds-limited (meet r s) h)))
  boundary-good (join r s) h L =
      next-good (boundary-good r (omega arith) L) (λ i M x f.
      next-good (boundary-good s (omega arith) M) (λ k N y g.
      emit-good room (keep (bounds r) i y f and g and end_of) Rules.boundary-join (bounds-limited (join r s) h)))

  pub endpoint-good : (d : ℕ) (phi : Face) (r : Interval) (e : End) → d ≤ max_bound → Small Faces phi → Small Intervals r
      → (L : List Step) → Good (local d phi r (side e i0 i1)) L (run room (emit_endpoint d phi r e) L)
  unfolding run emit_endpoint
  endpoint-good d phi r e p q h L =
      let z = boundary-size e r in
      next-good (interval-good room d r p h.0 h.1 L) (λ i M x f.
      next-good (boundary-good r h M) (λ k N y g.
      next-good (entails-good room d phi (Operations.boundary e r) p q.0 q.1 (omega arith) (omega arith) N) (λ l O z u.
      emit-good room (keep (interval d r) i (extends-trans y z) f and keep (bounds r) k z g and u and end_of) (rw (side-boundary e r) (local_at e)) (local-limited d phi r e p q h))))

  forall-at : (k : ℕ) (e : End) (n : ℕ) (o : Ordering) → compare n k ≡ o → k < max_bound → n < max_bound → Limited (foralls k (at e n))
      → (L : List Step) → Good (foralls k (at e n)) L (run room (emit_forall_at k e n o) L)
  unfolding run
  forall-at k e n Ordering.lt c p q l L =
      next-good (comparison-good room less n k (omega arith) (omega arith) L) (λ i M x f. emit-good room (f and end_of) (rw (forall_below e n k (lt-of-compare n k c)) (fforall-lt e)) l)
  forall-at k e n Ordering.eq c p q l L = emit-good room end_of (rw (eq-of-compare n k c, forall-hit) (fforall-hit e)) l
  forall-at k e zero Ordering.gt c p q l L = absurd (omega (arith, gt-of-compare 0 k c))
  forall-at k e (suc n) Ordering.gt c p q l L =
      next-good (comparison-good room less k (suc n) (omega arith) (omega arith) L) (λ i M x f.
      emit-good room (f and end_of) (rw (forall-above e (suc n) k (gt-of-compare (suc n) k c)) (fforall-gt e)) l)

  pub forall-good : (k : ℕ) (f : Face) → k < max_bound → Small Faces f → (L : List Step) → Good (foralls k f) L (run room (emit_forall k f) L)
  unfolding run emit_forall Operations.forall nodes_face bound_face
  forall-good k ff p h L = emit-good room end_of Rules.fforall-ff (foralls-limited k ff p h)
  forall-good k ft p h L = emit-good room end_of Rules.fforall-ft (foralls-limited k ft p h)
  forall-good k (at e n) p h L = forall-at k e n (compare n k) refl p (omega arith) (foralls-limited k (at e n) p h) L
  forall-good k (fand a b) p h L =
      next-good (forall-good k a p (omega arith) L) (λ i M x f.
      next-good (forall-good k b p (omega arith) M) (λ l N y g.
      emit-good room (keep (foralls k a) i y f and g and end_of) Rules.fforall-and (foralls-limited k (fand a b) p h)))
  forall-good k (for a b) p h L =
      next-good (forall-good k a p (omega arith) L) (λ i M x f.
      next-good (forall-good k b p (omega arith) M) (λ l N y g.
      emit-good room (keep (foralls k a) i y f and g and end_of) Rules.fforall-or (foralls-limited k (for a b) p h)))

  dimension-good : (o : Op) (n : ℕ) (c : Ordering) → compare n (place_of o) ≡ c → SmallOp o → n < max_bound → Limited (transforms Intervals o (dim n))
      → (L : List Step) → Good (transforms Intervals o (dim n)) L (run room (emit_dimension o n c) L)
  unfolding run itransform
  dimension-good (shift k) n Ordering.lt c p q l L =
      next-good (comparison-good room less n k (omega arith) (omega arith) L) (λ i M x f. emit-good room (f and end_of) (rw c Rules.ishift-dim-lt) l)
  dimension-good (shift k) n Ordering.eq c p q l L =
      next-good (comparison-good room at_most k n (omega arith) (omega arith) L) (λ i M x f. emit-good room (f and end_of) (rw c Rules.ishift-dim-ge) l)
  dimension-good (shift k) n Ordering.gt c p q l L =
      next-good (comparison-good room at_most k n (omega arith) (omega arith) L) (λ i M x f. emit-good room (f and end_of) (rw c Rules.ishift-dim-ge) l)
  dimension-good (subst k t) n Ordering.lt c p q l L =
      next-good (comparison-good room less n k (omega arith) (omega arith) L) (λ i M x f. emit-good room (f and end_of) (rw c Rules.isubst-dim-lt) l)
  dimension-good (subst k t) n Ordering.eq c p q l L = emit-good room end_of (rw c (rw (eq-of-compare n k c) Rules.isubst-dim-hit)) l
  dimension-good (subst k t) zero Ordering.gt c p q l L = absurd (omega (arith, gt-of-compare 0 k c))
  dimension-good (subst k t) (suc n) Ordering.gt c p q l L =
      next-good (comparison-good room less k (suc n) (omega arith) (omega arith) L) (λ i M x f. emit-good room (f and end_of) (rw c Rules.isubst-dim-gt) l)

  -- Where a formula and its transform keep the limits, so do their parts.
  pub intervals-good : (o : Op) (r : Interval) → SmallOp o → Small Intervals r → Small Intervals (itransform o r)
      → (L : List Step) → Good (transforms Intervals o r) L (run room (emit_intervals o r) L)
  unfolding run emit_intervals itransform nodes_interval bound_interval
  intervals-good o i0 p h g L = emit-good room end_of (takes-0 o) (takes-limited Intervals o i0 i0 p h g)
  intervals-good o i1 p h g L = emit-good room end_of (takes-1 o) (takes-limited Intervals o i1 i1 p h g)
  intervals-good o (dim n) p h g L = dimension-good o n (compare n (place_of o)) refl p (omega arith) (takes-limited Intervals o (dim n) (itransform o (dim n)) p h g) L
  intervals-good o (neg r) p h g L =
      next-good (intervals-good o r p (omega arith) (omega arith) L) (λ i M x f.
      emit-good room (f and end_of) (takes-neg o r (itransform o r)) (takes-limited Intervals o (neg r) (itransform o (neg r)) p h g))
  intervals-good o (meet r s) p h g L =
      next-good (intervals-good o r p (omega arith) (omega arith) L) (λ i M x f.
      next-good (intervals-good o s p (omega arith) (omega arith) M) (λ l N y u.
      emit-good room (keep (transforms Intervals o r) i y f and u and end_of) (takes-meet o r s (itransform o r) (itransform o s)) (takes-limited Intervals o (meet r s) (itransform o (meet r s)) p h g)))
  intervals-good o (join r s) p h g L =
      next-good (intervals-good o r p (omega arith) (omega arith) L) (λ i M x f.
      next-good (intervals-good o s p (omega arith) (omega arith) M) (λ l N y u.
      emit-good room (keep (transforms Intervals o r) i y f and u and end_of) (takes-join o r s (itransform o r) (itransform o s)) (takes-limited Intervals o (join r s) (itransform o (join r s)) p h g)))

  literal-good : (o : Op) (e : End) (n i : ℕ) → Small Intervals (dim_to o n) → Limited (transforms Faces o (at e n))
      → (L : List Step) → find (transforms Intervals o (dim n)) L ≡ some i → Good (transforms Faces o (at e n)) L (run room (emit_literal o e n i) L)
  unfolding run itransform ftransform
  literal-good (shift k) e n i h l L f = emit-good room (f and end_of) (rw (boundary-dim e) (fshift-at e)) l
  literal-good (subst k t) e n i h l L f =
      next-good (boundary-good (dim_to (subst k t) n) h L) (λ m M x g.
      emit-good room (keep (transforms Intervals (subst k t) (dim n)) i x f and g and end_of) (rw (side-boundary e (dim_to (subst k t) n)) (fsubst-at e)) l)

  pub faces-good : (o : Op) (f : Face) → SmallOp o → Small Faces f → Small Faces (ftransform o f)
      → (L : List Step) → Good (transforms Faces o f) L (run room (emit_faces o f) L)
  unfolding run emit_faces ftransform nodes_face bound_face
  faces-good o ff p h g L = emit-good room end_of (takes-ff o) (takes-limited Faces o ff ff p h g)
  faces-good o ft p h g L = emit-good room end_of (takes-ft o) (takes-limited Faces o ft ft p h g)
  faces-good o (at e n) p h g L =
      let d = dim_to-small o e n p h.1 g in
      next-good (intervals-good o (dim n) p (dim-small n h.1) (itransform-dim o n d) L) (λ i M x f.
      literal-good o e n i d (takes-limited Faces o (at e n) (ftransform o (at e n)) p h g) M f)
  faces-good o (fand a b) p h g L =
      next-good (faces-good o a p (omega arith) (omega arith) L) (λ i M x f.
      next-good (faces-good o b p (omega arith) (omega arith) M) (λ l N y u.
      emit-good room (keep (transforms Faces o a) i y f and u and end_of) (takes-and o a b (ftransform o a) (ftransform o b)) (takes-limited Faces o (fand a b) (ftransform o (fand a b)) p h g)))
  faces-good o (for a b) p h g L =
      next-good (faces-good o a p (omega arith) (omega arith) L) (λ i M x f.
      next-good (faces-good o b p (omega arith) (omega arith) M) (λ l N y u.
      emit-good room (keep (transforms Faces o a) i y f and u and end_of) (takes-or o a b (ftransform o a) (ftransform o b)) (takes-limited Faces o (for a b) (ftransform o (for a b)) p h g)))

  pub transform-good : (s : Sort) (o : Op) (t : Tree s) → SmallOp o → Small s t → Small s (transform s o t)
      → (L : List Step) → Good (transforms s o t) L (run room (emit_transform s o t) L)
  transform-good Faces o f p h g L = faces-good o f p h g L
  transform-good Intervals o r p h g L = intervals-good o r p h g L
