-- The emitter of transformations, once over the operation.
use Prim.Native.Nat.{ℕ, zero, suc, ◌+◌, ◌≤◌, ◌<◌, compare, Ordering}
use native.Mathlib.Omega.{arith}
use mathlib.Core.Path.{◌≡◌, refl, sym, ap, ap₂, ◌∙◌, subst as along, subst₂ as along₂}
use mathlib.Core.List.{List, [], ◌∷◌, ◌++◌}
use lib.ListN.{length, get_or}
use Rattle.formula.specs.declared.Sort.{Sort}
use Rattle.formula.specs.declared.Sort.TheVariants.{Faces, Intervals}
use Rattle.operations.specs.declared.Op.{Op as Asked}
use Rattle.operations.specs.declared.Op.TheVariants.{DShift, DSubst}
use Rattle.formula.specs.Operations.{Op, shift, subst, dim_to, itransform, ftransform, transform}
use Rattle.formula.specs.Bytes.{dim_bytes, node_of, encode_face, encode_interval, nodes_face, nodes_interval, bound_face, bound_interval}
use Rattle.formula.specs.Answers.{part_at, tree_of}
use Rattle.formula.specs.declared.Advance.TheVariants.{Lit}
use Rattle.formula.specs.declared.Place.{Place}
use Rattle.formula.specs.Formula.{End, lo, hi, Face, at, Interval, dim, beside}
use Rattle.formula.proofs.Compare.{compare-lt, compare-eq, compare-gt, lt-of-compare}
use Rattle.formula.proofs.Meaning.{boundary-dim}
use Rattle.formula.proofs.Nodes.{EachNode}
use Rattle.calculus.specs.Record.{operand_bytes}
use Rattle.calculus.specs.Judgement.{Judgement, lt, le}
use Rattle.calculus.specs.Rules
use Rattle.calculus.specs.Rules.{Rule}
use Rattle.calculus.specs.Emit.{Program, emit, ◌>>=◌}
use Rattle.calculus.specs.Calls.{side, at_most, emit_comparison, bounds, emit_boundary, place_of, transforms, emit_dimension, emit_intervals, emit_literal, emit_faces, emit_transform}
use Rattle.calculus.proofs.Ends.{fshift-at, fsubst-at, takes-0, takes-1, takes-neg, takes-meet, takes-join, takes-ff, takes-ft, takes-and, takes-or}
use Rattle.calculus.proofs.Growing.{Limited}
use Rattle.calculus.proofs.Calling.{SmallOp, dim_to-small, itransform-dim}
use Rattle.ledger.specs.Ledger.{steps_of}
use Rattle.std.specs.Prelude.{Ok, Err}
use Rattle.steps.specs.declared.Stop.{Stop}
use Rattle.steps.specs.Running.{Ran, Book, Runs, Emits}
use Rattle.steps.specs.Trees.{Is, Known, Literal}
use Rattle.transforms.specs.Transforms.{op_of, KnownOp, transform_bytes, transform_kind}
use Rattle.steps.proofs.RunLaws.{emits-by, emits-kind, runs-emit, runs-next, runs-stop, runs-below, runs-more}
use Rattle.steps.proofs.TreeLaws.{View, a-lit, tree-of}
use Rattle.steps.proofs.NodeLaws.{Law, AtLit, at-lit, AtOne, AtTwo, AtEnd, at-end, literal-end, end-kind, literal-view, literal-low}
use Rattle.steps.specs.Walking.{StandsAt, tree_at, KnownAt, behind_at, span}
use Rattle.steps.proofs.ResultLaws.{Pairs, Singles}
use Rattle.steps.proofs.PlaceLaws.{between-part}
use Rattle.steps.proofs.WalkLaws.{Beside}

-- The program and the rule at each kind byte.
face-laws : (o : Asked) (t : List ℕ) → EachNode Faces (Law Faces (emit_faces (op_of o t)) (transforms Faces (op_of o t)) (transform_kind Faces o))
unfolding emit_faces ftransform
face-laws (DShift k) t =
    let o = op_of (DShift k) t in
    record { at0 = (refl, takes-ff o); at1 = (refl, takes-ft o); at2 = tt; at3 = tt; at4 = λ x y. (refl, takes-and o x y _ _); at5 = λ x y. (refl, takes-or o x y _ _); none = λ b. tt }
face-laws (DSubst k) t =
    let o = op_of (DSubst k) t in
    record { at0 = (refl, takes-ff o); at1 = (refl, takes-ft o); at2 = tt; at3 = tt; at4 = λ x y. (refl, takes-and o x y _ _); at5 = λ x y. (refl, takes-or o x y _ _); none = λ b. tt }

interval-laws : (o : Asked) (t : List ℕ) → EachNode Intervals (Law Intervals (emit_intervals (op_of o t)) (transforms Intervals (op_of o t)) (transform_kind Intervals o))
unfolding emit_intervals itransform
interval-laws (DShift k) t =
    let o = op_of (DShift k) t in
    record { at0 = (refl, takes-0 o); at1 = (refl, takes-1 o); at2 = tt; at3 = λ x. (refl, takes-neg o x _); at4 = λ x y. (refl, takes-meet o x y _ _); at5 = λ x y. (refl, takes-join o x y _ _); none = λ b. tt }
interval-laws (DSubst k) t =
    let o = op_of (DSubst k) t in
    record { at0 = (refl, takes-0 o); at1 = (refl, takes-1 o); at2 = tt; at3 = λ x. (refl, takes-neg o x _); at4 = λ x y. (refl, takes-meet o x y _ _); at5 = λ x y. (refl, takes-join o x y _ _); none = λ b. tt }

pub transform-laws : (s : Sort) (o : Asked) (t : List ℕ) → EachNode s (Law s (emit_transform s (op_of o t)) (transforms s (op_of o t)) (transform_kind s o))
transform-laws Faces o t = face-laws o t
transform-laws Intervals o t = interval-laws o t

-- Its judgement keeps the limits, and its bytes are those of the operands.
module _ {f out : List ℕ} (t : List ℕ) where
  pub transforms-limited : (s : Sort) (o : Asked) → KnownOp o t → Known s f → Is s (transform s (op_of o t) (tree_of s f)) out → Limited (transforms s (op_of o t) (tree_of s f))
  transforms-limited Faces (DShift k) p h i = ((h.few, h.low), (p, ((i.few, i.low), tt)))
  transforms-limited Faces (DSubst k) p h i = ((h.few, h.low), (p.0, ((p.1.few, p.1.low), ((i.few, i.low), tt))))
  transforms-limited Intervals (DShift k) p h i = ((h.few, h.low), (p, ((i.few, i.low), tt)))
  transforms-limited Intervals (DSubst k) p h i = ((h.few, h.low), (p.0, ((p.1.few, p.1.low), ((i.few, i.low), tt))))

  pub transforms-bytes : (s : Sort) (o : Asked) → KnownOp o t → Known s f → Is s (transform s (op_of o t) (tree_of s f)) out → operand_bytes (transforms s (op_of o t) (tree_of s f)) ≡ transform_bytes o f t out
  transforms-bytes Faces (DShift k) p h i = sym (ap₂ (λ (x y : List ℕ). x ++ (dim_bytes k ++ y)) h.bytes i.bytes)
  transforms-bytes Faces (DSubst k) p h i = sym (ap₂ (λ (x y : List ℕ). x ++ (dim_bytes k ++ y)) h.bytes (ap₂ (λ (x y : List ℕ). x ++ y) p.1.bytes i.bytes))
  transforms-bytes Intervals (DShift k) p h i = sym (ap₂ (λ (x y : List ℕ). x ++ (dim_bytes k ++ y)) h.bytes i.bytes)
  transforms-bytes Intervals (DSubst k) p h i = sym (ap₂ (λ (x y : List ℕ). x ++ (dim_bytes k ++ y)) h.bytes (ap₂ (λ (x y : List ℕ). x ++ y) p.1.bytes i.bytes))

-- The results of the parts.
pub transform-two : (s : Sort) (o : Op) → EachNode s (AtTwo s (Pairs s s (transform s o)))
unfolding ftransform itransform encode_face encode_interval nodes_face nodes_interval bound_face bound_interval
transform-two Faces o = record { at0 = tt; at1 = tt; at2 = tt; at3 = tt; at4 = λ x y. record { byte = 4; made = record { bytes = refl; count = refl; top = refl } }; at5 = λ x y. record { byte = 5; made = record { bytes = refl; count = refl; top = refl } }; none = λ b. tt }
transform-two Intervals o = record { at0 = tt; at1 = tt; at2 = tt; at3 = tt; at4 = λ x y. record { byte = 20; made = record { bytes = refl; count = refl; top = refl } }; at5 = λ x y. record { byte = 21; made = record { bytes = refl; count = refl; top = refl } }; none = λ b. tt }

pub transform-one : (s : Sort) (o : Op) → EachNode s (AtOne s (Singles s s (transform s o)))
unfolding itransform encode_interval nodes_interval bound_interval
transform-one Faces o = record { at0 = tt; at1 = tt; at2 = tt; at3 = tt; at4 = tt; at5 = tt; none = λ b. tt }
transform-one Intervals o = record { at0 = tt; at1 = tt; at2 = tt; at3 = λ x. record { byte = 19; made = record { bytes = refl; count = refl; top = refl } }; at4 = tt; at5 = tt; none = λ b. tt }

-- A dimension: the program by the place of n beside the operation's.
pub data AtDim (f : List ℕ) (n : ℕ) : Interval → Type 0 where
  at-dim : get_or f 0 0 ≡ 18 → AtDim f n (dim n)

record IsDim (b : ℕ) (g : ℕ → Interval) : Type 0 where
  byte : b ≡ 18
  made : (n : ℕ) → g n ≡ dim n

is-dim : EachNode Intervals (AtLit Intervals IsDim)
is-dim = record { at0 = tt; at1 = tt; at2 = record { byte = refl; made = λ n. refl }; at3 = tt; at4 = tt; at5 = tt; none = λ b. tt }

pub literal-dim : {f : List ℕ} {q : Place} {n : ℕ} (t : Interval) → View Intervals f t (Lit q n) → AtDim f n t
literal-dim {f} t (a-lit b n g e j) =
    let k = at-lit Intervals IsDim is-dim b g e in
    along (AtDim f n) (sym (k.made n)) (at-dim (ap (λ (x : List ℕ). get_or x 0 0) j ∙ k.byte))

dim-program : (o : Op) (n : ℕ) (c : Ordering) → compare n (place_of o) ≡ c → emit_intervals o (dim n) ≡ emit_dimension o n c
unfolding emit_intervals
dim-program o n c e = ap (emit_dimension o n) e

-- A comparison, then its step.
pub dim-stop : {l l₁ : Book} {f : List ℕ} {x : Stop} {n : ℕ} (o : Op) (c : Ordering) (p : Program) (κ : ℕ) → compare n (place_of o) ≡ c → emit_dimension o n c ≡ (p >>= λ i. emit κ (i ∷ []) (transforms Intervals o (dim n)))
    → (t : Interval) → AtDim f n t → Runs l p (Err x) l₁ → Runs l (emit_intervals o t) (Err x) l₁
dim-stop {l} {l₁} {x = x} {n} o c p κ e g t (at-dim b) h =
    along (λ (w : Program). Runs l w (Err x) l₁) (sym (dim-program o n c e ∙ g)) (runs-stop (λ i. emit κ (i ∷ []) (transforms Intervals o (dim n))) h refl)

pub dim-runs : {l l₁ l₂ : Book} {f x : List ℕ} {s : Ran} {n i j z : ℕ} (m : ℕ) (a : Asked) (o : Op) (c : Ordering) (p : Program) (κ : ℕ) (q : Judgement) → compare n (place_of o) ≡ c
    → emit_dimension o n c ≡ (p >>= λ i. emit κ (i ∷ []) (transforms Intervals o (dim n))) → Rule κ (q ∷ []) (transforms Intervals o (dim n)) → transform_kind Intervals a 18 + m ≡ κ
    → (t : Interval) → AtDim f n t → Limited (transforms Intervals o t) → operand_bytes (transforms Intervals o t) ≡ x → Runs l p (Ok i) l₁
    → Emits l₁ (transform_kind Intervals a (get_or f 0 0) + m) (i ∷ j ∷ z ∷ []) x s l₂ → Runs l (emit_intervals o t) s l₂
dim-runs {l} {l₂ = l₂} {s = s} {n} m a o c p κ q e g rule k t (at-dim b) lim ops h w =
    along (λ (w : Program). Runs l w s l₂) (sym (dim-program o n c e ∙ g)) (runs-emit h refl refl (emits-kind (ap (λ (v : ℕ). transform_kind Intervals a v + m) b ∙ k) w) rule lim ops)

-- The rules of a dimension.
pub shift-below : (k n : ℕ) → n < k → Rule 51 (lt n k ∷ []) (transforms Intervals (shift k) (dim n))
unfolding itransform
shift-below k n h = rw (compare-lt n k h) Rules.ishift-dim-lt

-- A shift asks only whether n is below k.
pub shift-program : (k n : ℕ) → k ≤ n → emit_dimension (shift k) n (compare n k) ≡ (emit_comparison at_most k n >>= λ i. emit 52 (i ∷ []) (transforms Intervals (shift k) (dim n)))
shift-program k n h = go (compare n k) refl
  where
    go : (c : Ordering) → compare n k ≡ c → emit_dimension (shift k) n c ≡ (emit_comparison at_most k n >>= λ i. emit 52 (i ∷ []) (transforms Intervals (shift k) (dim n)))
    go Ordering.lt e = absurd (omega (arith, lt-of-compare n k e))
    go Ordering.eq e = refl
    go Ordering.gt e = refl

shift-raised : (k n : ℕ) → k ≤ n → itransform (shift k) (dim n) ≡ dim (suc n)
unfolding itransform
shift-raised k n h = go (compare n k) refl
  where
    go : (c : Ordering) → compare n k ≡ c → dim (beside c n (suc n) (suc n)) ≡ dim (suc n)
    go Ordering.lt e = absurd (omega (arith, lt-of-compare n k e))
    go Ordering.eq e = refl
    go Ordering.gt e = refl

pub shift-above : (k n : ℕ) → k ≤ n → Rule 52 (le k n ∷ []) (transforms Intervals (shift k) (dim n))
shift-above k n h = rw (shift-raised k n h) Rules.ishift-dim-ge

pub subst-below : (k n : ℕ) (t : Interval) → n < k → Rule 58 (lt n k ∷ []) (transforms Intervals (subst k t) (dim n))
unfolding itransform
subst-below k n t h = rw (compare-lt n k h) Rules.isubst-dim-lt

pub subst-above : (k n : ℕ) (t : Interval) → k < n → Rule 60 (lt k n ∷ []) (transforms Intervals (subst k t) (dim n))
unfolding itransform
subst-above k zero t h = absurd (omega arith)
subst-above k (suc n) t h = rw (compare-gt (suc n) k h) Rules.isubst-dim-gt

subst-rule : (k n : ℕ) (t : Interval) → n ≡ k → Rule 59 [] (transforms Intervals (subst k t) (dim n))
unfolding itransform
subst-rule k n t h = rw (h, compare-eq k) Rules.isubst-dim-hit

pub dim-hit : {l l₁ : Book} {f x : List ℕ} {r : Ran} {n i j z : ℕ} (k : ℕ) (u t : Interval) → n ≡ k → AtDim f n t → Limited (transforms Intervals (subst k u) t) → operand_bytes (transforms Intervals (subst k u) t) ≡ x
    → Emits l (transform_kind Intervals (DSubst k) (get_or f 0 0) + 1) (i ∷ j ∷ z ∷ []) x r l₁ → Runs l (emit_intervals (subst k u) t) r l₁
dim-hit {l} {l₁} {r = r} {n} k u t h (at-dim b) lim ops w =
    along (λ (w : Program). Runs l w r l₁) (sym (dim-program (subst k u) n Ordering.eq (ap (λ (m : ℕ). compare m k) h ∙ compare-eq k)))
    (emits-by (emits-kind (ap (λ (v : ℕ). transform_kind Intervals (DSubst k) v + 1) b) w) (subst-rule k n u h) [] refl tt lim refl ops)

-- A face literal: the steps of its dimension, then by the operation ------------------------------

-- The node of its dimension.
node-is : {x : List ℕ} {n : ℕ} → n < 255 → x ≡ 18 ∷ dim_bytes n → Is Intervals (dim n) x
unfolding encode_interval nodes_interval bound_interval
node-is h e = record { bytes = e; few = omega arith; low = omega arith }

pub node-literal : {x : List ℕ} {n : ℕ} → x ≡ 18 ∷ dim_bytes n → Literal Intervals n x
unfolding node_of
node-literal {n = n} e = along (Literal Intervals n) (sym e) (record { place = record { at = 2; pending = 0 }; steps = refl })

small-op : (t : List ℕ) (a : Asked) → KnownOp a t → SmallOp (op_of a t)
small-op t (DShift k) p = p
small-op t (DSubst k) p = (p.0, (p.1.few, p.1.low))

-- What the dimension becomes keeps the limits.
image-small : {f out x : List ℕ} {n : ℕ} (t : List ℕ) (a : Asked) → KnownOp a t → n < 255 → Is Intervals (dim n) x → (u : Face) → AtEnd f n u → Is Faces (ftransform (op_of a t) u) out
    → Is Intervals (itransform (op_of a t) (tree_of Intervals x)) (encode_interval (itransform (op_of a t) (tree_of Intervals x)))
image-small {n = n} t a p b h u (at-end e g) i =
    let o = op_of a t in
    let z = itransform-dim o n (dim_to-small o e n (small-op t a p) b (i.few, i.low)) in
    along (λ (y : Interval). Is Intervals (itransform o y) (encode_interval (itransform o y))) (sym (tree-of h)) (record { bytes = refl; few = z.0; low = z.1 })

module _ {f : List ℕ} {n : ℕ} (h : Known Faces f) (k : Literal Faces n f) where
  pub face-end : AtEnd f n (tree_of Faces f)
  face-end = literal-end (tree_of Faces f) (literal-view h k)

  pub face-low : n < 255
  face-low = literal-low (tree_of Faces f) (literal-view h k) h

  pub face-node : {x : List ℕ} → x ≡ 18 ∷ dim_bytes n → Is Intervals (dim n) x
  face-node e = node-is face-low e

  pub image-is : {out x : List ℕ} (t : List ℕ) (a : Asked) → KnownOp a t → x ≡ 18 ∷ dim_bytes n → Is Faces (ftransform (op_of a t) (tree_of Faces f)) out
      → Is Intervals (itransform (op_of a t) (tree_of Intervals x)) (encode_interval (itransform (op_of a t) (tree_of Intervals x)))
  image-is t a p e i = image-small t a p face-low (face-node e) (tree_of Faces f) face-end i

pub node-runs : {l l₁ : Book} {x : List ℕ} {r : Ran} {n : ℕ} (o : Op) → Is Intervals (dim n) x → Runs l (emit_intervals o (tree_of Intervals x)) r l₁ → Runs l (emit_intervals o (dim n)) r l₁
node-runs {l} {l₁} {r = r} o h w = along (λ (y : Interval). Runs l (emit_intervals o y) r l₁) (tree-of h) w

pub image-runs : {l l₁ : Book} {x y : List ℕ} {r : Ran} {n : ℕ} (o : Op) → Is Intervals (dim n) x → Is Intervals (itransform o (tree_of Intervals x)) y → Runs l (emit_boundary (tree_of Intervals y)) r l₁ → Runs l (emit_boundary (dim_to o n)) r l₁
unfolding itransform
image-runs {l} {l₁} {r = r} {n} o h i w =
    let e : tree_of Intervals _ ≡ itransform o (dim n) = tree-of i ∙ ap (itransform o) (tree-of h) in
    along (λ (z : Interval). Runs l (emit_boundary z) r l₁) e w

shift-literal : (k n : ℕ) (e : End) → Rule (side e 66 67) (transforms Intervals (shift k) (dim n) ∷ []) (transforms Faces (shift k) (at e n))
unfolding itransform ftransform
shift-literal k n e = rw (boundary-dim e) (fshift-at e)

subst-literal : (k n : ℕ) (t : Interval) (e : End) → Rule (side e 72 73) (transforms Intervals (subst k t) (dim n) ∷ bounds (dim_to (subst k t) n) ∷ []) (transforms Faces (subst k t) (at e n))
unfolding itransform ftransform
subst-literal k n t lo = fsubst-at lo
subst-literal k n t hi = fsubst-at hi

pub face-stop : {l l₁ : Book} {f : List ℕ} {x : Stop} {n : ℕ} (o : Op) (u : Face) → AtEnd f n u → Runs l (emit_intervals o (dim n)) (Err x) l₁ → Runs l (emit_faces o u) (Err x) l₁
unfolding emit_faces
face-stop {n = n} o u (at-end e g) h = runs-stop (emit_literal o e n) h refl

pub face-shift : {l l₁ l₂ : Book} {f x : List ℕ} {s : Ran} {n i j z : ℕ} (t : List ℕ) (a : Asked) (k : ℕ) → a ≡ DShift k → (u : Face) → AtEnd f n u → Limited (transforms Faces (op_of a t) u) → operand_bytes (transforms Faces (op_of a t) u) ≡ x
    → Runs l (emit_intervals (op_of a t) (dim n)) (Ok i) l₁ → Emits l₁ (transform_kind Faces a (get_or f 0 0) + 0) (i ∷ j ∷ z ∷ []) x s l₂ → Runs l (emit_faces (op_of a t) u) s l₂
unfolding emit_faces
face-shift {f = f} {n = n} t (DShift k) m q u (at-end e g) lim ops h w =
    runs-emit h refl refl (emits-kind (end-kind (λ (b : ℕ). transform_kind Faces (DShift k) b + 0) e (get_or f 0 0) 66 67 g refl refl) w) (shift-literal k n e) lim ops
face-shift t (DSubst k) m q u v lim ops h w = absurd (let z : ◌≡◌ {A = ℕ} 0 1 = cc in omega arith)

-- A substitution: the boundary of what the dimension becomes, then the literal's own step.
pub face-subst-stop : {l l₁ l₂ : Book} {f : List ℕ} {x : Stop} {n i : ℕ} (t : List ℕ) (a : Asked) (k : ℕ) → a ≡ DSubst k → (u : Face) → AtEnd f n u
    → Runs l (emit_intervals (op_of a t) (dim n)) (Ok i) l₁ → Runs l₁ (emit_boundary (dim_to (op_of a t) n)) (Err x) l₂ → Runs l (emit_faces (op_of a t) u) (Err x) l₂
unfolding emit_faces
face-subst-stop t (DShift k) m q u v h b = absurd (let z : ◌≡◌ {A = ℕ} 0 1 = cc in omega arith)
face-subst-stop {n = n} {i} t (DSubst k) m q u (at-end e g) h b =
    let o = subst k (tree_of Intervals t) in
    runs-next (emit_literal o e n) h refl (runs-stop (λ j. emit (side e 72 73) (i ∷ j ∷ []) (transforms Faces o (at e n))) b refl)

pub face-subst : {l l₁ l₂ l₃ : Book} {f x : List ℕ} {s : Ran} {n i j z : ℕ} (t : List ℕ) (a : Asked) (k : ℕ) → a ≡ DSubst k → (u : Face) → AtEnd f n u → Limited (transforms Faces (op_of a t) u) → operand_bytes (transforms Faces (op_of a t) u) ≡ x
    → Runs l (emit_intervals (op_of a t) (dim n)) (Ok i) l₁ → Runs l₁ (emit_boundary (dim_to (op_of a t) n)) (Ok j) l₂
    → Emits l₂ (transform_kind Faces a (get_or f 0 0) + 0) (i ∷ j ∷ z ∷ []) x s l₃ → Runs l (emit_faces (op_of a t) u) s l₃
unfolding emit_faces
face-subst t (DShift k) m q u v lim ops h b w = absurd (let z : ◌≡◌ {A = ℕ} 0 1 = cc in omega arith)
face-subst {l₂ = l₂} {l₃} {f} {x} {s} {n} {i} {j} {z} t (DSubst k) m q u (at-end e g) lim ops h b w =
    let o = subst k (tree_of Intervals t) in
    let w' : Emits l₂ (side e 72 73) (i ∷ j ∷ z ∷ []) x s l₃ = emits-kind (end-kind (λ (b : ℕ). transform_kind Faces (DSubst k) b + 0) e (get_or f 0 0) 72 73 g refl refl) w in
    let below : i < length (steps_of l₂.bytes) = omega (arith, runs-below h refl, runs-more b) in
    runs-next (emit_literal o e n) h refl
    (runs-next (λ j. emit (side e 72 73) (i ∷ j ∷ []) (transforms Faces o (at e n))) b refl
    (emits-by w' (subst-literal k n (tree_of Intervals t) e) (i ∷ j ∷ []) refl (below, (runs-below b refl, tt)) lim refl ops))

-- What is known, and what is run, where the operation or the sort is told.
pub told_is : {out : List ℕ} (f t : List ℕ) (s : Sort) (a b : Asked) → a ≡ b → Is s (transform s (op_of a t) (tree_of s f)) out → Is s (transform s (op_of b t) (tree_of s f)) out
told_is {out} f t s a b e i = along (λ (y : Asked). Is s (transform s (op_of y t) (tree_of s f)) out) e i

pub told-runs : {l l₁ : Book} {r : Ran} (f t : List ℕ) (s : Sort) (a b : Asked) → a ≡ b → Runs l (emit_transform s (op_of b t) (tree_of s f)) r l₁ → Runs l (emit_transform s (op_of a t) (tree_of s f)) r l₁
told-runs {l} {l₁} {r} f t s a b e h = along (λ (y : Asked). Runs l (emit_transform s (op_of y t) (tree_of s f)) r l₁) (sym e) h

pub record LiteralOf (s : Sort) (o : Op) (n : ℕ) (f out : List ℕ) : Type 0 where
  pub known : Known s f
  pub literal : Literal s n f
  pub result : Is s (transform s o (tree_of s f)) out

pub sort-told : {f out : List ℕ} {n : ℕ} (s z : Sort) (o : Op) → s ≡ z → Known s f → Literal s n f → Is s (transform s o (tree_of s f)) out → LiteralOf z o n f out
sort-told {f} {out} {n} s z o e h k i = along (λ (y : Sort). LiteralOf y o n f out) e (record { known = h; literal = k; result = i })

pub sort-runs : {l l₁ : Book} {r : Ran} (f : List ℕ) (s z : Sort) (o : Op) → s ≡ z → Runs l (emit_transform z o (tree_of z f)) r l₁ → Runs l (emit_transform s o (tree_of s f)) r l₁
sort-runs {l} {l₁} {r} f s z o e h = along (λ (y : Sort). Runs l (emit_transform y o (tree_of y f)) r l₁) (sym e) h

-- The formula at p, beside its result at q.
module _ {f out : List ℕ} {p q : Place} (s : Sort) (o : Asked) (t : List ℕ) (a : KnownOp o t) (h : KnownAt s f p) (g : StandsAt s (transform s (op_of o t) (tree_at s f p)) out q) where
  pub result-beside : Beside s (emit_transform s (op_of o t)) (transforms s (op_of o t)) (transform_kind s o) (λ x n. transform_bytes o x t (span q.at n out)) f p (behind_at s out q)
  result-beside =
      record {
        laws = transform-laws s o t;
        known = h;
        limited = transforms-limited t s o a h.is g.is;
        operands = λ x n e i. transforms-bytes t s o a h.is g.is ∙ sym (ap₂ (λ (y z : List ℕ). transform_bytes o y t z) e (between-part g refl i));
      }

  pub literal-image : {x y : List ℕ} {n : Place} → x ≡ part_at s f p.at → y ≡ span q.at n out → n ≡ behind_at s out q → Is s (transform s (op_of o t) (tree_of s x)) y
  literal-image e i j = along₂ (λ (x y : List ℕ). Is s (transform s (op_of o t) (tree_of s x)) y) (sym e) (sym (between-part g i j)) g.is

-- What is known of the operation that is told, and the operands.
pub place-of-shift : (t : List ℕ) (o : Asked) (k : ℕ) → o ≡ DShift k → KnownOp o t → k < 255
place-of-shift t o k e h = along (λ (x : Asked). KnownOp x t) e h

pub known-subst : (t : List ℕ) (o : Asked) (k : ℕ) → o ≡ DSubst k → KnownOp o t → (k < 255) × Known Intervals t
known-subst t o k e h = along (λ (x : Asked). KnownOp x t) e h

pub shift-operands : (f t out x : List ℕ) (o : Asked) (k : ℕ) → o ≡ DShift k → x ≡ dim_bytes k → f ++ (x ++ out) ≡ transform_bytes o f t out
shift-operands f t out x o k e h = ap (λ (y : List ℕ). f ++ (y ++ out)) h ∙ ap (λ (y : Asked). transform_bytes y f t out) (sym e)

pub subst-operands : (f t out x : List ℕ) (o : Asked) (k : ℕ) → o ≡ DSubst k → x ≡ dim_bytes k → f ++ (x ++ (t ++ out)) ≡ transform_bytes o f t out
subst-operands f t out x o k e h = ap (λ (y : List ℕ). f ++ (y ++ (t ++ out))) h ∙ ap (λ (y : Asked). transform_bytes y f t out) (sym e)
