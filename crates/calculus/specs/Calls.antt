-- The programs of the calls, after the methods of the Rust and in their order (document 01, "Calls").
use Rattle.std.specs.Prelude.{List, [], ◌∷◌, ◌++◌}
use Prim.Native.Nat.{ℕ, zero, suc, ◌+◌, compare, Ordering}
use Rattle.formula.specs.declared.Sort.{Sort}
use Rattle.formula.specs.declared.Sort.TheVariants.{Faces, Intervals}
use Rattle.formula.specs.Formula.{End, lo, hi, Face, ff, ft, at, fand, for, Interval, i0, i1, dim, neg, meet, join}
use Rattle.formula.specs.Operations
use Rattle.formula.specs.Operations.{Op, shift, subst, dim_to}
use Rattle.formula.specs.Bytes.{Tree, nodes_face}
pub use Rattle.formula.specs.Operations.{transform}
use Rattle.calculus.specs.Judgement.{Judgement, lt, le, interval, face, member, take, cover, entails, boundary, local, fforall, ishift, isubst, fshift, fsubst, same_face}
use Rattle.calculus.specs.Search.{Move, by-top, by-hit, by-absurd, by-clash, by-and-left, by-or-left, by-and-right, by-or-right, stuck, move, nodes_context}
use Rattle.calculus.specs.Emit.{not-below, not-implied, Program, stop, emit, ◌>>=◌, attempt}

-- The first at the zero end, the second at the one end.
abbrev pub side : {A : Type 0} → End → A → A → A
side lo a b = a
side hi a b = b

-- The first for a shift, the second for a substitution.
abbrev pub which : {A : Type 0} → Op → A → A → A
which (shift k) a b = a
which (subst k t) a b = b

-- `comparison`, strict or not --------------------------------------------------------------

-- A comparison is strict or not.
pub data Order : Type 0 where
  less at_most : Order

-- Its judgement.
abbrev pub compared : Order → ℕ → ℕ → Judgement
compared less m n = lt m n
compared at_most m n = le m n

-- Zero compared with n, by rule z.
abbrev pub from_zero : Order → ℕ → Program
from_zero less zero = stop not-below
from_zero less (suc n) = emit 1 [] (lt 0 (suc n))
from_zero at_most n = emit 3 [] (le 0 n)

-- The kind of rule s.
abbrev pub compared_kind : Order → ℕ
compared_kind less = 2
compared_kind at_most = 4

-- The judgement that m is less than n, or at most n; 8 where it is false.
unfoldable pub emit_comparison : Order → ℕ → ℕ → Program
emit_comparison o zero n = from_zero o n
emit_comparison o (suc m) zero = stop not-below
emit_comparison o (suc m) (suc n) = do
  i ← emit_comparison o m n
  emit (compared_kind o) (i ∷ []) (compared o (suc m) (suc n))

-- `interval` and `face` ----------------------------------------------------------------------

-- The judgement that all dimensions of r are below d; 8 at the first that is not.
unfoldable pub emit_interval : ℕ → Interval → Program
emit_interval d i0 = emit 5 [] (interval d i0)
emit_interval d i1 = emit 6 [] (interval d i1)
emit_interval d (dim n) = do
  i ← emit_comparison less n d
  emit 7 (i ∷ []) (interval d (dim n))
emit_interval d (neg r) = do
  i ← emit_interval d r
  emit 8 (i ∷ []) (interval d (neg r))
emit_interval d (meet r s) = do
  i ← emit_interval d r
  k ← emit_interval d s
  emit 9 (i ∷ k ∷ []) (interval d (meet r s))
emit_interval d (join r s) = do
  i ← emit_interval d r
  k ← emit_interval d s
  emit 10 (i ∷ k ∷ []) (interval d (join r s))

-- The judgement that all dimensions of f are below d; 8 at the first that is not.
unfoldable pub emit_face : ℕ → Face → Program
emit_face d ff = emit 11 [] (face d ff)
emit_face d ft = emit 12 [] (face d ft)
emit_face d (at e n) = do
  i ← emit_interval d (dim n)
  emit (side e 13 14) (i ∷ []) (face d (at e n))
emit_face d (fand a b) = do
  i ← emit_face d a
  k ← emit_face d b
  emit 15 (i ∷ k ∷ []) (face d (fand a b))
emit_face d (for a b) = do
  i ← emit_face d a
  k ← emit_face d b
  emit 16 (i ∷ k ∷ []) (face d (for a b))

-- `member`, `take` and `cover` ----------------------------------------------------------------

-- The first program if it is so, else the second.
abbrev pub if_so : {A : Type 0} → Dec A → Program → Program → Program
if_so (yes e) p q = p
if_so (no e) p q = q

-- The judgement that f is in the context, from its first place.
unfoldable pub emit_member : Face → List Face → Program
emit_member f [] = stop not-implied
emit_member f (g ∷ G) =
    if_so (same_face g f) (emit 17 [] (member f (g ∷ G))) (do
      i ← emit_member f G
      emit 18 (i ∷ []) (member f (g ∷ G)))

-- The judgement that x is left out from between the assumptions b before it and a after it.
unfoldable pub emit_take : List Face → Face → List Face → Program
emit_take [] x a = emit 19 [] (take (x ∷ a) x a)
emit_take (g ∷ b) x a = do
  i ← emit_take b x a
  emit 20 (i ∷ []) (take (g ∷ (b ++ x ∷ a)) x (g ∷ (b ++ a)))

-- A move of the search, by the programs for what it leaves to show.
abbrev pub emit_move : (List Face → Face → Program) → List Face → Face → Move → Program
emit_move c G g by-top = emit 21 [] (cover G g)
emit_move c G g by-hit = do
  i ← emit_member g G
  emit 22 (i ∷ []) (cover G g)
emit_move c G g by-absurd = do
  i ← emit_member ff G
  emit 23 (i ∷ []) (cover G g)
emit_move c G g (by-clash n) = do
  i ← emit_member (at lo n) G
  k ← emit_member (at hi n) G
  emit 24 (i ∷ k ∷ []) (cover G g)
emit_move c G g (by-and-left b x y a) = do
  t ← emit_take b (fand x y) a
  i ← c (x ∷ y ∷ (b ++ a)) g
  emit 25 (t ∷ i ∷ []) (cover G g)
emit_move c G g (by-or-left b x y a) = do
  t ← emit_take b (for x y) a
  i ← c (x ∷ (b ++ a)) g
  k ← c (y ∷ (b ++ a)) g
  emit 26 (t ∷ i ∷ k ∷ []) (cover G g)
emit_move c G g (by-and-right x y) = do
  i ← c G x
  k ← c G y
  emit 27 (i ∷ k ∷ []) (cover G g)
emit_move c G g (by-or-right x y) =
    attempt (c G x) (λ i. emit 28 (i ∷ []) (cover G g)) (do
      k ← c G y
      emit 29 (k ∷ []) (cover G g))
emit_move c G g stuck = stop not-implied

-- The search, at most n moves deep.
unfoldable pub emit_cover_in : ℕ → List Face → Face → Program
emit_cover_in zero G g = stop not-implied
emit_cover_in (suc n) G g = emit_move (emit_cover_in n) G g (move G g)

-- The search: it is never deeper than context and goal have nodes.
unfoldable pub emit_cover : List Face → Face → Program
emit_cover G g = emit_cover_in (nodes_context G + nodes_face g) G g

-- `entails`, `boundary` and `endpoint` --------------------------------------------------------

-- The judgement that a entails b over d: both faces, then the search with a alone.
unfoldable pub emit_entails : ℕ → Face → Face → Program
emit_entails d a b = do
  i ← emit_face d a
  k ← emit_face d b
  c ← emit_cover (a ∷ []) b
  emit 30 (i ∷ k ∷ c ∷ []) (entails d a b)

-- The boundary judgement of an expression.
abbrev pub bounds : Interval → Judgement
bounds r = boundary r (Operations.boundary lo r) (Operations.boundary hi r)

-- The boundary judgements of r and its parts.
unfoldable pub emit_boundary : Interval → Program
emit_boundary i0 = emit 31 [] (bounds i0)
emit_boundary i1 = emit 32 [] (bounds i1)
emit_boundary (dim n) = emit 33 [] (bounds (dim n))
emit_boundary (neg r) = do
  i ← emit_boundary r
  emit 34 (i ∷ []) (bounds (neg r))
emit_boundary (meet r s) = do
  i ← emit_boundary r
  k ← emit_boundary s
  emit 35 (i ∷ k ∷ []) (bounds (meet r s))
emit_boundary (join r s) = do
  i ← emit_boundary r
  k ← emit_boundary s
  emit 36 (i ∷ k ∷ []) (bounds (join r s))

-- The judgement that r is this end wherever phi holds.
unfoldable pub emit_endpoint : ℕ → Face → Interval → End → Program
emit_endpoint d phi r e = do
  i ← emit_interval d r
  k ← emit_boundary r
  l ← emit_entails d phi (Operations.boundary e r)
  emit (side e 37 38) (i ∷ k ∷ l ∷ []) (local d phi r (side e i0 i1))

-- `forall` ------------------------------------------------------------------------------------

-- The forall judgement of a face.
abbrev pub foralls : ℕ → Face → Judgement
foralls k f = fforall f k (Operations.forall k f)

-- A literal, by its dimension beside k: below, at, above.
abbrev pub emit_forall_at : ℕ → End → ℕ → Ordering → Program
emit_forall_at k e n Ordering.lt = do
  i ← emit_comparison less n k
  emit (side e 42 45) (i ∷ []) (foralls k (at e n))
emit_forall_at k e n Ordering.eq = emit (side e 41 44) [] (foralls k (at e n))
emit_forall_at k e n Ordering.gt = do
  i ← emit_comparison less k n
  emit (side e 43 46) (i ∷ []) (foralls k (at e n))

-- The forall judgements of f and its parts.
unfoldable pub emit_forall : ℕ → Face → Program
emit_forall k ff = emit 39 [] (foralls k ff)
emit_forall k ft = emit 40 [] (foralls k ft)
emit_forall k (at e n) = emit_forall_at k e n (compare n k)
emit_forall k (fand a b) = do
  i ← emit_forall k a
  l ← emit_forall k b
  emit 47 (i ∷ l ∷ []) (foralls k (fand a b))
emit_forall k (for a b) = do
  i ← emit_forall k a
  l ← emit_forall k b
  emit 48 (i ∷ l ∷ []) (foralls k (for a b))

-- `itransform` and `ftransform`, by the operation -----------------------------------------------

-- The judgement that an operation takes one formula to another.
abbrev pub takes : (s : Sort) → Op → Tree s → Tree s → Judgement
takes Faces (shift k) f g = fshift f k g
takes Faces (subst k t) f g = fsubst f k t g
takes Intervals (shift k) r s = ishift r k s
takes Intervals (subst k t) r s = isubst r k t s

-- The judgement of a transformation.
abbrev pub transforms : (s : Sort) → Op → Tree s → Judgement
transforms s o t = takes s o t (transform s o t)

-- A dimension, by its place beside the operation's: below, at, above.
abbrev pub emit_dimension : Op → ℕ → Ordering → Program
emit_dimension (shift k) n Ordering.lt = do
  i ← emit_comparison less n k
  emit 51 (i ∷ []) (transforms Intervals (shift k) (dim n))
emit_dimension (shift k) n Ordering.eq = do
  i ← emit_comparison at_most k n
  emit 52 (i ∷ []) (transforms Intervals (shift k) (dim n))
emit_dimension (shift k) n Ordering.gt = do
  i ← emit_comparison at_most k n
  emit 52 (i ∷ []) (transforms Intervals (shift k) (dim n))
emit_dimension (subst k t) n Ordering.lt = do
  i ← emit_comparison less n k
  emit 58 (i ∷ []) (transforms Intervals (subst k t) (dim n))
emit_dimension (subst k t) n Ordering.eq = emit 59 [] (transforms Intervals (subst k t) (dim n))
emit_dimension (subst k t) n Ordering.gt = do
  i ← emit_comparison less k n
  emit 60 (i ∷ []) (transforms Intervals (subst k t) (dim n))

-- The place of an operation.
abbrev pub place_of : Op → ℕ
place_of (shift k) = k
place_of (subst k t) = k

-- The judgements of a transformed interval and its parts.
unfoldable pub emit_intervals : Op → Interval → Program
emit_intervals o i0 = emit (which o 49 56) [] (transforms Intervals o i0)
emit_intervals o i1 = emit (which o 50 57) [] (transforms Intervals o i1)
emit_intervals o (dim n) = emit_dimension o n (compare n (place_of o))
emit_intervals o (neg r) = do
  i ← emit_intervals o r
  emit (which o 53 61) (i ∷ []) (transforms Intervals o (neg r))
emit_intervals o (meet r s) = do
  i ← emit_intervals o r
  l ← emit_intervals o s
  emit (which o 54 62) (i ∷ l ∷ []) (transforms Intervals o (meet r s))
emit_intervals o (join r s) = do
  i ← emit_intervals o r
  l ← emit_intervals o s
  emit (which o 55 63) (i ∷ l ∷ []) (transforms Intervals o (join r s))

-- A literal, once its dimension is transformed: a substitution asks for the boundary of what the dimension became.
abbrev pub emit_literal : Op → End → ℕ → ℕ → Program
emit_literal (shift k) e n i = emit (side e 66 67) (i ∷ []) (transforms Faces (shift k) (at e n))
emit_literal (subst k t) e n i = do
  l ← emit_boundary (dim_to (subst k t) n)
  emit (side e 72 73) (i ∷ l ∷ []) (transforms Faces (subst k t) (at e n))

-- The judgements of a transformed face and its parts.
unfoldable pub emit_faces : Op → Face → Program
emit_faces o ff = emit (which o 64 70) [] (transforms Faces o ff)
emit_faces o ft = emit (which o 65 71) [] (transforms Faces o ft)
emit_faces o (at e n) = do
  i ← emit_intervals o (dim n)
  emit_literal o e n i
emit_faces o (fand a b) = do
  i ← emit_faces o a
  l ← emit_faces o b
  emit (which o 68 74) (i ∷ l ∷ []) (transforms Faces o (fand a b))
emit_faces o (for a b) = do
  i ← emit_faces o a
  l ← emit_faces o b
  emit (which o 69 75) (i ∷ l ∷ []) (transforms Faces o (for a b))

-- The judgements of a transformed formula of either sort.
abbrev pub emit_transform : (s : Sort) → Op → Tree s → Program
emit_transform Faces o f = emit_faces o f
emit_transform Intervals o r = emit_intervals o r
