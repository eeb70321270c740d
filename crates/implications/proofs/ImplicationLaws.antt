-- The emitters of entails and endpoint.
use Prim.Native.Nat.{ℕ, ◌≤◌}
use native.Mathlib.Omega.{arith}
use mathlib.Core.Path.{◌≡◌, refl, sym, ap, ap₂, ◌∙◌}
use mathlib.Core.List.{List, [], ◌∷◌, ◌++◌, append-nil}
use lib.ListN.{length, length-append}
use Rattle.formula.specs.declared.Sort.TheVariants.{Faces, Intervals}
use Rattle.formula.specs.Formula.{End, lo, hi, Face, Interval, i0, i1}
use Rattle.formula.specs.Operations
use Rattle.formula.specs.Bytes.{dim_bytes, encode, encode_face, encode_interval}
use Rattle.calculus.specs.Judgement.{interval, entails, local}
use Rattle.calculus.specs.Rules.{Rule}
use Rattle.calculus.specs.Search.{nodes_context}
use Rattle.calculus.specs.Record.{faces_bytes, bound_context, operand_bytes}
use Rattle.calculus.specs.Calls.{side, emit_interval, emit_face, emit_cover, emit_entails, bounds, emit_boundary, emit_endpoint}
use Rattle.calculus.proofs.Growing.{IsEnd, is-i0, is-i1, Limited}
use Rattle.calculus.proofs.Ends.{local_at}
use Rattle.steps.specs.Trees.{Is, Known}
use Rattle.formula.specs.Answers.{tree_of}
use Rattle.steps.proofs.TreeLaws.{tree-of, is-short}
use Rattle.boundary_steps.specs.Programs.{Sides}
use Rattle.boundary_steps.proofs.BoundaryLaws.{side-is}
use Rattle.contexts.specs.Contexts.{Are, context_of, Sound}
use Rattle.contexts.proofs.AfterLaws.{after-three}
use Rattle.contexts.proofs.ContextLaws.{context-of, context-as}

-- One face alone is a context.
one-face : {f : Face} {l : List ℕ} → Is Faces f l → Are (f ∷ []) 1 l
unfolding faces_bytes nodes_context bound_context
one-face {f} h = record { bytes = h.bytes ∙ sym (append-nil (encode_face f)); count = refl; few = omega (arith, h.few); low = omega (arith, h.low) }

pub context-one : {l : List ℕ} → Known Faces l → Sound 1 l
context-one h = context-as (one-face h)

-- That the face of the bytes a entails that of b.
module _ {d : ℕ} {f g : Face} {a b : List ℕ} (u : Is Faces f a) (v : Is Faces g b) where
  pub entails-program : emit_entails d f g ≡ after-three (emit_face d f) (emit_face d g) (emit_cover (context_of 1 a) g) 30 (entails d f g)
  unfolding emit_entails
  entails-program = ap (λ (G : List Face). after-three (emit_face d f) (emit_face d g) (emit_cover G g) 30 (entails d f g)) (sym (context-of (one-face u)))

  pub entails-limited : d ≤ 255 → Limited (entails d f g)
  entails-limited h = (h, ((u.few, u.low), ((v.few, v.low), tt)))

  pub entails-bytes : {c : List ℕ} → c ≡ dim_bytes d → operand_bytes (entails d f g) ≡ c ++ (a ++ b)
  entails-bytes e = sym (ap₂ (λ (x y : List ℕ). x ++ y) e (ap₂ (λ (x y : List ℕ). x ++ y) u.bytes v.bytes))

  pub entails-short : {c : List ℕ} → c ≡ dim_bytes d → length (c ++ (a ++ b)) ≤ 4096
  entails-short {c} e = omega (arith, ap length e, is-short u, is-short v, length-append c (a ++ b), length-append a b)

-- The bytes of the face of an end.
pub goal-at : (e : End) {r x zero one : List ℕ} → x ≡ side e zero one → Sides r zero one → x ≡ encode Faces (Operations.boundary e (tree_of Intervals r))
goal-at lo i s = i ∙ s.zeros
goal-at hi i s = i ∙ s.ones

-- That an interval is this end where the face of the bytes p holds.
pub local-rule : (e : End) {d : ℕ} {f : Face} {r : Interval} → Rule (side e 37 38) (interval d r ∷ bounds r ∷ entails d f (Operations.boundary e r) ∷ []) (local d f r (side e i0 i1))
local-rule lo = local_at lo
local-rule hi = local_at hi

is-end : (e : End) → IsEnd (side e i0 i1)
is-end lo = is-i0
is-end hi = is-i1

module _ {d : ℕ} (e : End) {f : Face} {p r : List ℕ} (u : Is Faces f p) (v : Known Intervals r) where
  pub endpoint-program : {x : List ℕ} → x ≡ encode Faces (Operations.boundary e (tree_of Intervals r))
      → emit_endpoint d f (tree_of Intervals r) e ≡ after-three (emit_interval d (tree_of Intervals r)) (emit_boundary (tree_of Intervals r)) (emit_entails d f (tree_of Faces x)) (side e 37 38) (local d f (tree_of Intervals r) (side e i0 i1))
  unfolding emit_endpoint
  endpoint-program {x} i =
      ap (λ (g : Face). after-three (emit_interval d (tree_of Intervals r)) (emit_boundary (tree_of Intervals r)) (emit_entails d f g) (side e 37 38) (local d f (tree_of Intervals r) (side e i0 i1))) (sym (tree-of (side-is e v i)))

  pub local-limited : d ≤ 255 → Limited (local d f (tree_of Intervals r) (side e i0 i1))
  local-limited h = (h, ((u.few, u.low), ((v.few, v.low), (is-end e, tt))))

  pub local-bytes : operand_bytes (local d f (tree_of Intervals r) (side e i0 i1)) ≡ dim_bytes d ++ (p ++ (r ++ encode Intervals (side e i0 i1)))
  local-bytes = sym (ap₂ (λ (x y : List ℕ). dim_bytes d ++ (x ++ (y ++ encode Intervals (side e i0 i1)))) u.bytes v.bytes)

-- Its operands as parts.
pub local-operands : {d : ℕ} {c x : List ℕ} (e : End) (p r : List ℕ) → c ≡ dim_bytes d → x ≡ encode Intervals (side e i0 i1) → c ++ (p ++ (r ++ x)) ≡ dim_bytes d ++ (p ++ (r ++ encode Intervals (side e i0 i1)))
local-operands e p r i j = ap₂ (λ (y z : List ℕ). y ++ (p ++ (r ++ z))) i j

end-short : (e : End) → length (encode Intervals (side e i0 i1)) ≡ 1
unfolding encode_interval
end-short lo = refl
end-short hi = refl

pub local-short : {d : ℕ} {c x : List ℕ} (e : End) (p r : List ℕ) → length p ≤ 1022 → length r ≤ 1022 → c ≡ dim_bytes d → x ≡ encode Intervals (side e i0 i1) → length (c ++ (p ++ (r ++ x))) ≤ 4096
local-short {c = c} {x} e p r h k i j = omega (arith, ap length i, ap length j, end-short e, length-append c (p ++ (r ++ x)), length-append p (r ++ x), length-append r x)
