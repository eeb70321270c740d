-- A face of a context, where it lies and what is left without it.
use Prim.Native.Nat.{ℕ, zero, suc, ◌+◌, ◌-◌, ◌≤◌, ◌<◌}
use native.Mathlib.Omega.{arith}
use mathlib.Core.Path.{◌≡◌, refl, sym, ap, ap₂, ◌∙◌}
use mathlib.Core.List.{List, [], ◌∷◌, ◌++◌, append_assoc}
use lib.ListN.{length, get_or, take, drop, length-append, length-drop, take-append-drop}
use lib.Seq.{take_all, length-take-le, drop-append_seam, take_at, drop_at, split_at, sets, length-sets, sets-eq}
use Rattle.formula.specs.declared.Sort.TheVariants.{Faces}
use Rattle.formula.specs.Formula.{Face, ff}
use Rattle.formula.specs.Bytes.{encode_face, read, bound_face}
use Rattle.formula.specs.Answers.{bytes_of, part_at}
use Rattle.formula.proofs.Reading.{read-encode}
use Rattle.calculus.specs.Search.{nodes_context}
use Rattle.calculus.specs.Record.{faces_bytes, bound_context}
use Rattle.calculus.proofs.Searching.{left_out, nodes-left-out}
use Rattle.records.proofs.NumberLaws.{sets-append}
use Rattle.contexts.specs.declared.context.Context.{Context}
use Rattle.contexts.specs.Contexts.{Are, leave, cut, At}
use Rattle.contexts.specs.Faces.{faces_of, First}
use Rattle.contexts.proofs.ContextLaws.{context-short, tail}

pub faces-append : (b a : List Face) → faces_bytes (b ++ a) ≡ faces_bytes b ++ faces_bytes a
unfolding faces_bytes
faces-append [] a = refl
faces-append (f ∷ b) a = ap (λ (m : List ℕ). encode_face f ++ m) (faces-append b a) ∙ sym (append_assoc (encode_face f) (faces_bytes b) (faces_bytes a))

-- Where a face begins ------------------------------------------------------------------------

pub offset-zero : (i : ℕ) (G : List Face) → i ≡ 0 → 0 ≡ length (faces_bytes (take i G))
unfolding faces_bytes
offset-zero zero G e = refl
offset-zero (suc i) G e = absurd (omega arith)

one_more : (i : ℕ) (f : Face) (H : List Face) → (i ≡ 0 → ⊥) → faces_bytes (take i (f ∷ H)) ≡ encode_face f ++ faces_bytes (take (i - 1) H)
unfolding faces_bytes
one_more zero f H z = absurd (z refl)
one_more (suc i) f H z = let e : i ≡ suc i - 1 = omega arith in ap (λ (k : ℕ). encode_face f ++ faces_bytes (take k H)) e

pub offset-none : (i : ℕ) {G : List Face} → G ≡ [] → 0 ≡ length (faces_bytes (take i G))
unfolding faces_bytes
offset-none zero e = refl
offset-none (suc i) e = sym (ap (λ (G : List Face). length (faces_bytes (take (suc i) G))) e)

pub offset_up : {g d : Context} {h : List ℕ} (v : First g h d) (i : ℕ) {r : ℕ} → (i ≡ 0 → ⊥) → r ≡ length (faces_bytes (take (i - 1) (faces_of d))) → length h + r ≡ length (faces_bytes (take i (faces_of g)))
offset_up {g} {d} {h} v i z e =
    let q : faces_bytes (take i (faces_of g)) ≡ h ++ faces_bytes (take (i - 1) (faces_of d)) =
    ap (λ (K : List Face). faces_bytes (take i K)) v.whole ∙ one_more i v.first (faces_of d) z ∙ ap (λ (m : List ℕ). m ++ faces_bytes (take (i - 1) (faces_of d))) (sym v.face.bytes) in
    omega (arith, e, ap length q, length-append h (faces_bytes (take (i - 1) (faces_of d))))

pub prefix-short : {G : List Face} {n : ℕ} {g : List ℕ} → Are G n g → (i : ℕ) → length (faces_bytes (take i G)) ≤ 1022
prefix-short {G} {g} w i =
    let q : g ≡ faces_bytes (take i G) ++ faces_bytes (drop i G) = w.bytes ∙ ap faces_bytes (sym (take-append-drop i G)) ∙ faces-append (take i G) (drop i G) in
    omega (arith, context-short w, ap length q, length-append (faces_bytes (take i G)) (faces_bytes (drop i G)))

-- A context without a face ---------------------------------------------------------------------

module _ {G : List Face} {i at n : ℕ} {x g : List ℕ} (w : At G i x at n g) where
  at-bytes : g ≡ faces_bytes (take i G) ++ (x ++ faces_bytes (drop (suc i) G))
  unfolding faces_bytes
  at-bytes =
      w.whole.bytes ∙ ap faces_bytes (split_at G i ff (omega (arith, w.inside, w.whole.count))) ∙ faces-append (take i G) (get_or G i ff ∷ drop (suc i) G)
      ∙ ap (λ (m : List ℕ). faces_bytes (take i G) ++ (m ++ faces_bytes (drop (suc i) G))) (sym w.out.bytes)

  pub at-end : at + length x ≤ length g
  at-end = omega (arith, w.place, ap length at-bytes, length-append (faces_bytes (take i G)) (x ++ faces_bytes (drop (suc i) G)), length-append x (faces_bytes (drop (suc i) G)))

  pub at_cut : cut at (at + length x) g ≡ faces_bytes (leave i G)
  at_cut =
      let B = faces_bytes (take i G) in
      let A = faces_bytes (drop (suc i) G) in
      let e : g ≡ (B ++ x) ++ A = at-bytes ∙ sym (append_assoc B x A) in
      let k : length (B ++ x) ≡ at + length x = omega (arith, length-append B x, w.place) in
      ap₂ (λ (y z : List ℕ). y ++ z) (ap (take at) at-bytes ∙ take_at B (x ++ A) at (sym w.place)) (ap (drop (at + length x)) e ∙ drop_at (B ++ x) A (at + length x) k)
      ∙ sym (faces-append (take i G) (drop (suc i) G))

  pub cut_short : length (cut at (at + length x) g) ≤ 1022
  cut_short = omega (arith, context-short w.whole, at-end, length-append (take at g) (drop (at + length x) g), length-take-le at g (omega (arith, at-end)), length-drop (at + length x) g)

bound_of : (b : List Face) (f : Face) (a : List Face) → bound_face f ≤ bound_context (b ++ f ∷ a)
unfolding bound_context
bound_of [] f a = omega arith
bound_of (x ∷ b) f a = omega (arith, bound_of b f a)

-- The bytes of the face number i, read where it begins.
pub at_of : {G : List Face} {i at n : ℕ} {x g : List ℕ} → Are G n g → i < n → at ≡ length (faces_bytes (take i G)) → x ≡ part_at Faces g at → At G i x at n g
unfolding part_at faces_bytes nodes_context bound_context
at_of {G} {i} {at} {n} {x} {g} w h e p =
    let b = take i G in
    let f = get_or G i ff in
    let a = drop (suc i) G in
    let s = split_at G i ff (omega (arith, w.count)) in
    let q : g ≡ faces_bytes b ++ (encode_face f ++ faces_bytes a) = w.bytes ∙ ap faces_bytes s ∙ faces-append b (f ∷ a) in
    let r : x ≡ encode_face f = p ∙ ap (part_at Faces g) e ∙ ap (λ (m : List ℕ). bytes_of Faces (read Faces (drop (length (faces_bytes b)) m))) q
    ∙ ap (λ (m : List ℕ). bytes_of Faces (read Faces m)) (drop-append_seam (faces_bytes b) (encode_face f ++ faces_bytes a)) ∙ ap (bytes_of Faces) (read-encode Faces f (faces_bytes a)) in
    let v = left_out b f a in
    record {
      whole = w;
      inside = h;
      out = record { bytes = r; few = omega (arith, w.few, ap nodes_context s, nodes-left-out v); low = omega (arith, w.low, ap bound_context s, bound_of b f a) };
      place = e;
    }

pub tail-length : (k : ℕ) (l : List ℕ) → length (tail k l) ≡ length l - k
tail-length k l = length-take-le (length l - k) (drop k l) (omega (arith, length-drop k l)) ∙ refl

-- Three parts, written one behind the other.
pub three-written : (z a b c z₁ z₂ z₃ : List ℕ) (i j n : ℕ) → i ≡ length a → j ≡ length a + length b → n ≡ length a + length b + length c → n ≤ length z → z₁ ≡ sets z 0 a → z₂ ≡ sets z₁ i b → z₃ ≡ sets z₂ j c
    → (n ≤ length z₃) × (take n z₃ ≡ a ++ (b ++ c))
three-written z a b c z₁ z₂ z₃ i j n p q r h e f k =
    let u : i ≡ 0 + length a = omega arith in
    let v : j ≡ 0 + length (a ++ b) = omega (arith, length-append a b) in
    let y₂ : z₂ ≡ sets z 0 (a ++ b) = f ∙ ap₂ (λ (d : List ℕ) (m : ℕ). sets d m b) e u ∙ sets-append a b z 0 in
    let y₃ : z₃ ≡ sets z 0 (a ++ (b ++ c)) = k ∙ ap₂ (λ (d : List ℕ) (m : ℕ). sets d m c) y₂ v ∙ sets-append (a ++ b) c z 0 ∙ ap (sets z 0) (append_assoc a b c) in
    let w : length (a ++ (b ++ c)) ≡ n = length-append a (b ++ c) ∙ omega (arith, length-append b c) in (
      omega (arith, ap length y₃, length-sets z 0 (a ++ (b ++ c))),
      ap (take n) (y₃ ∙ sets-eq (a ++ (b ++ c)) z 0 (omega (arith, w))) ∙ take_at (a ++ (b ++ c)) (drop (0 + length (a ++ (b ++ c))) z) n w,
    )

-- A context without a face, written.
module _ (front g : List ℕ) (at end : ℕ) (p : at ≤ end) (q : end ≤ length g) where
  pub cut-length : length (cut at end g) ≡ at + (length g - end)
  cut-length = length-append (take at g) (drop end g) ∙ omega (arith, length-take-le at g (omega arith), length-drop end g)

  pub leave-writes : (z z₁ z₂ z₃ : List ℕ) → length front + length (cut at end g) ≤ length z → z₁ ≡ sets z 0 front → z₂ ≡ sets z₁ (length front) (take at g) → z₃ ≡ sets z₂ (length front + at) (tail end g)
      → (length front + at + (length g - end) ≤ length z₃) × (take (length front + at + (length g - end)) z₃ ≡ front ++ cut at end g)
  leave-writes z z₁ z₂ z₃ h e f k =
      let t : tail end g ≡ drop end g = take_all (length g - end) (drop end g) (omega (arith, length-drop end g)) in
      let m = length-take-le at g (omega arith) in
      three-written z front (take at g) (drop end g) z₁ z₂ z₃ (length front) (length front + at) (length front + at + (length g - end)) refl (omega (arith, m)) (omega (arith, m, length-drop end g)) (omega (arith, cut-length)) e f (k ∙ ap (sets z₂ (length front + at)) t)
