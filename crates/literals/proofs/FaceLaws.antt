-- Bytes in which a face stands at a place: what its kind byte says of it, and where its parts stand.
-- These laws serve any recursion over the bytes of a face: leaf-at, literal-at and parts_at by the tests that tell the three apart.
use Prim.Native.Nat.{ℕ, suc, ◌+◌, ◌-◌, ◌*◌, ◌≤◌, ◌<◌}
use native.Mathlib.Omega.{arith}
use native.Mathlib.Nat.{add-zero}
use native.Mathlib.Decide.{ℕ_discrete}
use mathlib.Core.Path.{◌≡◌, refl, sym, ap, ◌∙◌}
use mathlib.Core.List.{List, ◌∷◌, ◌++◌, append_assoc}
use lib.ListN.{length, get_or, drop, length-append, length-drop}
use lib.Seq.{drop-drop, get_or-drop, drop-append_seam}
use Rattle.formula.specs.Formula.{End, lo, hi, Face, ff, ft, at, fand, for}
use Rattle.formula.specs.Bytes.{dim_width, dim_bytes, dim_at, encode_face}
use Rattle.formula.specs.declared.Sort.TheVariants.{Faces}
use Rattle.formula.proofs.Reading.{encode-pos}
use Rattle.clauses.specs.Normal.{numbered}

-- A constant.
pub record LeafAt (f : List ℕ) (i : ℕ) (t : Face) : Type 0 where
  pub empty : get_or f i 0 ≡ 0 → t ≡ ff
  pub full : (get_or f i 0 ≡ 0 → ⊥) → t ≡ ft
  pub ends : length (encode_face t) ≡ 1

-- A literal, with its number.
pub record LiteralAt (f : List ℕ) (i : ℕ) (t : Face) : Type 0 where
  pub side : End
  pub dimension : ℕ
  pub face : t ≡ at side dimension
  pub number : numbered side dimension ≡ 2 * dim_at f (i + 1) + (get_or f i 0 - 2)
  pub fits : i + 1 + dim_width ≤ length f
  pub ends : length (encode_face t) ≡ 1 + dim_width

-- A node over two parts, the one behind its kind byte and the other behind that one.
pub record PartsAt (f : List ℕ) (i : ℕ) (t : Face) (rest : List ℕ) : Type 0 where
  pub left : Face
  pub right : Face
  pub conjoined : get_or f i 0 ≡ 4 → t ≡ fand left right
  pub disjoined : (get_or f i 0 ≡ 4 → ⊥) → t ≡ for left right
  pub first : drop (i + 1) f ≡ encode_face left ++ (encode_face right ++ rest)
  pub second : drop (i + 1 + length (encode_face left)) f ≡ encode_face right ++ rest
  pub ends : length (encode_face t) ≡ 1 + length (encode_face left) + length (encode_face right)

-- A byte at a place, and what is behind it.
record ByteAt (f : List ℕ) (i b : ℕ) (l : List ℕ) : Type 0 where
  byte : get_or f i 0 ≡ b
  behind : drop (i + 1) f ≡ l
  fits : i < length f

byte_at : (f : List ℕ) (i : ℕ) {b : ℕ} {l : List ℕ} → drop i f ≡ b ∷ l → ByteAt f i b l
byte_at f i e = record {
  byte = ap (λ n. get_or f n 0) (sym (add-zero i)) ∙ sym (get_or-drop i f 0 0) ∙ ap (λ m. get_or m 0 0) e;
  behind = sym (drop-drop 1 i f) ∙ ap (drop 1) e;
  fits = omega (arith, length-drop i f, ap length e);
}

-- What follows a list at a place.
pub behind-at : (f : List ℕ) (i : ℕ) (l m : List ℕ) → drop i f ≡ l ++ m → drop (i + length l) f ≡ m
behind-at f i l m e = sym (drop-drop (length l) i f) ∙ ap (drop (length l)) e ∙ drop-append_seam l m

-- A dimension's field. No other law here goes by its width.
record FieldAt (f : List ℕ) (i n : ℕ) : Type 0 where
  dimension : dim_at f i ≡ n
  fits : i + dim_width ≤ length f

field_at : (f : List ℕ) (i : ℕ) {n : ℕ} {m : List ℕ} → drop i f ≡ dim_bytes n ++ m → FieldAt f i n
field_at f i e = let b = byte_at f i e in record { dimension = b.byte; fits = omega (arith, b.fits) }

-- The node at a place, with its kind byte.
data NodeAt (f : List ℕ) (i : ℕ) (rest : List ℕ) : ℕ → Face → Type 0 where
  empty : NodeAt f i rest 0 ff
  full : NodeAt f i rest 1 ft
  low : {n : ℕ} → FieldAt f (i + 1) n → NodeAt f i rest 2 (at lo n)
  high : {n : ℕ} → FieldAt f (i + 1) n → NodeAt f i rest 3 (at hi n)
  both : {a b : Face} → drop (i + 1) f ≡ encode_face a ++ (encode_face b ++ rest) → NodeAt f i rest 4 (fand a b)
  either : {a b : Face} → drop (i + 1) f ≡ encode_face a ++ (encode_face b ++ rest) → NodeAt f i rest 5 (for a b)

node_at : (f : List ℕ) (i : ℕ) (t : Face) (rest : List ℕ) → drop i f ≡ encode_face t ++ rest → NodeAt f i rest (get_or f i 0) t
unfolding encode_face
node_at f i ff rest e = rw (byte_at f i e).byte empty
node_at f i ft rest e = rw (byte_at f i e).byte full
node_at f i (at lo n) rest e = let s = byte_at f i e in rw s.byte (low (field_at f (i + 1) s.behind))
node_at f i (at hi n) rest e = let s = byte_at f i e in rw s.byte (high (field_at f (i + 1) s.behind))
node_at f i (fand a b) rest e = let s = byte_at f i e in rw s.byte (both (s.behind ∙ append_assoc (encode_face a) (encode_face b) rest))
node_at f i (for a b) rest e = let s = byte_at f i e in rw s.byte (either (s.behind ∙ append_assoc (encode_face a) (encode_face b) rest))

module _ (f : List ℕ) (i : ℕ) {rest : List ℕ} where
  leaf-by : {b : ℕ} {t : Face} → get_or f i 0 ≡ b → NodeAt f i rest b t → b < 2 → LeafAt f i t
  unfolding encode_face
  leaf-by p empty h = record { empty = λ e. refl; full = λ d. absurd (d p); ends = refl }
  leaf-by p full h = record { empty = λ e. absurd (omega (arith, p, e)); full = λ d. refl; ends = refl }
  leaf-by p (low s) h = absurd (omega (arith, h))
  leaf-by p (high s) h = absurd (omega (arith, h))
  leaf-by p (both s) h = absurd (omega (arith, h))
  leaf-by p (either s) h = absurd (omega (arith, h))

  literal-by : {b : ℕ} {t : Face} → get_or f i 0 ≡ b → NodeAt f i rest b t → 2 ≤ b → b < 4 → LiteralAt f i t
  unfolding encode_face
  literal-by p empty h k = absurd (omega (arith, h))
  literal-by p full h k = absurd (omega (arith, h))
  literal-by p (low {n} s) h k = record { side = lo; dimension = n; face = refl; number = omega (arith, p, s.dimension); fits = s.fits; ends = refl }
  literal-by p (high {n} s) h k = record { side = hi; dimension = n; face = refl; number = omega (arith, p, s.dimension); fits = s.fits; ends = refl }
  literal-by p (both s) h k = absurd (omega (arith, k))
  literal-by p (either s) h k = absurd (omega (arith, k))

  parts : {t : Face} (a b : Face) → drop (i + 1) f ≡ encode_face a ++ (encode_face b ++ rest) → (get_or f i 0 ≡ 4 → t ≡ fand a b) → ((get_or f i 0 ≡ 4 → ⊥) → t ≡ for a b) → length (encode_face t) ≡ suc (length (encode_face a ++ encode_face b)) → PartsAt f i t rest
  parts a b s c d n = record {
    left = a;
    right = b;
    conjoined = c;
    disjoined = d;
    first = s;
    second = behind-at f (i + 1) (encode_face a) (encode_face b ++ rest) s;
    ends = omega (arith, n, length-append (encode_face a) (encode_face b));
  }

  parts-by : {b : ℕ} {t : Face} → get_or f i 0 ≡ b → NodeAt f i rest b t → 4 ≤ b → PartsAt f i t rest
  unfolding encode_face
  parts-by p empty h = absurd (omega (arith, h))
  parts-by p full h = absurd (omega (arith, h))
  parts-by p (low s) h = absurd (omega (arith, h))
  parts-by p (high s) h = absurd (omega (arith, h))
  parts-by p (both {a} {b} s) h = parts a b s (λ e. refl) (λ d. absurd (d p)) refl
  parts-by p (either {a} {b} s) h = parts a b s (λ e. absurd (omega (arith, p, e))) (λ d. refl) refl

module _ (f : List ℕ) (i : ℕ) (t : Face) (rest : List ℕ) (e : drop i f ≡ encode_face t ++ rest) where
  -- Its kind byte stands there.
  pub kind-inside : i < length f
  kind-inside = omega (arith, length-drop i f, ap length e, length-append (encode_face t) rest, encode-pos Faces t)

  pub leaf-at : get_or f i 0 < 2 → LeafAt f i t
  leaf-at h = leaf-by f i refl (node_at f i t rest e) h

  pub literal-at : 2 ≤ get_or f i 0 → get_or f i 0 < 4 → LiteralAt f i t
  literal-at h k = literal-by f i refl (node_at f i t rest e) h k

  pub parts_at : 4 ≤ get_or f i 0 → PartsAt f i t rest
  parts_at h = parts-by f i refl (node_at f i t rest e) h

-- What a function makes alike of both constants, or of both nodes over two parts, it makes of the face.
pub leaf-same : {A : Type 0} (g : Face → A) {f : List ℕ} {i : ℕ} {t : Face} {x : A} → LeafAt f i t → g ff ≡ x → g ft ≡ x → g t ≡ x
leaf-same g {f} {i} {t} {x} s p q = by (ℕ_discrete (get_or f i 0) 0)
  where
    by : Dec (get_or f i 0 ≡ 0) → g t ≡ x
    by (yes h) = ap g (s.empty h) ∙ p
    by (no h) = ap g (s.full h) ∙ q

pub parts_same : {A : Type 0} (g : Face → A) {f : List ℕ} {i : ℕ} {t : Face} {rest : List ℕ} {x : A} (s : PartsAt f i t rest) → g (fand s.left s.right) ≡ x → g (for s.left s.right) ≡ x → g t ≡ x
parts_same g {f} {i} {t} {x = x} s p q = by (ℕ_discrete (get_or f i 0) 4)
  where
    by : Dec (get_or f i 0 ≡ 4) → g t ≡ x
    by (yes h) = ap g (s.conjoined h) ∙ p
    by (no h) = ap g (s.disjoined h) ∙ q
