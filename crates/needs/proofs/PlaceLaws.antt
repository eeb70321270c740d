-- Faces in bytes, at places: where their parts stand and end, and what a literal there is.
use Prim.Native.Nat.{ℕ, ◌+◌, ◌-◌, ◌*◌, ◌≤◌, ◌<◌}
use native.Mathlib.Omega.{arith}
use mathlib.Core.Path.{◌≡◌, ap, ◌∙◌}
use mathlib.Core.List.{List, ◌++◌}
use lib.ListN.{length, get_or, drop}
use Rattle.formula.specs.Formula.{End, lo, hi, Face, at}
use Rattle.formula.specs.Bytes.{dim_width, dim_at, encode_face}
use Rattle.clauses.specs.Normal.{numbered}
use Rattle.literals.proofs.FaceLaws.{PartsAt, kind-inside, leaf-at, literal-at, parts_at}
use Rattle.needs.specs.Places.{Stands, Ends}

-- The place behind a constant, and behind a literal.
module _ (f : List ℕ) (i : ℕ) where
  pub leaf-ends : get_or f i 0 < 2 → Ends f i (i + 1)
  leaf-ends h t rest e = omega (arith, (leaf-at f i t rest e h).ends)

  pub literal-ends : 2 ≤ get_or f i 0 → get_or f i 0 < 4 → Ends f i (i + 1 + dim_width)
  literal-ends h k t rest e = omega (arith, (literal-at f i t rest e h k).ends)

-- The place behind the first of two parts, where the second stands, and behind both.
module _ (f : List ℕ) (i : ℕ) {j : ℕ} (h : 4 ≤ get_or f i 0) (A : Ends f (i + 1) j) where
  module _ (t : Face) (rest : List ℕ) (e : drop i f ≡ encode_face t ++ rest) where
    abbrev p : PartsAt f i t rest
    p = parts_at f i t rest e h

    middle : j ≡ i + 1 + length (encode_face p.left)
    middle = A p.left (encode_face p.right ++ rest) p.first

    pub second : drop j f ≡ encode_face p.right ++ rest
    second = ap (λ n. drop n f) middle ∙ p.second

  pub parts-end : {k : ℕ} → Ends f j k → Ends f i k
  parts-end B t rest e = omega (arith, middle t rest e, B (p t rest e).right rest (second t rest e), (p t rest e).ends)

-- A face that stands at a place, and its parts.
module _ {f : List ℕ} {i : ℕ} (q : Stands f i) where
  pub stands-inside : i < length f
  stands-inside = kind-inside f i q.face q.rest q.bytes

  pub literal-inside : 2 ≤ get_or f i 0 → get_or f i 0 < 4 → i + 1 + dim_width ≤ length f
  literal-inside h k = (literal-at f i q.face q.rest q.bytes h k).fits

  abbrev pub parts : 4 ≤ get_or f i 0 → PartsAt f i q.face q.rest
  parts h = parts_at f i q.face q.rest q.bytes h

  abbrev pub first-stands : 4 ≤ get_or f i 0 → Stands f (i + 1)
  first-stands h = record { face = (parts h).left; rest = encode_face (parts h).right ++ q.rest; bytes = (parts h).first }

  pub second-behind : {j : ℕ} → 4 ≤ get_or f i 0 → Ends f (i + 1) j → i < j
  second-behind h e = omega (arith, middle f i h e q.face q.rest q.bytes)

  abbrev pub second-stands : {j : ℕ} → 4 ≤ get_or f i 0 → Ends f (i + 1) j → Stands f j
  second-stands h e = record { face = (parts h).right; rest = q.rest; bytes = second f i h e q.face q.rest q.bytes }

-- The side of an end.
abbrev pub side_of : End → ℕ
side_of lo = 0
side_of hi = 1

-- A literal's dimension and side, by its number.
number-parts : (e : End) (n m k : ℕ) → k < 2 → numbered e n ≡ 2 * m + k → (n ≡ m) × (side_of e ≡ k)
number-parts lo n m k h p = (omega (arith, h, p), omega (arith, h, p))
number-parts hi n m k h p = (omega (arith, h, p), omega (arith, h, p))

module _ (f : List ℕ) (i : ℕ) (h : 2 ≤ get_or f i 0) (k : get_or f i 0 < 4) where
  -- Its dimension and side, of whichever face stands there.
  pub literal-is : (t : Face) (rest : List ℕ) → drop i f ≡ encode_face t ++ rest → (e : End) × (t ≡ at e (dim_at f (i + 1))) × (side_of e ≡ get_or f i 0 - 2)
  literal-is t rest p =
      let s = literal-at f i t rest p h k in
      let q = number-parts s.side s.dimension (dim_at f (i + 1)) (get_or f i 0 - 2) (omega (arith, h, k)) s.number in
      (s.side, s.face ∙ ap (at s.side) q.0, q.1)
