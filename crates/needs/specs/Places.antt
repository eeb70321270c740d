-- Faces in bytes, at places.
use Rattle.std.specs.Prelude.{ℕ, ◌+◌, ◌≡◌, List, ◌++◌, length, drop}
use Rattle.formula.specs.Formula.{Face}
use Rattle.formula.specs.Bytes.{encode_face}

-- A face stands in the bytes at a place.
pub record Stands (f : List ℕ) (i : ℕ) : Type 0 where
  pub face : Face
  pub rest : List ℕ
  pub bytes : drop i f ≡ encode_face face ++ rest

-- A face that stands at i ends at j.
abbrev pub Ends : List ℕ → ℕ → ℕ → Type 0
Ends f i j = (t : Face) (rest : List ℕ) → drop i f ≡ encode_face t ++ rest → j ≡ i + length (encode_face t)
