-- The marks of the fands whose parts share no literal.
use Rattle.std.specs.Prelude.{ℕ, ◌≡◌, Bool, true, false, List, ◌++◌, length, get_or, drop}
use Rattle.formula.specs.Formula.{Face, fand}
use Rattle.formula.specs.Bytes.{encode_face}
use Rattle.needs.specs.Places.{Ends}
use Rattle.needs.specs.States.{occurs, Apart}

-- Where a mark is 1, the parts of a fand that stands there share no literal.
pub record Marks (f marks : List ℕ) : Type 0 where
  pub apart : (i : ℕ) (a b : Face) (rest : List ℕ) → get_or marks i 0 ≡ 1 → drop i f ≡ encode_face (fand a b) ++ rest → Apart a b

-- A literal of the face at i, which ends at j, passes a test, or each of them fails it.
pub record Finds (P : ℕ → ℕ → Bool → Type 0) (f : List ℕ) (i j : ℕ) (r : Bool) : Type 0 where
  pub ends : Ends f i j
  pub some : (t : Face) (rest : List ℕ) → drop i f ≡ encode_face t ++ rest → r ≡ true → (n : ℕ) × (v : ℕ) × (occurs t n v ≡ true) × P n v true
  pub none : (t : Face) (rest : List ℕ) → drop i f ≡ encode_face t ++ rest → r ≡ false → (n v : ℕ) → occurs t n v ≡ true → P n v false

-- Whether the face at i has the literal of dimension n at side v.
abbrev pub Has : List ℕ → ℕ → ℕ → ℕ → Bool → Type 0
Has f i n v r = (t : Face) (rest : List ℕ) → drop i f ≡ encode_face t ++ rest → r ≡ occurs t n v

-- Where no literal of the face at i is found in the face at k, they share none.
abbrev pub Shares : List ℕ → ℕ → ℕ → Bool → Type 0
Shares f i k r = (t : Face) (rest : List ℕ) → drop i f ≡ encode_face t ++ rest → (u : Face) (more : List ℕ) → drop k f ≡ encode_face u ++ more → r ≡ false → Apart t u

-- The face at i ends at j, and the marks are right still, and as many.
pub record Marked (f : List ℕ) (i : ℕ) (marks : List ℕ) (j : ℕ) (marks' : List ℕ) : Type 0 where
  pub ends : Ends f i j
  pub right : Marks f marks'
  pub long : length marks' ≡ length marks
