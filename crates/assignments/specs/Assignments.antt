-- Assignments of d dimensions as bytes, and the least that satisfies one face and not another (document 02, W1).
use Rattle.std.specs.Prelude.{ℕ, ◌+◌, ◌≤◌, ◌<◌, ◌≡◌, true, false, List, [], ◌∷◌, ltb, length, get_or}
use Rattle.formula.specs.Formula.{Face, Val, v0, v1, vu, Assignment, holds}
use Rattle.formula.specs.Answers.{pick}

-- What a byte says of its dimension: 0 zero, 1 one, else undetermined.
abbrev pub value_of : ℕ → Val
value_of b = get_or (v0 ∷ v1 ∷ []) b vu

-- The assignment that bytes are: dimension n by byte n, and those without a byte undetermined.
abbrev pub assigned : List ℕ → Assignment
assigned l n = value_of (get_or l n 2)

-- The bytes are an assignment of d dimensions: d bytes, each 0, 1 or 2.
pub record Assigns (d : ℕ) (l : List ℕ) : Type 0 where
  pub long : length l ≡ d
  pub each : (n : ℕ) → get_or l n 2 ≤ 2

-- How many dimensions are determined: zero or one.
unfoldable pub determined : List ℕ → ℕ
determined [] = 0
determined (b ∷ l) = pick (ltb b 2) 1 0 + determined l

-- The first list comes before the second in byte order.
pub data Before : List ℕ → List ℕ → Type 0 where
  lower : {x y : ℕ} {l m : List ℕ} → x < y → Before (x ∷ l) (y ∷ m)
  same : {x : ℕ} {l m : List ℕ} → Before l m → Before (x ∷ l) (x ∷ m)

-- An assignment of d dimensions that satisfies a and not b.
pub record Refutes (d : ℕ) (a b : Face) (l : List ℕ) : Type 0 where
  pub bytes : Assigns d l
  pub satisfied : holds a (assigned l) ≡ true
  pub missed : holds b (assigned l) ≡ false

-- Such an assignment than which none determines fewer dimensions, and before which none that determines as few comes in byte order.
pub record Least (d : ℕ) (a b : Face) (l : List ℕ) : Type 0 where
  pub refutes : Refutes d a b l
  pub fewest : (m : List ℕ) → Refutes d a b m → determined l ≤ determined m
  pub first : (m : List ℕ) → Refutes d a b m → determined m ≡ determined l → Before m l → ⊥
