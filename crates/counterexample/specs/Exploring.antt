-- The search for the least assignment. These definitions serve the contracts of private functions.
use Rattle.std.specs.Prelude.{ℕ, ◌+◌, ◌-◌, ◌≤◌, ◌≡◌, Bool, true, false, ◌&&◌, List, [], ◌∷◌, ◌++◌, leb, ltb, eqb, length, Option, Some, None}
use Rattle.formula.specs.Formula.{Face}
use Rattle.formula.specs.Bytes.{encode_face}
use Rattle.formula.specs.Answers.{pick}
use Rattle.assignments.specs.Assignments.{Refutes, determined, Before}
use Rattle.needs.specs.States.{Within}
use Rattle.needs.specs.Weighing.{Asks}

-- The first byte that a state's byte allows, where k more dimensions may be determined; and how many may be behind it.
abbrev pub lowest : ℕ → ℕ → ℕ
lowest k s = pick (ltb s 2) s (pick (eqb k 0) 2 (pick (eqb s 3) 1 (pick (eqb s 5) 2 0)))

abbrev pub spent : ℕ → ℕ → ℕ
spent k s = pick (leb 2 s && ltb (lowest k s) 2) (k - 1) k

-- Does the first assignment that a state allows, with k more dimensions determined, come before another?
unfoldable pub precedes : ℕ → List ℕ → List ℕ → Bool
precedes k [] B = false
precedes k (s ∷ S) [] = false
precedes k (s ∷ S) (b ∷ B) = pick (ltb (lowest k s) b) true (pick (ltb b (lowest k s)) false (precedes (spent k s) S B))

-- Is there nothing to win in a state whose assignments determine so many or more, k more than it has chosen, beside a best so far?
abbrev pub hopeless : List ℕ → List ℕ → ℕ → ℕ → Option ℕ → Bool
hopeless S B k total None = ltb (length S) total
hopeless S B k total (Some c) = pick (ltb total c) false (pick (ltb c total) true (pick (precedes k S B) false true))

-- What a state's byte becomes where a side is no longer allowed.
abbrev pub without : ℕ → ℕ → ℕ
without s e = pick (eqb s 2) (3 + e) 5

-- How many dimensions of d the best so far determines; one more than there are where there is none yet.
abbrev pub limit : ℕ → Option ℕ → ℕ
limit d None = d + 1
limit d (Some c) = c

-- The best so far determines c dimensions, and no better one is τ.
pub record Beaten (c : ℕ) (B τ : List ℕ) : Type 0 where
  pub fewest : c ≤ determined τ
  pub first : determined τ ≡ c → Before τ B → ⊥

-- The best so far was kept, or another was found.
pub data Kept (d : ℕ) (a b : Face) (c : Option ℕ) (B : List ℕ) (c' : Option ℕ) (B' : List ℕ) : Type 0 where
  unchanged : c' ≡ c → B' ≡ B → Kept d a b c B c' B'
  better : Refutes d a b B' → c' ≡ Some (determined B') → Kept d a b c B c' B'

-- All that a state allows was gone through: what is best now is no worse than before, and beats all of it.
pub record Explored (d : ℕ) (a b : Face) (S : List ℕ) (c : Option ℕ) (B : List ℕ) (c' : Option ℕ) (B' : List ℕ) : Type 0 where
  pub kept : Kept d a b c B c' B'
  pub fewer : limit d c' ≤ limit d c
  pub before : limit d c' ≡ limit d c → Before B B' → ⊥
  pub beaten : (τ : List ℕ) → Refutes d a b τ → Within S τ → Beaten (limit d c') B' τ

-- What a search of a state asks: two faces with dimensions below those of the state; what the state has chosen is counted.
pub record Ready (a b S : List ℕ) (chosen : ℕ) (B : List ℕ) (count : Option ℕ) : Type 0 where
  pub left : Asks a 0 (length S)
  pub goal : Asks b 0 (length S)
  pub counted : chosen ≡ determined S
  pub even : length B ≡ length S
  pub narrow : length S ≤ 255
  pub few : limit (length S) count ≤ 256

-- A search of a state, of whichever faces stand in the bytes: the state is as it was.
pub record Explores (a b S : List ℕ) (count : Option ℕ) (B : List ℕ) (count' : Option ℕ) (S' B' : List ℕ) : Type 0 where
  pub restored : S' ≡ S
  pub long : length B' ≡ length B
  pub it : (α β : Face) (rest more : List ℕ) → a ≡ encode_face α ++ rest → b ≡ encode_face β ++ more → Explored (length S) α β S count B count' B'
