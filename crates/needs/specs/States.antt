-- States of a search for an assignment: what is still allowed of each dimension. They serve contracts of functions that are public only for the crates above.
use Rattle.std.specs.Prelude.{ℕ, suc, ◌+◌, ◌≤◌, ◌<◌, ◌≡◌, Bool, true, false, ◌&&◌, ◌||◌, List, [], ◌∷◌, leb, ltb, eqb, get_or}
use Rattle.formula.specs.Formula.{lo, hi, Face, ff, ft, at, fand, for}
use Rattle.formula.specs.Answers.{pick}

-- A byte of a state: 0 zero, 1 one, 2 zero, one or undetermined, 3 not zero, 4 not one, 5 undetermined. Side e may still be chosen:
pub data Open (s e : ℕ) : Type 0 where
  any : s ≡ 2 → e ≤ 1 → Open s e
  last : e ≤ 1 → s + e ≡ 4 → Open s e

-- A byte of a state allows the byte v of an assignment.
pub data Fits (s v : ℕ) : Type 0 where
  chosen : s < 2 → v ≡ s → Fits s v
  undetermined : 2 ≤ s → v ≡ 2 → Fits s v
  free : Open s v → Fits s v

-- A state allows an assignment.
abbrev pub Within : List ℕ → List ℕ → Type 0
Within S τ = (n : ℕ) → Fits (get_or S n 5) (get_or τ n 2)

-- The assignment that determines only what is chosen.
abbrev pub settle : ℕ → ℕ
settle s = pick (ltb s 2) s 2

unfoldable pub settled : List ℕ → List ℕ
settled [] = []
settled (s ∷ S) = settle s ∷ settled S

-- Does the literal of dimension n at side v (0 zero, 1 one) occur in a face?
unfoldable pub occurs : Face → ℕ → ℕ → Bool
occurs ff n v = false
occurs ft n v = false
occurs (at lo m) n v = eqb m n && eqb v 0
occurs (at hi m) n v = eqb m n && eqb v 1
occurs (fand a b) n v = occurs a n v || occurs b n v
occurs (for a b) n v = occurs a n v || occurs b n v

-- Two faces share no literal.
abbrev pub Apart : Face → Face → Type 0
Apart a b = (n v : ℕ) → occurs a n v ≡ true → occurs b n v ≡ true → ⊥

abbrev pub bit : Bool → ℕ
bit b = pick b 1 0

-- How many dimensions that a state has not chosen are determined by an assignment, as a test wants them.
unfoldable pub hits : (ℕ → ℕ → Bool) → List ℕ → List ℕ → ℕ
hits P [] τ = 0
hits P (s ∷ S) [] = 0
hits P (s ∷ S) (v ∷ τ) = bit (leb 2 s && (ltb v 2 && P 0 v)) + hits (λ n. P (suc n)) S τ
