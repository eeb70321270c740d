-- The clauses of a face, found from its bytes. These definitions serve the contracts of private functions.
use Rattle.std.specs.Prelude.{ℕ, ◌+◌, ◌-◌, ◌*◌, ◌≤◌, ◌≡◌, List, ◌++◌, length, get_or, take, drop, Option, Some, None}
use Rattle.std.proofs.Math.Option.{none, some}
use Rattle.formula.specs.Formula.{Face}
use Rattle.formula.specs.Bytes.{dim_at, encode_face, nodes_face}
use Rattle.clauses.specs.Normal.{numbered, Handling, LeafCases, clauses}
use Rattle.clauses.specs.Words.{none_of, single_of}
use Rattle.clauses.specs.declared.Clause.{Clause as Bits}
use Rattle.literals.specs.Numbers.{position}
use Rattle.literals.specs.declared.Found.{Found}

-- The clause of a literal with a number, by its rank among the numbers.
abbrev pub ranked_clause : List ℕ → ℕ → Bits
ranked_clause numbers k = single_of (position k numbers)

-- The clauses of the constants and of literals, as bits.
abbrev pub ranked : List ℕ → LeafCases Bits
ranked numbers = record { always = none_of; single = λ e n. ranked_clause numbers (numbered e n) }

-- The clause of the literal whose bytes stand at a place.
abbrev pub literal_at : List ℕ → List ℕ → ℕ → Bits
literal_at numbers f at = ranked_clause numbers (2 * dim_at f (at + 1) + (get_or f at 0 - 2))

-- A face stands at a place of the bytes, and there is room for its clauses.
pub record Asks (f : List ℕ) (at room : ℕ) : Type 0 where
  pub face : Face
  pub rest : List ℕ
  pub bytes : drop at f ≡ encode_face face ++ rest
  pub fits : 16 * (nodes_face face + 1) + 257 ≤ room

-- The clauses of the face were found: they stand in front of the list. The face ends where it is said.
pub record FoundOf (H : Handling Bits) (numbers : List ℕ) (at : ℕ) (t : Face) (z : Found) (l : List Bits) : Type 0 where
  pub fits : z.count ≤ length l
  pub lists : clauses H (ranked numbers) t ≡ some (take z.count l)
  pub behind : z.end ≡ at + length (encode_face t)

-- What is answered of a face: that its clauses were found, or none where it has none.
abbrev pub FindsOf : Handling Bits → List ℕ → ℕ → Face → Option Found → List Bits → Type 0
FindsOf H numbers at t None l = clauses H (ranked numbers) t ≡ none
FindsOf H numbers at t (Some z) l = FoundOf H numbers at t z l

pub record Finds (H : Handling Bits) (numbers f : List ℕ) (at : ℕ) (r : Option Found) (l : List Bits) : Type 0 where
  pub it : (t : Face) (rest : List ℕ) → drop at f ≡ encode_face t ++ rest → FindsOf H numbers at t r l
