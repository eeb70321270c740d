-- The nodes and the bytes of a normal form whose clauses are bits.
use Rattle.std.specs.Prelude.{ℕ, zero, suc, ◌+◌, ◌*◌, ◌≡◌, length}
use mathlib.Core.List.{List, [], ◌∷◌, flat_map}
use Rattle.std.proofs.lemmas.List.Edits.{sets}
use Rattle.formula.specs.Bytes.{encode_face}
use Rattle.clauses.specs.Normal.{literal, conjunction}
use Rattle.clauses.specs.Words.{bits, select, count}
use Rattle.clauses.specs.declared.Clause.{Clause}

-- The nodes of the conjunction of so many literals: ft for none; else the literals, and a fand for each but the first.
abbrev pub literal_nodes : ℕ → ℕ
literal_nodes zero = 1
literal_nodes (suc m) = suc (2 * m)

-- Those of a clause.
unfoldable pub weight_of : Clause → ℕ
weight_of c = literal_nodes (count (bits c))

-- What clauses behind the first add, by their weights: each its own nodes and a for.
unfoldable pub further_nodes : List ℕ → ℕ
further_nodes [] = 0
further_nodes (w ∷ ws) = suc (w + further_nodes ws)

-- The nodes of the disjunction of clauses, by their weights: ff for none.
unfoldable pub form_nodes : List ℕ → ℕ
form_nodes [] = 1
form_nodes (w ∷ ws) = w + further_nodes ws

-- The bytes of a clause. `numbers` has the literal of each bit.
unfoldable pub clause_form : List ℕ → Clause → List ℕ
clause_form numbers c = encode_face (conjunction (select numbers (bits c)))

-- The bytes of literals, one after another.
unfoldable pub literals_bytes : List ℕ → List ℕ
literals_bytes l = flat_map (λ k. encode_face (literal k)) l

-- Bytes stand in an output from a place on, and the place behind them is answered.
pub record Wrote (out : List ℕ) (to : ℕ) (bytes : List ℕ) (r : ℕ) (out' : List ℕ) : Type 0 where
  pub next : r ≡ to + length bytes
  pub stored : out' ≡ sets out to bytes
