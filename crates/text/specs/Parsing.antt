-- For private contracts: formulas at places of a text, and their bytes.
use Rattle.std.specs.Prelude.{ℕ, suc, ◌+◌, ◌-◌, ◌*◌, ◌≤◌, ◌<◌, max, ◌≡◌, Result, Ok, Err, List, ◌∷◌, ◌++◌, set, length, drop}
use Rattle.std.proofs.lemmas.List.Edits.{sets}
use Rattle.formula.specs.declared.Sort.{Sort}
use Rattle.formula.specs.Bytes.{Tree, dim_bytes, dim_width, encode, nodes, bound, max_bound}
use Rattle.refusals.specs.declared.Refusal.{Refusal}
use Rattle.refusals.specs.declared.Refusal.TheVariants.{TooManyNodes}
use Rattle.refusals.specs.Refusals.{map}
use Rattle.text.specs.Tokens.{tokens}
use Rattle.text.specs.Words.{node_named}
use Rattle.text.specs.Reading.{Item, part, part_list, number, close, Values, bare_node, list_node, max_dim, run}
use Rattle.text.specs.Scanning.{between}
use Rattle.text.specs.declared.Cursor.{Cursor}

-- What a function reads: a formula, two, or the dimension of a literal.
pub data Shape : Type 0 where
  single double : Sort → Shape
  dimension : Shape

abbrev pub Thing : Shape → Type 0
Thing (single s) = Tree s
Thing (double s) = Tree s × Tree s
Thing dimension = ℕ

-- Its bytes, its nodes, and its bound.
abbrev pub bytes_in : (x : Shape) → Thing x → List ℕ
bytes_in (single s) t = encode s t
bytes_in (double s) t = encode s t.0 ++ encode s t.1
bytes_in dimension n = dim_bytes n

abbrev pub nodes_in : (x : Shape) → Thing x → ℕ
nodes_in (single s) t = nodes s t
nodes_in (double s) t = nodes s t.0 + nodes s t.1
nodes_in dimension n = 0

abbrev pub bound_in : (x : Shape) → Thing x → ℕ
bound_in (single s) t = bound s t
bound_in (double s) t = max (bound s t.0) (bound s t.1)
bound_in dimension n = suc n

-- The cursor stands in the text, and the output has room for the nodes that are left.
pub record Ready (c : Cursor) (l out : List ℕ) : Type 0 where
  pub inside : c.at ≤ length l
  pub room : c.to + (1 + dim_width) * c.left ≤ length out

-- A word begins at b, and the cursor stands behind it.
abbrev pub Behind : ℕ → Cursor → List ℕ → Type 0
Behind b c l = (b < c.at) × (c.at ≤ length l)

-- The cursor behind a head.
abbrev pub headed : Cursor → Cursor
headed c = record { at = c.at; to = c.to + 1; left = c.left - 1 }

-- A head's kind byte was written, where a node is left.
abbrev pub HeadsAs : ℕ → Cursor → List ℕ → Result Cursor Refusal → List ℕ → Type 0
HeadsAs k c out (Ok d) out' = (d ≡ headed c) × (out' ≡ set out c.to k) × (0 < c.left)
HeadsAs k c out (Err q) out' = (q ≡ TooManyNodes) × (c.left ≡ 0)

pub record Heads (k : ℕ) (c : Cursor) (out : List ℕ) (r : Result Cursor Refusal) (out' : List ℕ) : Type 0 where
  pub it : HeadsAs k c out r out'

-- A reader of a shape, with whatever is expected behind it.
abbrev pub ShapeReader : Shape → Type 0
ShapeReader x = (K : List Item) → Result (Thing x × Values K) Refusal

-- What follows the cursor.
abbrev pub from : List ℕ → Cursor → (K : List Item) → Result (Values K) Refusal
from l c K = run (tokens (drop c.at l)) c.left K

-- A part from the cursor on; one whose list opened before; the last part of a list, both parts, or the dimension of one.
abbrev pub part_at : (s : Sort) → List ℕ → Cursor → ShapeReader (single s)
part_at s l c K = from l c (part s ∷ K)

abbrev pub part_list_at : (s : Sort) → List ℕ → Cursor → ShapeReader (single s)
part_list_at s l c K = from l c (part_list s ∷ K)

abbrev pub last_at : (s : Sort) → List ℕ → Cursor → ShapeReader (single s)
last_at s l c K = from l c (part s ∷ close ∷ K)

abbrev pub both_at : (s : Sort) → List ℕ → Cursor → ShapeReader (double s)
both_at s l c K = map (λ v. ((v.0, v.1.0), v.1.1)) (from l c (part s ∷ part s ∷ close ∷ K))

abbrev pub literal_at : List ℕ → Cursor → ShapeReader dimension
literal_at l c K = from l c (number max_dim ∷ close ∷ K)

-- The word from b to the cursor, bare or first in a list, and what follows.
abbrev pub bare_at : (s : Sort) → List ℕ → ℕ → Cursor → ShapeReader (single s)
bare_at s l b c K = bare_node (node_named s (between b c.at l)) c.left K (run (tokens (drop c.at l)))

abbrev pub node_at : (s : Sort) → List ℕ → ℕ → Cursor → ShapeReader (single s)
node_at s l b c K = list_node s (node_named s (between b c.at l)) c.left K (run (tokens (drop c.at l)))

-- The reader finds a thing of the shape and goes on from another cursor; its bytes stand in the output.
pub record Found (x : Shape) (F : ShapeReader x) (l : List ℕ) (c : Cursor) (out : List ℕ) (c' : Cursor) (out' : List ℕ) : Type 0 where
  pub thing : Thing x
  pub reads : (K : List Item) → F K ≡ map (λ v. (thing, v)) (from l c' K)
  pub ahead : c.at ≤ c'.at
  pub inside : c'.at ≤ length l
  pub wrote : out' ≡ sets out c.to (bytes_in x thing)
  pub upto : c'.to ≡ c.to + length (bytes_in x thing)
  pub count : c'.left + nodes_in x thing ≡ c.left
  pub low : bound_in x thing ≤ max_bound

-- What the reader of a shape answers.
abbrev pub ParsesAs : (x : Shape) → ShapeReader x → List ℕ → Cursor → List ℕ → Result Cursor Refusal → List ℕ → Type 0
ParsesAs x F l c out (Ok c') out' = Found x F l c out c' out'
ParsesAs x F l c out (Err q) out' = (K : List Item) → F K ≡ Err q

pub record Parses (x : Shape) (F : ShapeReader x) (l : List ℕ) (c : Cursor) (out : List ℕ) (r : Result Cursor Refusal) (out' : List ℕ) : Type 0 where
  pub it : ParsesAs x F l c out r out'

-- The end of a list.
pub record EndFound (l : List ℕ) (c c' : Cursor) : Type 0 where
  pub reads : (K : List Item) → from l c (close ∷ K) ≡ from l c' K
  pub ahead : c.at < c'.at
  pub inside : c'.at ≤ length l
  pub same-to : c'.to ≡ c.to
  pub same_left : c'.left ≡ c.left

abbrev pub EndsAs : List ℕ → Cursor → Result Cursor Refusal → Type 0
EndsAs l c (Ok c') = EndFound l c c'
EndsAs l c (Err q) = (K : List Item) → from l c (close ∷ K) ≡ Err q

pub record Ends (l : List ℕ) (c : Cursor) (r : Result Cursor Refusal) : Type 0 where
  pub it : EndsAs l c r
