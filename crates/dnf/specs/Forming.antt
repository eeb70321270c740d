-- The bytes of a normal form, from clauses as bits. These definitions serve the contracts of private functions.
use Rattle.std.specs.Prelude.{ℕ, ◌+◌, ◌*◌, ◌/◌, ◌≤◌, ◌<◌, ◌≡◌, List, map, leb, length, Option, Some, None}
use Rattle.std.proofs.Math.Option as Math
use Rattle.std.proofs.Math.Option.{none, some}
use Rattle.formula.specs.Formula.{Face}
use Rattle.formula.specs.Bytes.{encode_face, nodes_face, bound_face, max_nodes, max_bound}
use Rattle.formula.specs.Answers.{pick, dim_space}
use Rattle.clauses.specs.Normal.{Handling, clauses, disjunction, normal}
use Rattle.clauses.specs.Shape.{All}
use Rattle.clauses.specs.Words.{bits, select}
use Rattle.clauses.specs.declared.Clause.{Clause as Bits}
use Rattle.forms.specs.Forms.{Wrote}
use Rattle.dnf.specs.Finding.{ranked}

-- The face that clauses stand for. `numbers` has the literal of each bit.
abbrev pub form_of : List ℕ → List Bits → Face
form_of numbers cs = disjunction (map (λ c. select numbers (bits c)) cs)

abbrev pub form_bytes : List ℕ → List Bits → List ℕ
form_bytes numbers cs = encode_face (form_of numbers cs)

-- Its bytes, where there are clauses, and it has no more nodes than a formula may have.
abbrev pub short_form : List ℕ → Math.Option (List Bits) → Math.Option (List ℕ)
short_form numbers none = none
short_form numbers (some cs) = pick (leb (nodes_face (form_of numbers cs)) max_nodes) (some (form_bytes numbers cs)) none

-- Bytes that there are were written to the front of an output, and how many they are is answered; else nothing was written.
abbrev pub WritesBy : Math.Option (List ℕ) → List ℕ → Option ℕ → List ℕ → Type 0
WritesBy b out None out' = (b ≡ none) × (out' ≡ out)
WritesBy b out (Some n) out' = (bytes : List ℕ) × (b ≡ some bytes) × Wrote out 0 bytes n out'

pub record Writes (b : Math.Option (List ℕ)) (out : List ℕ) (r : Option ℕ) (out' : List ℕ) : Type 0 where
  pub told : WritesBy b out r out'

-- Every literal of a clause has a dimension that its field can hold.
abbrev pub Fielded : List ℕ → Bits → Type 0
Fielded numbers c = All (λ k. k / 2 < dim_space) (select numbers (bits c))

-- The clauses can be written.
pub record Printable (numbers : List ℕ) (form : List Bits) (room : ℕ) : Type 0 where
  pub many : length numbers ≡ 256
  pub fielded : All (Fielded numbers) form
  pub fits : length (form_bytes numbers form) ≤ room

-- The bytes are one face, with room for its clauses and for its normal form.
pub record Shapes (H : Handling Bits) (numbers f : List ℕ) (room out : ℕ) : Type 0 where
  pub face : Face
  pub bytes : f ≡ encode_face face
  pub nodes : nodes_face face ≤ max_nodes
  pub fits : 16 * (nodes_face face + 1) + 257 ≤ room
  pub many : length numbers ≡ 256
  pub fielded : (cs : List Bits) → clauses H (ranked numbers) face ≡ some cs → All (Fielded numbers) cs
  pub writes : 1024 ≤ out

-- The bytes of its normal form were written, where it has one that is small enough.
pub record Forms (H : Handling Bits) (numbers f out : List ℕ) (r : Option ℕ) (out' : List ℕ) : Type 0 where
  pub it : (t : Face) → f ≡ encode_face t → Writes (short_form numbers (clauses H (ranked numbers) t)) out r out'

-- The bytes are one face of n nodes within the limits, and there is room for its normal form.
pub record Whole (f : List ℕ) (n out : ℕ) : Type 0 where
  pub face : Face
  pub bytes : f ≡ encode_face face
  pub nodes : n ≡ nodes_face face
  pub few : n ≤ max_nodes
  pub low : bound_face face ≤ max_bound
  pub writes : 1024 ≤ out

-- The bytes of a normal form that is small enough.
abbrev pub short_normal : Math.Option Face → Math.Option (List ℕ)
short_normal none = none
short_normal (some g) = pick (leb (nodes_face g) max_nodes) (some (encode_face g)) none

pub record Normals (f out : List ℕ) (r : Option ℕ) (out' : List ℕ) : Type 0 where
  pub it : (t : Face) → f ≡ encode_face t → Writes (short_normal (normal t)) out r out'
