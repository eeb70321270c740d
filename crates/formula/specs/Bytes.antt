-- Formulas as prefix bytes (document 01, "Formulas and their meaning"): writing, reading, and what is counted of a formula.
-- A byte list is a list of numbers; the dimension field of a tree beyond the limits is no byte, and no code writes one.
use Rattle.std.specs.Prelude.{ℕ, zero, suc, ◌+◌, ◌-◌, max, Bool, true, false, List, [], ◌∷◌, ◌++◌, ltb, length, get_or}
use Rattle.std.proofs.Math.Option.{Option, none, some}
use Rattle.formula.specs.Formula.{lo, hi, Face, ff, ft, at, fand, for, Interval, i0, i1, dim, neg, meet, join}
use Rattle.formula.specs.declared.Sort.{Sort}
use Rattle.formula.specs.declared.Sort.TheVariants.{Faces, Intervals}

-- The formulas of a sort.
abbrev pub Tree : Sort → Type 0
Tree Faces = Face
Tree Intervals = Interval

-- The field of a dimension: its width, its bytes, and what is read off the front of a list or at a place of one.
abbrev pub dim_width : ℕ
dim_width = 1

abbrev pub dim_bytes : ℕ → List ℕ
dim_bytes n = n ∷ []

abbrev pub dim_at : List ℕ → ℕ → ℕ
dim_at l i = get_or l i 0

unfoldable pub encode_face : Face → List ℕ
encode_face ff = 0 ∷ []
encode_face ft = 1 ∷ []
encode_face (at lo n) = 2 ∷ dim_bytes n
encode_face (at hi n) = 3 ∷ dim_bytes n
encode_face (fand a b) = 4 ∷ encode_face a ++ encode_face b
encode_face (for a b) = 5 ∷ encode_face a ++ encode_face b

unfoldable pub encode_interval : Interval → List ℕ
encode_interval i0 = 16 ∷ []
encode_interval i1 = 17 ∷ []
encode_interval (dim n) = 18 ∷ dim_bytes n
encode_interval (neg r) = 19 ∷ encode_interval r
encode_interval (meet r s) = 20 ∷ encode_interval r ++ encode_interval s
encode_interval (join r s) = 21 ∷ encode_interval r ++ encode_interval s

-- The bytes of a formula.
abbrev pub encode : (s : Sort) → Tree s → List ℕ
encode Faces f = encode_face f
encode Intervals r = encode_interval r

-- What a kind byte begins: a leaf, a literal with its dimension, a node over one formula or over two; or nothing.
pub data Node (A : Type 0) : Type 0 where
  leaf : A → Node A
  lit : (ℕ → A) → Node A
  one : (A → A) → Node A
  two : (A → A → A) → Node A
  bad : Node A

-- The kind bytes of faces count from 0, those of intervals from 16.
abbrev pub face_node : ℕ → Node Face
face_node b = get_or (leaf ff ∷ leaf ft ∷ lit (at lo) ∷ lit (at hi) ∷ two fand ∷ two for ∷ []) b bad

abbrev pub interval_node : ℕ → Node Interval
interval_node b = get_or (leaf i0 ∷ leaf i1 ∷ lit dim ∷ one neg ∷ two meet ∷ two join ∷ []) b bad

abbrev pub from16 : Bool → ℕ → Node Interval
from16 true b = bad
from16 false b = interval_node (b - 16)

unfoldable pub node_of : (s : Sort) → ℕ → Node (Tree s)
node_of Faces b = face_node b
node_of Intervals b = from16 (ltb b 16) b

-- What was read off the front of a list, with the rest; or nothing.
pub data Got (A : Type 0) : Type 0 where
  nothing : Got A
  got : A → List ℕ → Got A

abbrev pub then : {A B : Type 0} → Got A → (A → List ℕ → Got B) → Got B
then nothing k = nothing
then (got a l) k = k a l

abbrev pub take_dim : List ℕ → Got ℕ
take_dim [] = nothing
take_dim (n ∷ l) = got n l

-- A formula that begins with this node, by a reader of what stands below it.
abbrev pub front : {A : Type 0} → Node A → (List ℕ → Got A) → List ℕ → Got A
front (leaf t) reader l = got t l
front (lit g) reader l = then (take_dim l) (λ n. got (g n))
front (one u) reader l = then (reader l) (λ x. got (u x))
front (two v) reader l = then (reader l) (λ x m. then (reader m) (λ y. got (v x y)))
front bad reader l = nothing

-- One formula off the front of a list, at most n nodes deep.
unfoldable pub read_in : (s : Sort) → ℕ → List ℕ → Got (Tree s)
read_in s zero l = nothing
read_in s (suc n) [] = nothing
read_in s (suc n) (b ∷ l) = front (node_of s b) (read_in s n) l

-- One formula off the front of a list, and the rest: no formula is deeper than its bytes are many.
unfoldable pub read : (s : Sort) → List ℕ → Got (Tree s)
read s l = read_in s (length l) l

-- The whole list as one formula.
abbrev pub wholly : {A : Type 0} → Got A → Option A
wholly nothing = none
wholly (got t []) = some t
wholly (got t (b ∷ l)) = none

unfoldable pub read_all : (s : Sort) → List ℕ → Option (Tree s)
read_all s l = wholly (read s l)

-- The number of nodes.
unfoldable pub nodes_face : Face → ℕ
nodes_face ff = 1
nodes_face ft = 1
nodes_face (at e n) = 1
nodes_face (fand a b) = suc (nodes_face a + nodes_face b)
nodes_face (for a b) = suc (nodes_face a + nodes_face b)

unfoldable pub nodes_interval : Interval → ℕ
nodes_interval i0 = 1
nodes_interval i1 = 1
nodes_interval (dim n) = 1
nodes_interval (neg r) = suc (nodes_interval r)
nodes_interval (meet r s) = suc (nodes_interval r + nodes_interval s)
nodes_interval (join r s) = suc (nodes_interval r + nodes_interval s)

abbrev pub nodes : (s : Sort) → Tree s → ℕ
nodes Faces f = nodes_face f
nodes Intervals r = nodes_interval r

-- One more than the largest dimension, 0 if there is none.
unfoldable pub bound_face : Face → ℕ
bound_face ff = 0
bound_face ft = 0
bound_face (at e n) = suc n
bound_face (fand a b) = max (bound_face a) (bound_face b)
bound_face (for a b) = max (bound_face a) (bound_face b)

unfoldable pub bound_interval : Interval → ℕ
bound_interval i0 = 0
bound_interval i1 = 0
bound_interval (dim n) = suc n
bound_interval (neg r) = bound_interval r
bound_interval (meet r s) = max (bound_interval r) (bound_interval s)
bound_interval (join r s) = max (bound_interval r) (bound_interval s)

abbrev pub bound : (s : Sort) → Tree s → ℕ
bound Faces f = bound_face f
bound Intervals r = bound_interval r

-- The limits of document 01: at most 511 nodes, and dimensions at most 254, so a bound of at most 255.
abbrev pub max_nodes : ℕ
max_nodes = 511

abbrev pub max_bound : ℕ
max_bound = 255
