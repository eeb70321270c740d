-- What the public functions answer.
use Rattle.std.specs.Prelude.{ℕ, ◌+◌, ◌-◌, ◌≡◌, Bool, true, false, ◌&&◌, List, [], ◌∷◌, leb, eqb, length, get_or, drop, Result, Err, Ok}
use Rattle.refusals.specs.declared.Refusal.{Refusal}
use Rattle.std.proofs.Math.Option
use Rattle.std.proofs.Math.Option.{Option, none, some}
use Rattle.std.proofs.lemmas.List.Edits.{sets}
use Rattle.refusals.specs.declared.Refusal.TheVariants.{NotAFormula, TooManyNodes, LargeDimension, LargeResult}
use Rattle.formula.specs.Formula.{ff, i0}
use Rattle.formula.specs.Bytes.{Tree, dim_width, dim_at, encode, Node, leaf, lit, one, two, bad, node_of, Got, nothing, got, read, read_all, nodes, bound, max_nodes, max_bound}
use Rattle.formula.specs.declared.Sort.{Sort}
use Rattle.formula.specs.declared.Sort.TheVariants.{Faces, Intervals}
use Rattle.formula.specs.declared.Size.{Size}
use Rattle.formula.specs.declared.Kind.{Kind}
use Rattle.formula.specs.declared.Kind.TheVariants.{Nullary, Literal, Unary, Binary, Unknown}
use Rattle.formula.specs.declared.Advance.{Advance}
use Rattle.formula.specs.declared.Advance.TheVariants.{Leaf, Lit, One, Two, Stuck}

-- The first where the test passes, else the second.
abbrev pub pick : {A : Type 0} → Bool → A → A → A
pick true a b = a
pick false a b = b

-- The kind of a node.
abbrev pub kind_by : {A : Type 0} → Node A → Kind
kind_by (leaf t) = Nullary
kind_by (lit g) = Literal
kind_by (one u) = Unary
kind_by (two v) = Binary
kind_by bad = Unknown

-- The kind of node that a byte begins.
unfoldable pub kind_of : Sort → ℕ → Kind
kind_of s b = kind_by (node_of s b)

-- How many dimensions a field can tell apart.
abbrev pub dim_space : ℕ
dim_space = 256

-- One step over a node, by the node of the kind byte; a literal's field has to be whole.
abbrev pub literal_step : List ℕ → ℕ → ℕ → Advance
literal_step l at p = pick (leb dim_width (length l - at)) (Lit (record { at = at + dim_width; pending = p }) (dim_at l at)) Stuck

abbrev pub step_by : {A : Type 0} → Node A → List ℕ → ℕ → ℕ → Advance
step_by (leaf t) l at p = Leaf (record { at = at + 1; pending = p - 1 })
step_by (lit g) l at p = literal_step l (at + 1) (p - 1)
step_by (one u) l at p = One (record { at = at + 1; pending = p })
step_by (two v) l at p = Two (record { at = at + 1; pending = p + 1 })
step_by bad l at p = Stuck

-- A step from a place where p formulas are pending, with a byte or more for each.
abbrev pub step_of : Sort → List ℕ → ℕ → ℕ → Advance
step_of s l at p = pick (leb 1 p && leb p (length l - at)) (step_by (node_of s (get_or l at 0)) l at p) Stuck

-- The size of a formula.
abbrev pub size_of : (s : Sort) → Tree s → Size
size_of s t = record { len = length (encode s t); nodes = nodes s t; bound = bound s t }

-- The size of what was read, or refusal 2.
abbrev pub size_read : (s : Sort) → Option (Tree s) → Result Size Refusal
size_read s none = Err NotAFormula
size_read s (some t) = Ok (size_of s t)

-- The size of the one formula that the whole list is, or refusal 2.
unfoldable pub measurement : Sort → List ℕ → Result Size Refusal
measurement s l = size_read s (read_all s l)

-- For the crates above: some formula of the sort, and the formula that the whole list is, or that one where it is none.
abbrev pub any_tree : (s : Sort) → Tree s
any_tree Faces = ff
any_tree Intervals = i0

unfoldable pub tree_of : (s : Sort) → List ℕ → Tree s
tree_of s l = Option.get_or (read_all s l) (any_tree s)

-- The size of what was read off the front, or refusal 2.
abbrev pub size_front : (s : Sort) → Got (Tree s) → Result Size Refusal
size_front s nothing = Err NotAFormula
size_front s (got t l) = Ok (size_of s t)

-- The size of the formula that starts at a place, or refusal 2.
unfoldable pub measurement_at : Sort → List ℕ → ℕ → Result Size Refusal
measurement_at s l at = size_front s (read s (drop at l))

abbrev pub bytes_of : (s : Sort) → Got (Tree s) → List ℕ
bytes_of s nothing = []
bytes_of s (got t l) = encode s t

-- The bytes of the formula that starts at a place.
unfoldable pub part_at : Sort → List ℕ → ℕ → List ℕ
part_at s l at = bytes_of s (read s (drop at l))

-- Does a size keep the limits?
abbrev pub keeps : Size → Bool
keeps z = leb z.nodes max_nodes && leb z.bound max_bound

-- Questions 3 and 4 of what has this size, and question 5 of a result that has it.
abbrev pub allowed : {A : Type 0} → Size → A → Result A Refusal
allowed z a = pick (leb z.nodes max_nodes) (pick (leb z.bound max_bound) (Ok a) (Err LargeDimension)) (Err TooManyNodes)

abbrev pub kept : {A : Type 0} → Size → A → Result A Refusal
kept z a = pick (keeps z) (Ok a) (Err LargeResult)

-- The formula that was read, where it keeps the limits; refusal 2 where there is none.
abbrev pub as_operand : (s : Sort) → Option (Tree s) → Result (Tree s) Refusal
as_operand s none = Err NotAFormula
as_operand s (some t) = allowed (size_of s t) t

-- Questions 2 to 4 of an operand.
unfoldable pub operand : (s : Sort) → List ℕ → Result (Tree s) Refusal
operand s l = as_operand s (read_all s l)

-- Are two lists of bytes equal?
unfoldable pub same_bytes : List ℕ → List ℕ → Bool
same_bytes [] [] = true
same_bytes [] (b ∷ m) = false
same_bytes (a ∷ l) [] = false
same_bytes (a ∷ l) (b ∷ m) = eqb a b && same_bytes l m

-- The source stands in the list from `at` on where it fits, and the list is as it was where it does not.
pub record Put (src : List ℕ) (at : ℕ) (d : List ℕ) (r : Bool) (d' : List ℕ) : Type 0 where
  pub says : r ≡ leb (at + length src) (length d)
  pub leaves : d' ≡ pick (leb (at + length src) (length d)) (sets d at src) d
