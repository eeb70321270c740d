-- The bytes of a ledger (document 01, "The ledger"): the fields of a judgement, records, and which steps are well formed.
use Rattle.std.specs.Prelude.{◌≡◌, Bool, true, false, ◌&&◌, List, [], ◌∷◌, ◌++◌, ℕ, zero, suc, ◌+◌, ◌-◌, ◌/◌, ◌%◌, max, ◌≤◌, leb, length, replicate}
use Rattle.formula.specs.declared.Sort.{Sort}
use Rattle.formula.specs.declared.Sort.TheVariants.{Faces, Intervals}
use Rattle.formula.specs.Formula.{Face, Interval, i0, i1, dim, neg, meet, join}
use Rattle.formula.specs.Bytes.{Tree, dim_bytes, encode, encode_face, nodes, bound, bound_face, max_nodes, max_bound}
use Rattle.calculus.specs.Judgement.{Judgement, lt, le, interval, face, member, take, cover, entails, boundary, local, fforall, ishift, isubst, fshift, fsubst, Step}
use Rattle.calculus.specs.Table.{Pred, p_lt, p_le, p_interval, p_face, p_member, p_take, p_cover, p_entails, p_boundary, p_local, p_fforall, p_ishift, p_isubst, p_fshift, p_fsubst, predicate, Listed}
use Rattle.calculus.specs.Rules.{AllBelow}
use Rattle.calculus.specs.Search.{nodes_context}

-- A number in so many bytes, the lowest first.
abbrev pub little_endian : ℕ → ℕ → List ℕ
little_endian zero n = []
little_endian (suc w) n = n % 256 ∷ little_endian w (n / 256)

-- Fields ------------------------------------------------------------------------------

-- The fields of judgements and calls: a number d, m or n; an index k of a dimension; a context; an end, i0 or i1; a formula of a sort.
pub data Field : Type 0 where
  number index context end : Field
  formula : Sort → Field

-- What stands in a field.
abbrev pub Value : Field → Type 0
Value number = ℕ
Value index = ℕ
Value context = List Face
Value end = Interval
Value (formula s) = Tree s

-- The faces of a context, one after another.
unfoldable pub faces_bytes : List Face → List ℕ
faces_bytes [] = []
faces_bytes (f ∷ G) = encode_face f ++ faces_bytes G

-- The bytes of a field: numbers are written as dimensions are, a context is a two-byte count and its faces.
abbrev pub field_bytes : (c : Field) → Value c → List ℕ
field_bytes number n = dim_bytes n
field_bytes index k = dim_bytes k
field_bytes context G = little_endian 2 (length G) ++ faces_bytes G
field_bytes end r = encode Intervals r
field_bytes (formula s) t = encode s t

-- One more than the largest dimension in a context, 0 if there is none.
unfoldable pub bound_context : List Face → ℕ
bound_context [] = 0
bound_context (f ∷ G) = max (bound_face f) (bound_context G)

-- The nodes in a field.
abbrev pub nodes_in : (c : Field) → Value c → ℕ
nodes_in number n = 0
nodes_in index k = 0
nodes_in context G = nodes_context G
nodes_in end r = nodes Intervals r
nodes_in (formula s) t = nodes s t

-- What question 4 asks of a field: one more than its largest dimension, 0 if there is none; one more than k; a number itself.
abbrev pub bound_in : (c : Field) → Value c → ℕ
bound_in number d = d
bound_in index k = suc k
bound_in context G = bound_context G
bound_in end r = bound Intervals r
bound_in (formula s) t = bound s t

-- Question 3 of a field: at most 511 nodes.
abbrev pub few_nodes : (c : Field) → Value c → Bool
few_nodes c x = leb (nodes_in c x) max_nodes

-- Question 4 of a field: a dimension and k at most 254, so bounds and numbers at most 255.
abbrev pub low_bound : (c : Field) → Value c → Bool
low_bound c x = leb (bound_in c x) max_bound

-- The last operand of local is i0 or i1.
abbrev pub is_end : Interval → Bool
is_end i0 = true
is_end i1 = true
is_end (dim n) = false
is_end (neg r) = false
is_end (meet r s) = false
is_end (join r s) = false

-- Only ends stand in the field of an end.
abbrev pub belongs : (c : Field) → Value c → Bool
belongs number n = true
belongs index k = true
belongs context G = true
belongs end r = is_end r
belongs (formula s) t = true

-- A ledger may hold this in the field.
abbrev pub allowed : (c : Field) → Value c → Bool
allowed c x = belongs c x && (few_nodes c x && low_bound c x)

-- Judgements ----------------------------------------------------------------------------

-- The fields of each predicate, in printed order.
abbrev pub fields : Pred → List Field
fields p_lt = number ∷ number ∷ []
fields p_le = number ∷ number ∷ []
fields p_interval = number ∷ formula Intervals ∷ []
fields p_face = number ∷ formula Faces ∷ []
fields p_member = formula Faces ∷ context ∷ []
fields p_take = context ∷ formula Faces ∷ context ∷ []
fields p_cover = context ∷ formula Faces ∷ []
fields p_entails = number ∷ formula Faces ∷ formula Faces ∷ []
fields p_boundary = formula Intervals ∷ formula Faces ∷ formula Faces ∷ []
fields p_local = number ∷ formula Faces ∷ formula Intervals ∷ end ∷ []
fields p_fforall = formula Faces ∷ index ∷ formula Faces ∷ []
fields p_ishift = formula Intervals ∷ index ∷ formula Intervals ∷ []
fields p_isubst = formula Intervals ∷ index ∷ formula Intervals ∷ formula Intervals ∷ []
fields p_fshift = formula Faces ∷ index ∷ formula Faces ∷ []
fields p_fsubst = formula Faces ∷ index ∷ formula Intervals ∷ formula Faces ∷ []

-- Values for a list of fields.
abbrev pub Values : List Field → Type 0
Values [] = Unit {0}
Values (c ∷ cs) = Value c × Values cs

-- The operands of a judgement.
abbrev pub operands : (j : Judgement) → Values (fields (predicate j))
operands (lt m n) = (m, (n, tt))
operands (le m n) = (m, (n, tt))
operands (interval d r) = (d, (r, tt))
operands (face d f) = (d, (f, tt))
operands (member f G) = (f, (G, tt))
operands (take G f D) = (G, (f, (D, tt)))
operands (cover G g) = (G, (g, tt))
operands (entails d a b) = (d, (a, (b, tt)))
operands (boundary r a b) = (r, (a, (b, tt)))
operands (local d f r e) = (d, (f, (r, (e, tt))))
operands (fforall f k g) = (f, (k, (g, tt)))
operands (ishift r k s) = (r, (k, (s, tt)))
operands (isubst r k t s) = (r, (k, (t, (s, tt))))
operands (fshift f k g) = (f, (k, (g, tt)))
operands (fsubst f k t g) = (f, (k, (t, (g, tt))))

-- The bytes of values, one after another.
abbrev pub values_bytes : (cs : List Field) → Values cs → List ℕ
values_bytes [] xs = []
values_bytes (c ∷ []) xs = field_bytes c xs.0
values_bytes (c ∷ (e ∷ cs)) xs = field_bytes c xs.0 ++ values_bytes (e ∷ cs) xs.1

-- The bytes of a judgement: its operands in printed order.
abbrev pub operand_bytes : Judgement → List ℕ
operand_bytes j = values_bytes (fields (predicate j)) (operands j)

-- A ledger may hold these values.
abbrev pub all_allowed : (cs : List Field) → Values cs → Bool
all_allowed [] xs = true
all_allowed (c ∷ cs) xs = allowed c xs.0 && all_allowed cs xs.1

-- Records and ledgers ---------------------------------------------------------------------

-- References of four bytes each.
unfoldable pub references_bytes : List ℕ → List ℕ
references_bytes [] = []
references_bytes (i ∷ is) = little_endian 4 i ++ references_bytes is

-- What follows the length in a record: a two-byte kind, the references, the operands.
unfoldable pub body_bytes : Step → List ℕ
body_bytes s = little_endian 2 s.kind ++ (references_bytes s.references ++ operand_bytes s.judgement)

-- A record: four bytes of length, and what follows.
unfoldable pub record_bytes : Step → List ℕ
record_bytes s = little_endian 4 (length (body_bytes s)) ++ body_bytes s

-- The records of the steps, one after another.
unfoldable pub steps_bytes : List Step → List ℕ
steps_bytes [] = []
steps_bytes (s ∷ L) = record_bytes s ++ steps_bytes L

-- How many bytes a ledger with these steps takes at least: four for the length, and the records.
abbrev pub size : List Step → ℕ
size L = 4 + length (steps_bytes L)

-- A ledger of n bytes with these steps: four bytes of length of the records, the records, zeros.
unfoldable pub ledger_bytes : ℕ → List Step → List ℕ
ledger_bytes n L = little_endian 4 (length (steps_bytes L)) ++ (steps_bytes L ++ replicate (n - size L) 0)

-- A step with number i is well formed: its kind has its reference count and predicate, its references are below i, and its operands are allowed.
pub record FormedStep (i : ℕ) (s : Step) : Type 0 where
  pub listed : Listed s.kind (length s.references) (predicate s.judgement)
  pub earlier : AllBelow i s.references
  pub limits : all_allowed (fields (predicate s.judgement)) (operands s.judgement) ≡ true

-- The steps are well formed, counted from i.
abbrev pub FormedFrom : ℕ → List Step → Type 0
FormedFrom i [] = Unit {0}
FormedFrom i (s ∷ L) = FormedStep i s × FormedFrom (suc i) L

-- The steps of a ledger are well formed.
abbrev pub WellFormed : List Step → Type 0
WellFormed L = FormedFrom 0 L

-- The most bytes that a ledger has.
abbrev pub max_ledger : ℕ
max_ledger = 1048576

-- The bytes are a well-formed ledger with these steps.
pub record Holds (l : List ℕ) (L : List Step) : Type 0 where
  pub bytes : l ≡ ledger_bytes (length l) L
  pub fits : size L ≤ length l
  pub small : length l ≤ max_ledger
  pub formed : WellFormed L
