-- What the table of kinds answers.
use Rattle.std.specs.Prelude.{◌≡◌, Option, Some, None, List, [], ◌∷◌, map, ℕ, get_or, slice_get}
use Rattle.formula.specs.declared.Sort.TheVariants.{Faces, Intervals}
use Rattle.calculus.specs.Table.{Pred, p_lt, p_le, p_interval, p_face, p_member, p_take, p_cover, p_entails, p_boundary, p_local, p_fforall, p_ishift, p_isubst, p_fshift, p_fsubst, Entry, entry, unlisted, entry_of, text_bytes}
use Rattle.calculus.specs.Record.{fields}
use Rattle.calculus.specs.Record
use Rattle.kinds.specs.declared.Entry.{Entry as RowRead}
use Rattle.kinds.specs.declared.table.Row.{Row}
use Rattle.kinds.specs.declared.Field.{Field}
use Rattle.kinds.specs.declared.Field.TheVariants.{Number, Index, Context, End, Face, Interval}

-- The predicates are numbered from 0 in document 01's order.
abbrev pub number_of : Pred → ℕ
number_of p_lt = 0
number_of p_le = 1
number_of p_interval = 2
number_of p_face = 3
number_of p_member = 4
number_of p_take = 5
number_of p_cover = 6
number_of p_entails = 7
number_of p_boundary = 8
number_of p_local = 9
number_of p_fforall = 10
number_of p_ishift = 11
number_of p_isubst = 12
number_of p_fshift = 13
number_of p_fsubst = 14

-- The predicate of a number.
abbrev pub predicate_of : ℕ → Pred
predicate_of n = get_or (p_lt ∷ p_le ∷ p_interval ∷ p_face ∷ p_member ∷ p_take ∷ p_cover ∷ p_entails ∷ p_boundary ∷ p_local ∷ p_fforall ∷ p_ishift ∷ p_isubst ∷ p_fshift ∷ p_fsubst ∷ []) n p_lt

-- What is answered for an entry.
abbrev pub entry_as : Entry → Option RowRead
entry_as (entry name n p) = Some (record { references = n; predicate = number_of p })
entry_as unlisted = None

-- The bytes of the name in an entry.
abbrev pub name_in : Entry → List ℕ
name_in (entry name n p) = text_bytes name
name_in unlisted = []

-- The bytes of the name of a kind; none where the number is no kind.
unfoldable pub name_bytes : ℕ → List ℕ
name_bytes k = name_in (entry_of k)

-- What is answered for a row.
abbrev pub row_as : Row → Option RowRead
row_as r = Some (record { references = r.1; predicate = r.2 })

-- For a private contract: the row has the name, the count and the number of the predicate in the entry.
abbrev pub RowIs : Entry → Row → Type 0
RowIs e r = (r.0.now ≡ name_in e) × (row_as r ≡ entry_as e)

-- For a private contract: the same of all rows, column by column.
abbrev pub RowsAre : List Entry → List Row → Type 0
RowsAre t R = (map (λ r. r.0.now) R ≡ map name_in t) × (map row_as R ≡ map entry_as t)

-- A field as it is answered.
abbrev pub field_as : Record.Field → Field
field_as Record.number = Number
field_as Record.index = Index
field_as Record.context = Context
field_as Record.end = End
field_as (Record.formula Faces) = Face
field_as (Record.formula Intervals) = Interval

-- Field j of the predicate with this number, if it has as many.
unfoldable pub field_at : ℕ → ℕ → Option Field
field_at p j = slice_get (map field_as (fields (predicate_of p))) j
