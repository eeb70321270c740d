-- Numbers at places of a list, and where readings end. The definitions behind `little_at` serve private contracts only.
use Rattle.std.specs.Prelude.{List, ℕ, zero, suc, ◌+◌, ◌*◌, ◌-◌, leb, length, get_or, drop, Option, Some, None}
use Rattle.formula.specs.declared.Sort.TheVariants.{Faces, Intervals}
use Rattle.formula.specs.Bytes.{Got, nothing, got, then, take_dim}
use Rattle.calculus.specs.Record.{Value, allowed}
use Rattle.calculus.specs.Record
use Rattle.calculus.specs.Parse.{only, read_field, read_faces, read_values}
use Rattle.kinds.specs.declared.Field.{Field}
use Rattle.kinds.specs.declared.Field.TheVariants.{Number, Index, Context, End, Face, Interval}

-- The number of so many bytes at a place, the lowest first.
abbrev pub little_at : ℕ → List ℕ → ℕ → ℕ
little_at zero l at = 0
little_at (suc w) l at = get_or l at 0 + 256 * little_at w l (suc at)

-- Where a reading in the list l ends.
abbrev pub ended : {A : Type 0} → List ℕ → Got A → Option ℕ
ended l nothing = None
ended l (got a m) = Some (length l - length m)

-- A field that a ledger may hold, off the front of a list.
unfoldable pub read_allowed : (c : Record.Field) → List ℕ → Got (Value c)
read_allowed c l = then (read_field c l) (λ x m. only (allowed c x) (got x m))

-- Where the field at a place ends.
unfoldable pub end_of : Record.Field → List ℕ → ℕ → Option ℕ
end_of c l at = ended l (read_allowed c (drop at l))

-- Where the field at a place ends, by its kind.
abbrev pub field_end : Field → List ℕ → ℕ → Option ℕ
field_end Number l at = end_of Record.number l at
field_end Index l at = end_of Record.index l at
field_end Context l at = end_of Record.context l at
field_end End l at = end_of Record.end l at
field_end Face l at = end_of (Record.formula Faces) l at
field_end Interval l at = end_of (Record.formula Intervals) l at

-- Where a number ends that is at most so much.
unfoldable pub number_end : List ℕ → ℕ → ℕ → Option ℕ
number_end l at most = ended l (then (take_dim (drop at l)) (λ n m. only (leb n most) (got n m)))

-- Where so many faces end that are a context.
unfoldable pub faces_end : List ℕ → ℕ → ℕ → Option ℕ
faces_end l at n = ended l (then (read_faces n (drop at l)) (λ G m. only (allowed Record.context G) (got G m)))

-- Where fields end that begin at a place.
unfoldable pub values_end : List Record.Field → List ℕ → ℕ → Option ℕ
values_end cs l at = ended l (read_values cs (drop at l))
