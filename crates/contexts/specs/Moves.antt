-- The answers of the tests of a context, as moves, and the moves that close the search.
use Rattle.std.specs.Prelude.{◌≡◌, Bool, true, false, List, [], ◌∷◌, ◌++◌, ℕ, suc, ◌+◌, ◌-◌, ◌*◌, ◌≤◌, ◌<◌, length, get_or, set, take, drop, Option, None, Some, Result, Ok, Err}
use Rattle.formula.specs.Formula.{lo, hi, Face, ff, ft, at, fand, for}
use Rattle.calculus.specs.Search.{Move, by-clash, stuck, split_of, try_left}
use Rattle.calculus.specs.Judgement.{Step, cover}
use Rattle.calculus.specs.Emit.{Program, emit, ◌>>=◌, done, run}
use Rattle.calculus.specs.Calls.{emit_member, emit_cover}

-- The move of a clash at a dimension, if there is one.
abbrev pub clash_by : Option ℕ → Move
clash_by (Some n) = by-clash n
clash_by None = stuck

-- Is the face compound?
abbrev pub compound : Face → Bool
compound ff = false
compound ft = false
compound (at e n) = false
compound (fand x y) = true
compound (for x y) = true

-- The split of the assumptions G, with b before them, at number i; stuck where i is past the end.
abbrev pub split_at : List Face → List Face → ℕ → Move
split_at b G i = split_of (b ++ take i G) (get_or G i ff) (drop (suc i) G)

-- The left try splits G at number i, a compound, whatever is before it.
pub record Compound (G : List Face) (i : ℕ) : Type 0 where
  pub inside : i < length G
  pub splits : (b : List Face) → try_left b G ≡ split_at b G i
  pub there : compound (get_or G i ff) ≡ true

-- The number of the first compound; where there is none, the left try is stuck.
abbrev pub FirstCompound : List Face → Option ℕ → Type 0
FirstCompound G (Some i) = Compound G i
FirstCompound G None = (b : List Face) → try_left b G ≡ stuck

-- A cover step of this kind, from the step that f is in the context.
abbrev pub cover_by : ℕ → Face → List Face → Face → Program
cover_by kind f G g = do
  i ← emit_member f G
  emit kind (i ∷ []) (cover G g)

-- The cover step from the clash of two literals at dimension k.
abbrev pub cover_clash : ℕ → List Face → Face → Program
cover_clash k G g = do
  i ← emit_member (at lo k) G
  j ← emit_member (at hi k) G
  emit 24 (i ∷ j ∷ []) (cover G g)

-- What is known of the search for a goal in a context: that made again over the steps L it appends nothing and answers i, or nothing.
abbrev pub Settled : List Step → List Face → Face → Result ℕ ℕ → Type 0
Settled L G g (Ok i) = (room : List Step → Bool) → run room (emit_cover G g) L ≡ done i L
Settled L G g (Err n) = Unit {0}

-- For a private contract: the face with these bytes is met. Where it is a literal of kind byte b on dimension k, number 2 k + (b - 2) of the table becomes 1, and yes is said only where that of its opposite is 0; else the table stays.
pub record Meets (l s : List ℕ) (r : Bool) (s' : List ℕ) : Type 0 where
  pub other : get_or l 0 0 < 2 → s' ≡ s
  pub compounds : 3 < get_or l 0 0 → s' ≡ s
  pub keeps : 2 ≤ get_or l 0 0 → get_or l 0 0 ≤ 3 → s' ≡ set s (2 * get_or l 1 0 + (get_or l 0 0 - 2)) 1
  pub free : 2 ≤ get_or l 0 0 → get_or l 0 0 ≤ 3 → r ≡ true → get_or s (2 * get_or l 1 0 + (3 - get_or l 0 0)) 0 ≡ 0
