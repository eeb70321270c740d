-- A chained index of a ledger's steps in a list of numbers: how many steps, a head for each bucket, a link for each step, and the places of every 16th.
use Rattle.std.specs.Prelude.{◌≡◌, Bool, true, false, List, ◌++◌, ℕ, zero, suc, ◌+◌, ◌*◌, ◌-◌, ◌/◌, ◌%◌, ◌≤◌, ◌<◌, eqb, leb, length, get_or, set, take, drop, Result, Ok, Err}
use Rattle.formula.specs.Formula.{Face}
use Rattle.calculus.specs.Judgement.{Step, cover}
use Rattle.calculus.specs.Table.{p_cover, predicate}
use Rattle.calculus.specs.Rules.{judgement_at}
use Rattle.calculus.specs.Record.{all_allowed, fields, operands, operand_bytes}
use Rattle.calculus.specs.Emit.{done, run}
use Rattle.calculus.specs.Calls.{emit_cover}
use Rattle.kinds.specs.Kinds.{number_of}
use Rattle.records.specs.Places.{little_at}
use Rattle.ledger.specs.Ledger.{steps_of, Led}
use Rattle.ledger.specs.Noting.{Noted, Notes}

-- One of two numbers.
abbrev pub choose : Bool → ℕ → ℕ → ℕ
choose true a b = a
choose false a b = b

-- Buckets -------------------------------------------------------------------------------
-- Nothing hangs on these but that they are functions of the predicate and the bytes.

-- Two numbers below 4294967296 mixed into a hash below 2147483647.
unfoldable pub mixed : ℕ → ℕ → ℕ → ℕ
mixed h v w = (h * 1540483477 + v * 1640531527 + w) % 2147483647

-- The first n blocks of eight bytes.
unfoldable pub blocks_of : ℕ → ℕ → List ℕ → ℕ
blocks_of zero h s = h
blocks_of (suc n) h s = mixed (blocks_of n h s) (little_at 4 s (8 * n)) (little_at 4 s (8 * n + 4))

-- The first n bytes.
unfoldable pub bytes_of : ℕ → ℕ → List ℕ → ℕ
bytes_of zero h s = h
bytes_of (suc n) h s = mixed (bytes_of n h s) 0 (get_or s n 0)

-- All bytes: blocks of eight, then the last eight (of fewer than eight, the first and the last four); or byte by byte, where there are fewer than four.
unfoldable pub hash_of : ℕ → List ℕ → ℕ
hash_of p s =
    choose (leb 4 (length s))
    (mixed (blocks_of ((length s - 1) / 8) (p % 2147483647) s) (little_at 4 s (length s - 8)) (little_at 4 s (length s - 4)))
    (bytes_of (length s) (p % 2147483647) s)

-- The bucket among H of a predicate and operands.
unfoldable pub bucket_of : ℕ → ℕ → List ℕ → ℕ
bucket_of H p operands = hash_of p operands % H

-- The bucket of step i.
abbrev pub bucket_at : ℕ → List Step → ℕ → ℕ
bucket_at H L i = bucket_of H (number_of (predicate (judgement_at L i))) (operand_bytes (judgement_at L i))

-- Chains --------------------------------------------------------------------------------

-- One more than the number of the last of the first n steps in a bucket, 0 where there is none.
unfoldable pub last : ℕ → List Step → ℕ → ℕ → ℕ
last H L b zero = 0
last H L b (suc i) = choose (eqb (bucket_at H L i) b) (suc i) (last H L b i)

-- A list of numbers has groups of 21: four heads, sixteen links and a place.
abbrev pub groups_of : List ℕ → ℕ
groups_of x = (length x - 2) / 21

-- How many buckets it has.
abbrev pub heads_of : List ℕ → ℕ
heads_of x = 4 * groups_of x + 1

-- Where its places begin, behind the count, the heads and the links.
abbrev pub places_from : List ℕ → ℕ
places_from x = length x - groups_of x

-- The search for the judgement of step i has been made: made again, it appends nothing and answers i.
abbrev pub Finished : List Step → ℕ → Type 0
Finished L i = (G : List Face) (g : Face) → judgement_at L i ≡ cover G g → (room : List Step → Bool) → run room (emit_cover G g) L ≡ done i L

-- What a link's number has more where the search for its step is finished.
abbrev pub mark : ℕ
mark = 2147483648

-- The list is the index, with H buckets and places from P on, of the first n steps: their count, the heads, for each step the link to the one before it in its bucket, marked only where its search is finished, and the place of every 16th step.
pub record IndexedTo (H P : ℕ) (L : List Step) (x : List ℕ) (n : ℕ) : Type 0 where
  pub count : get_or x 0 0 ≡ n
  pub head : (b : ℕ) → b < H → get_or x (1 + b) 0 ≡ last H L b n
  pub link : (i : ℕ) → i < n → get_or x (1 + H + i) 0 % mark ≡ last H L (bucket_at H L i) i
  pub marks : (i : ℕ) → i < n → mark ≤ get_or x (1 + H + i) 0 → Finished L i
  pub places : Noted L n (drop P x)

-- There is room for every step that the ledger has room for: a record has eight bytes or more.
abbrev pub Roomy : List ℕ → List ℕ → Type 0
Roomy l x = length l ≤ 128 * groups_of x

-- The list is the index of all steps of a ledger.
pub record Indexed (l x : List ℕ) : Type 0 where
  pub led : Led l
  pub room : Roomy l x
  pub steps : IndexedTo (heads_of x) (places_from x) (steps_of l) x (length (steps_of l))

-- For a private contract: the link and the head of one step more behind n others, in bucket b of H, and the count.
unfoldable pub linked : ℕ → ℕ → List ℕ → ℕ → List ℕ
linked H n x b = set (set (set x (1 + H + n) (get_or x (1 + b) 0)) (1 + b) (n + 1)) 0 (n + 1)

-- For a private contract: the place of step n is noted, from P on.
pub record Placed (P n at : ℕ) (x x' : List ℕ) : Type 0 where
  pub noted : List ℕ
  pub notes : Notes n at (drop P x) noted
  pub whole : x' ≡ take P x ++ noted

-- For a private contract: one step more behind n others, in bucket b of H, with its record at a place, which is noted from P on.
pub record Entered (H P n : ℕ) (x : List ℕ) (b at : ℕ) (x' : List ℕ) : Type 0 where
  pub base : List ℕ
  pub placed : Placed P n at x base
  pub whole : x' ≡ linked H n base b

-- For a private contract: there is room for one step more.
abbrev pub Enterable : List ℕ → Type 0
Enterable x = (get_or x 0 0 < 1048576) × (get_or x 0 0 < 16 * groups_of x)

-- For a private contract: one step more, where there is room.
abbrev pub Enters : List ℕ → ℕ → ℕ → List ℕ → Type 0
Enters x b at x' = Enterable x → Entered (heads_of x) (places_from x) (get_or x 0 0) x b at x'

-- For a private contract: a mark more, at step i.
unfoldable pub marked : ℕ → List ℕ → ℕ → List ℕ
marked H x i = set x (1 + H + i) (get_or x (1 + H + i) 0 + mark)

-- What is known of the search for a cover judgement with these operands: that it is finished and answers i, or nothing.
abbrev pub Knows : List Step → List ℕ → Result ℕ ℕ → Type 0
Knows L o (Ok i) = (G : List Face) (g : Face) → all_allowed (fields p_cover) (operands (cover G g)) ≡ true → operand_bytes (cover G g) ≡ o → (room : List Step → Bool) → run room (emit_cover G g) L ≡ done i L
Knows L o (Err n) = Unit {0}
