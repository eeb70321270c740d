-- Clauses as bits, a bit for each of 256 literals. These definitions serve the contracts of private functions.
use Prim.Native.Nat.{ℕ, zero, suc, ◌+◌, ◌*◌, ◌/◌, ◌%◌, ◌^◌, Ordering}
use Rattle.std.specs.Prelude.{◌≡◌, Bool, true, false, ◌&&◌, ◌||◌, not, eqb, ltb, get_or}
use mathlib.Core.List.{List, [], ◌∷◌, ◌++◌, zip_with}
use Rattle.std.specs.Int.Bits.{bit_or}
use Rattle.formula.specs.Answers.{pick}
use Rattle.clauses.specs.Normal.{any, opposite, Handling}
use Rattle.clauses.specs.declared.Clause.{Clause}

-- Is a number more than 0?
abbrev pub positive : ℕ → Bool
positive zero = false
positive (suc n) = true

-- The k lowest digits of a number, lowest first.
unfoldable pub bits_of : ℕ → ℕ → List Bool
bits_of zero n = []
bits_of (suc k) n = positive (n % 2) ∷ bits_of k (n / 2)

-- The bits of a clause: those of its words, one after another.
unfoldable pub bits : Clause → List Bool
bits c = bits_of 64 c.w0 ++ (bits_of 64 c.w1 ++ (bits_of 64 c.w2 ++ bits_of 64 c.w3))

-- The literals whose bits are set.
unfoldable pub select : {A : Type 0} → List A → List Bool → List A
select [] b = []
select (k ∷ ks) [] = []
select (k ∷ ks) (x ∷ b) = pick x (k ∷ select ks b) (select ks b)

-- Is a bit set?
abbrev pub some : List Bool → Bool
some b = any (λ x. x) b

-- How many are.
unfoldable pub count : List Bool → ℕ
count [] = 0
count (x ∷ b) = pick x 1 0 + count b

-- Bit by bit: both, either, and the bits of the one that the other lacks.
abbrev pub ands : List Bool → List Bool → List Bool
ands a b = zip_with ◌&&◌ a b

abbrev pub ors : List Bool → List Bool → List Bool
ors a b = zip_with ◌||◌ a b

abbrev pub without : List Bool → List Bool → List Bool
without a b = zip_with (λ x y. x && not y) a b

-- The order of two sets of literals: at the first bit in which they differ the one that has it comes first, unless the other ends there.
abbrev pub apart : Bool → Bool → Bool → Bool → Ordering → Ordering
apart true true a b rest = rest
apart true false a b rest = pick b Ordering.lt Ordering.gt
apart false true a b rest = pick a Ordering.gt Ordering.lt
apart false false a b rest = rest

unfoldable pub order_bits : List Bool → List Bool → Ordering
order_bits [] b = Ordering.eq
order_bits (x ∷ a) [] = Ordering.eq
order_bits (x ∷ a) (y ∷ b) = apart x y (some a) (some b) (order_bits a b)

-- Where the next of some literals is the opposite of one.
unfoldable pub adjacent : List ℕ → List Bool
adjacent [] = []
adjacent (k ∷ []) = false ∷ []
adjacent (k ∷ j ∷ ks) = eqb (opposite k) j ∷ adjacent (j ∷ ks)

-- The opposites of the literals of a part of a clause: a bit of the mask is set where the next literal is the opposite.
-- low: the literal before the part is in the clause, and the first of the part is its opposite; next: the literal behind the part is in the clause.
unfoldable pub opposites_from : Bool → List Bool → List Bool → Bool → List Bool
opposites_from low [] a next = []
opposites_from low (m ∷ mask) [] next = []
opposites_from low (m ∷ mask) (x ∷ a) next = ((m && get_or a 0 next) || low) ∷ opposites_from (m && x) mask a next

-- Of a whole clause.
abbrev pub opposites : List Bool → List Bool → List Bool
opposites mask a = opposites_from false mask a false

-- Word by word.
abbrev pub wordwise : (ℕ → ℕ → ℕ) → Clause → Clause → Clause
wordwise op a b = record { w0 = op a.w0 b.w0; w1 = op a.w1 b.w1; w2 = op a.w2 b.w2; w3 = op a.w3 b.w3 }

-- The words of a union.
unfoldable pub joined : Clause → Clause → Clause
joined a b = wordwise bit_or a b

-- The clause without literals; a clause with the bit of one more rank; and the clause of one rank, without literals where there is no such bit.
abbrev pub none_of : Clause
none_of = record { w0 = 0; w1 = 0; w2 = 0; w3 = 0 }

abbrev pub bit : ℕ → ℕ
bit j = 1 * 2 ^ j % 2 ^ 64

abbrev pub set_in : ℕ → Clause → ℕ → Clause
set_in zero c b = record { w0 = bit_or c.w0 b; w1 = c.w1; w2 = c.w2; w3 = c.w3 }
set_in (suc zero) c b = record { w0 = c.w0; w1 = bit_or c.w1 b; w2 = c.w2; w3 = c.w3 }
set_in (suc (suc zero)) c b = record { w0 = c.w0; w1 = c.w1; w2 = bit_or c.w2 b; w3 = c.w3 }
set_in (suc (suc (suc n))) c b = record { w0 = c.w0; w1 = c.w1; w2 = c.w2; w3 = bit_or c.w3 b }

unfoldable pub with_of : Clause → ℕ → Clause
with_of c r = set_in (r / 64) c (bit (r % 64))

unfoldable pub single_of : ℕ → Clause
single_of r = pick (ltb r 256) (with_of none_of r) none_of

-- Is the one inside the other, which has more?
unfoldable pub below_bits : List Bool → List Bool → Bool
below_bits a b = not (some (without a b)) && some (without b a)

-- How clauses are handled as words, by a mask of opposites.
unfoldable pub order_of : Clause → Clause → Ordering
order_of a b = order_bits (bits a) (bits b)

unfoldable pub below_of : Clause → Clause → Bool
below_of a b = below_bits (bits a) (bits b)

unfoldable pub against_by : Clause → Clause → Clause → Bool
against_by mask a b = some (ands (opposites (bits mask) (bits a)) (bits b))

unfoldable pub meet_of : Clause → Clause → Bool
meet_of a b = some (ands (bits a) (bits b))

abbrev pub words : Clause → Handling Clause
words mask = record { order = order_of; below = below_of; against = against_by mask; joined = joined }

-- The same for one clause, by the opposites of its literals.
abbrev pub facing : Clause → Handling Clause
facing o = record { order = order_of; below = below_of; against = λ c d. meet_of o d; joined = joined }

pub record Opposes (mask c o : Clause) : Type 0 where
  pub says : bits o ≡ opposites (bits mask) (bits c)
