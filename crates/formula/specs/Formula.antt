-- Face formulas and interval expressions, and what they mean at a three-valued assignment
-- (document 01, "Formulas and their meaning"; the face lattice of Cohen, Coquand, Huber and Mörtberg).
use Prim.Native.Nat.{ℕ, pred, zero, suc, compare, Ordering}
use Rattle.std.specs.Prelude.{◌≡◌, Bool, true, false, ◌&&◌, ◌||◌}

-- The two ends of the interval: zero and one.
pub data End : Type 0 where
  lo hi : End
  deriving Discrete as End-discrete

-- The other end.
abbrev pub other : End → End
other lo = hi
other hi = lo

-- The end that a side's number names: 0 is zero, any other number one.
abbrev pub end_of : ℕ → End
end_of zero = lo
end_of (suc n) = hi

-- A face formula: at0 n is `at lo n`, at1 n is `at hi n`.
pub data Face : Type 0 where
  ff ft : Face
  at : End → ℕ → Face
  fand for : Face → Face → Face
  deriving Discrete as Face-discrete

-- An interval expression.
pub data Interval : Type 0 where
  i0 i1 : Interval
  dim : ℕ → Interval
  neg : Interval → Interval
  meet join : Interval → Interval → Interval
  deriving Discrete as Interval-discrete

-- What an assignment gives a dimension: zero, one, or undetermined.
pub data Val : Type 0 where
  v0 v1 vu : Val

abbrev pub Assignment : Type 0
Assignment = ℕ → Val

-- neg swaps zero and one.
abbrev pub neg_v : Val → Val
neg_v v0 = v1
neg_v v1 = v0
neg_v vu = vu

-- meet is zero if a part is, one if both are, else undetermined.
abbrev pub meet_v : Val → Val → Val
meet_v v0 w = v0
meet_v v1 w = w
meet_v vu v0 = v0
meet_v vu v1 = vu
meet_v vu vu = vu

-- join is the mirror of meet.
abbrev pub join_v : Val → Val → Val
join_v v0 w = w
join_v v1 w = v1
join_v vu v0 = vu
join_v vu v1 = v1
join_v vu vu = vu

-- The value of an interval expression.
unfoldable pub value : Interval → Assignment → Val
value i0 σ = v0
value i1 σ = v1
value (dim n) σ = σ n
value (neg r) σ = neg_v (value r σ)
value (meet r s) σ = meet_v (value r σ) (value s σ)
value (join r s) σ = join_v (value r σ) (value s σ)

-- Is the value this end?
abbrev pub is : End → Val → Bool
is lo v0 = true
is lo v1 = false
is lo vu = false
is hi v0 = false
is hi v1 = true
is hi vu = false

-- Does the face hold at the assignment?
unfoldable pub holds : Face → Assignment → Bool
holds ff σ = false
holds ft σ = true
holds (at e n) σ = is e (σ n)
holds (fand a b) σ = holds a σ && holds b σ
holds (for a b) σ = holds a σ || holds b σ

-- Every assignment that satisfies the one face satisfies the other.
abbrev pub Entails : Face → Face → Type 0
Entails a b = (σ : Assignment) → holds a σ ≡ true → holds b σ ≡ true

-- By the place of n beside k: below, at, above.
abbrev pub beside : {A : Type 0} → Ordering → A → A → A → A
beside Ordering.lt a b c = a
beside Ordering.eq a b c = b
beside Ordering.gt a b c = c

-- A value inserted at place k: the places from k on move up by one.
abbrev pub insert : ℕ → Val → Assignment → Assignment
insert k v σ n = beside (compare n k) (σ n) v (σ (pred n))

-- Where dimension n stands once a place is made at k.
abbrev pub raised : ℕ → ℕ → ℕ
raised k n = beside (compare n k) n (suc n) (suc n)

-- Place k removed: the places above k move down by one.
abbrev pub remove : ℕ → Assignment → Assignment
remove k σ n = σ (raised k n)
