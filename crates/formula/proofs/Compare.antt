-- What the native comparison says of two numbers.
use mathlib.Core.Path.{◌≡◌, refl, ◌∙◌}
use Prim.Native.Nat.compare
use Prim.Native.Nat.{ℕ, zero, suc, ◌<◌, compare, Ordering}
use native.Mathlib.Omega.{arith}

-- A number below another is compared as less.
pub compare-lt : (n k : ℕ) → n < k → compare n k ≡ Ordering.lt
compare-lt n zero h = absurd (omega arith)
compare-lt zero (suc k) h = compare.zero-suc k
compare-lt (suc n) (suc k) h = compare.suc-suc n k ∙ compare-lt n k (omega arith)

-- A number is compared with itself as equal.
pub compare-eq : (n : ℕ) → compare n n ≡ Ordering.eq
compare-eq zero = compare.zero-zero
compare-eq (suc n) = compare.suc-suc n n ∙ compare-eq n

-- A number above another is compared as greater.
pub compare-gt : (n k : ℕ) → k < n → compare n k ≡ Ordering.gt
compare-gt zero k h = absurd (omega arith)
compare-gt (suc n) zero h = compare.suc-zero n
compare-gt (suc n) (suc k) h = compare.suc-suc n k ∙ compare-gt n k (omega arith)

-- What an answer of the comparison says of the two numbers.
abbrev pub Compares : Ordering → ℕ → ℕ → Type 0
Compares Ordering.lt n k = n < k
Compares Ordering.eq n k = n ≡ k
Compares Ordering.gt n k = k < n

-- The comparison says what is so.
pub stands : (n k : ℕ) → Compares (compare n k) n k
stands zero zero = refl
stands zero (suc k) = rw compare.zero-suc (omega arith)
stands (suc n) zero = rw compare.suc-zero (omega arith)
stands (suc n) (suc k) = rw compare.suc-suc (up (compare n k) (stands n k))
  where
    up : (o : Ordering) → Compares o n k → Compares o (suc n) (suc k)
    up Ordering.lt h = omega arith
    up Ordering.eq h = omega arith
    up Ordering.gt h = omega arith

-- A number compared as less is below the other.
pub lt-of-compare : (n k : ℕ) → compare n k ≡ Ordering.lt → n < k
lt-of-compare n k e = rw e at (stands n k)

-- Numbers compared as equal are equal.
pub eq-of-compare : (n k : ℕ) → compare n k ≡ Ordering.eq → n ≡ k
eq-of-compare n k e = rw e at (stands n k)

-- A number compared as greater is above the other.
pub gt-of-compare : (n k : ℕ) → compare n k ≡ Ordering.gt → k < n
gt-of-compare n k e = rw e at (stands n k)
