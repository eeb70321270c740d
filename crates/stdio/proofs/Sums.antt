-- The sums of Adler's checksum, a byte further.
use Prim.Native.Nat.{ℕ, zero, suc, ◌+◌, ◌<◌, ◌%◌}
use native.Mathlib.Omega.{arith}
use mathlib.Core.Path.{◌≡◌, refl}
use mathlib.Core.List.{List, [], ◌∷◌}
use lib.ListN.{length, drop, get_or}
use Rattle.stdio.specs.Front.{low_sum, high_sum}

low-more : (a : ℕ) (l : List ℕ) (i : ℕ) → i < length l → low_sum a (drop i l) ≡ low_sum ((a + get_or l i 0) % 65521) (drop (suc i) l)
unfolding low_sum
low-more a [] i h = absurd (omega arith)
low-more a (x ∷ l) zero h = refl
low-more a (x ∷ l) (suc i) h = low-more a l i (omega arith)

pub low-next : (a : ℕ) (l : List ℕ) (i : ℕ) → i < length l → low_sum a (drop i l) ≡ low_sum ((a + get_or l i 0) % 65521) (drop (i + 1) l)
low-next a l i h = let z : i + 1 ≡ suc i = omega arith in rw z (low-more a l i h)

high-more : (a b : ℕ) (l : List ℕ) (i : ℕ) → i < length l → high_sum a b (drop i l) ≡ high_sum ((a + get_or l i 0) % 65521) ((b + (a + get_or l i 0) % 65521) % 65521) (drop (suc i) l)
unfolding high_sum
high-more a b [] i h = absurd (omega arith)
high-more a b (x ∷ l) zero h = refl
high-more a b (x ∷ l) (suc i) h = high-more a b l i (omega arith)

pub high-next : (a b : ℕ) (l : List ℕ) (i : ℕ) → i < length l → high_sum a b (drop i l) ≡ high_sum ((a + get_or l i 0) % 65521) ((b + (a + get_or l i 0) % 65521) % 65521) (drop (i + 1) l)
high-next a b l i h = let z : i + 1 ≡ suc i = omega arith in rw z (high-more a b l i h)
