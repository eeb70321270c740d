-- Byte order is a strict total order on lists of one length, and no list determines more dimensions than it has.
use Prim.Native.Nat.{ℕ, ◌+◌, ◌≤◌, ◌<◌}
use mathlib.Core.Path.{◌≡◌, refl}
use mathlib.Core.Bool.{Bool, true, false}
use mathlib.Core.List.{List, [], ◌∷◌}
use native.Mathlib.Omega.{arith}
use native.Mathlib.Decide.{dec_lt}
use lib.Dec.{ltb}
use lib.ListN.{length}
use Rattle.formula.specs.Answers.{pick}
use Rattle.assignments.specs.Assignments.{determined, Before, lower, same}

-- How two lists stand in byte order.
pub data Compared (l m : List ℕ) : Type 0 where
  earlier : Before l m → Compared l m
  equal : l ≡ m → Compared l m
  later : Before m l → Compared l m

-- Lists that begin alike stand as what follows does.
compared_same : {x y : ℕ} {l m : List ℕ} → x ≡ y → Compared l m → Compared (x ∷ l) (y ∷ m)
compared_same e (earlier b) = rw e (earlier (same b))
compared_same e (equal p) = equal (cc)
compared_same e (later b) = rw e (later (same b))

-- Of two lists of one length, one comes before the other or they are equal.
pub compared : (l m : List ℕ) → length l ≡ length m → Compared l m
compared [] [] e = equal refl
compared [] (y ∷ m) e = absurd (omega arith)
compared (x ∷ l) [] e = absurd (omega arith)
compared (x ∷ l) (y ∷ m) e = go (dec_lt x y) (dec_lt y x) (compared l m (omega arith))
  where
    go : Dec (x < y) → Dec (y < x) → Compared l m → Compared (x ∷ l) (y ∷ m)
    go (yes p) q c = earlier (lower p)
    go (no p) (yes q) c = later (lower q)
    go (no p) (no q) c = compared_same (omega arith) c

-- Byte order is transitive.
pub before-trans : {l m n : List ℕ} → Before l m → Before m n → Before l n
before-trans (lower {x} p) (lower {y = z} q) = let h : x < z = omega arith in lower h
before-trans (lower p) (same c) = lower p
before-trans (same b) (lower q) = lower q
before-trans (same b) (same c) = same (before-trans b c)

-- No list comes before itself.
before-differs : {l m : List ℕ} → Before l m → l ≡ m → ⊥
before-differs (lower {x} {y} p) e = let h : x ≡ y = cc in omega arith
before-differs (same {l = l} {m = m} b) e = before-differs b (let h : l ≡ m = cc in h)

pub before-irrefl : {l : List ℕ} → Before l l → ⊥
before-irrefl b = before-differs b refl

-- A list determines at most as many dimensions as it has bytes.
pub determined-long : (l : List ℕ) → determined l ≤ length l
unfolding determined
determined-long [] = omega arith
determined-long (b ∷ l) = go (ltb b 2) (determined-long l)
  where
    go : (t : Bool) → determined l ≤ length l → pick t 1 0 + determined l ≤ length (b ∷ l)
    go true h = omega arith
    go false h = omega arith
