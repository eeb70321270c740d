-- The digits of numbers as lists of bits, by the number of digits.
use Prim.Native.Nat.{ℕ, zero, suc, ◌+◌, ◌-◌, ◌*◌, ◌/◌, ◌%◌, ◌^◌, ◌≤◌, ◌<◌, min, max, Ordering}
use native.Mathlib.Nat.{zero-min, min-zero, suc-min-suc, zero-max, max-zero, suc-max-suc, div-one}
use native.Mathlib.Numerals.{add-one, one-add}
use native.Mathlib.Omega.{arith}
use mathlib.Core.Path.{◌≡◌, refl, sym, ap, ap₂, ◌∙◌}
use mathlib.Core.Bool.{Bool, true, false, ◌&&◌, ◌||◌, not, or-true, or-false}
use mathlib.Core.List.{List, [], ◌∷◌, ◌++◌, map, zip_with}
use lib.Arith.{lt-one}
use lib.Bits.{bit_and, bit_or, bit_xor, differ, and_mask, and_step, or_step, xor_step, and_le_l, and_le_r, or_add_and, or_zero_r, xor_lt, xor_add_and, block_half, block_odd}
use lib.Count.{ones, ones_step, count_trailing_zeros, under}
use lib.Dec.{eqb}
use lib.ListN.{length, get_or, set, replicate}
use lib.Pow.{field, mod-mod-pow, shr-shr}
use borrow.Author.Tests.{ne_eqb}
use Rattle.formula.specs.Answers.{pick}
use Rattle.clauses.specs.Normal.{any}
use Rattle.clauses.specs.Words.{positive, bits_of, some, count, ands, ors, without, opposites_from, apart, order_bits}

-- What holds of 0 and of 1 holds of a digit.
pub binary : (P : ℕ → Type 0) → P 0 → P 1 → (n : ℕ) → P (n % 2)
binary P p q n = go (n % 2) (omega arith)
  where
    go : (d : ℕ) → d < 2 → P d
    go zero h = p
    go (suc zero) h = q
    go (suc (suc d)) h = absurd (omega arith)

-- Tests of a word against 0, and of its lowest digit.
pub nonzero : (n : ℕ) → not (eqb n 0) ≡ positive n
nonzero zero = refl
nonzero (suc n) = ap not (ne_eqb (suc n) 0 (λ e. omega arith))

pub odd : (n : ℕ) → eqb (bit_and n 1) 1 ≡ positive (n % 2)
odd n = ap (λ (d : ℕ). eqb d 1) (and_mask n 1) ∙ binary (λ d. eqb d 1 ≡ positive d) refl refl n

positive-min : (m n : ℕ) → positive (min m n) ≡ (positive m && positive n)
positive-min zero n = ap positive (zero-min n)
positive-min (suc m) zero = ap positive (min-zero (suc m))
positive-min (suc m) (suc n) = ap positive (suc-min-suc m n)

positive-max : (m n : ℕ) → positive (max m n) ≡ (positive m || positive n)
positive-max zero n = ap positive (zero-max n)
positive-max (suc m) zero = ap positive (max-zero (suc m))
positive-max (suc m) (suc n) = ap positive (suc-max-suc m n)

-- The lowest digit of a result, and the digits above it.
and_low : (a b : ℕ) → positive (bit_and a b % 2) ≡ (positive (a % 2) && positive (b % 2))
and_low a b =
    let e : bit_and a b % 2 ≡ min (a % 2) (b % 2) = omega (arith, and_step a b) in
    ap positive e ∙ positive-min (a % 2) (b % 2)

and-half : (a b : ℕ) → bit_and a b / 2 ≡ bit_and (a / 2) (b / 2)
and-half a b = omega (arith, and_step a b)

or-low : (a b : ℕ) → positive (bit_or a b % 2) ≡ (positive (a % 2) || positive (b % 2))
or-low a b =
    let e : bit_or a b % 2 ≡ max (a % 2) (b % 2) = omega (arith, or_step a b) in
    ap positive e ∙ positive-max (a % 2) (b % 2)

or-half : (a b : ℕ) → bit_or a b / 2 ≡ bit_or (a / 2) (b / 2)
or-half a b = omega (arith, or_step a b)

pub length-bits : (k n : ℕ) → length (bits_of k n) ≡ k
unfolding bits_of
length-bits zero n = refl
length-bits (suc k) n = ap suc (length-bits k (n / 2))

pub bits-zero : (k : ℕ) → bits_of k 0 ≡ replicate k false
unfolding bits_of
bits-zero zero = refl
bits-zero (suc k) = ap (λ (l : List Bool). false ∷ l) (bits-zero k)

-- Higher digits do not show.
pub bits-mod : (k n : ℕ) → bits_of k (n % 2 ^ k) ≡ bits_of k n
unfolding bits_of
bits-mod zero n = refl
bits-mod (suc k) n =
    let half : n % 2 ^ suc k / 2 ≡ n / 2 % 2 ^ k = rw add-one at (field n k 1) in
    let low : n % 2 ^ suc k % 2 ≡ n % 2 = rw add-one at (mod-mod-pow n k 1) in
    ap₂ ◌∷◌ (ap positive low) (ap (bits_of k) half ∙ bits-mod k (n / 2))

-- What an operation does to the lowest digits and to the others apart, it does bit by bit.
module _ (op : ℕ → ℕ → ℕ) (f : Bool → Bool → Bool) (low : (a b : ℕ) → positive (op a b % 2) ≡ f (positive (a % 2)) (positive (b % 2)))
    (half : (a b : ℕ) → op a b / 2 ≡ op (a / 2) (b / 2)) where
  bits-zip : (k a b : ℕ) → bits_of k (op a b) ≡ zip_with f (bits_of k a) (bits_of k b)
  unfolding bits_of zip_with
  bits-zip zero a b = refl
  bits-zip (suc k) a b = ap₂ ◌∷◌ (low a b) (ap (bits_of k) (half a b) ∙ bits-zip k (a / 2) (b / 2))

pub bits-and : (k a b : ℕ) → bits_of k (bit_and a b) ≡ ands (bits_of k a) (bits_of k b)
bits-and = bits-zip bit_and ◌&&◌ and_low and-half

pub bits-or : (k a b : ℕ) → bits_of k (bit_or a b) ≡ ors (bits_of k a) (bits_of k b)
bits-or = bits-zip bit_or ◌||◌ or-low or-half

-- A complement depends on the number of digits.
bits-not : (k n : ℕ) → n < 2 ^ k → bits_of k (2 ^ k - 1 - n) ≡ map not (bits_of k n)
unfolding bits_of
bits-not zero n h = refl
bits-not (suc k) n h =
    let half : (2 ^ suc k - 1 - n) / 2 ≡ 2 ^ k - 1 - n / 2 = omega arith in
    let low : (2 ^ suc k - 1 - n) % 2 ≡ 1 - n % 2 = omega arith in
    ap₂ ◌∷◌ (ap positive low ∙ binary (λ d. positive (1 - d) ≡ not (positive d)) refl refl n) (ap (bits_of k) half ∙ bits-not k (n / 2) (omega arith))

zip-not : (x y : List Bool) → ands x (map not y) ≡ without x y
unfolding zip_with
zip-not [] y = refl
zip-not (p ∷ x) [] = refl
zip-not (p ∷ x) (q ∷ y) = ap (λ (l : List Bool). (p && not q) ∷ l) (zip-not x y)

pub bits-without : (k a b : ℕ) → b < 2 ^ k → bits_of k (bit_and a (2 ^ k - 1 - b)) ≡ without (bits_of k a) (bits_of k b)
bits-without k a b h = bits-and k a (2 ^ k - 1 - b) ∙ ap (ands (bits_of k a)) (bits-not k b h) ∙ zip-not (bits_of k a) (bits_of k b)

positive-step : (n : ℕ) → (positive (n % 2) || positive (n / 2)) ≡ positive n
positive-step zero = refl
positive-step (suc n) = go (suc n % 2) (suc n / 2) (omega arith)
  where
    go : (d q : ℕ) → q * 2 + d ≡ suc n → (positive d || positive q) ≡ true
    go zero zero e = absurd (omega arith)
    go zero (suc q) e = refl
    go (suc d) q e = refl

-- A bit is set exactly where the number is not 0.
pub some_bits : (k n : ℕ) → n < 2 ^ k → some (bits_of k n) ≡ positive n
unfolding bits_of any
some_bits zero n h = ap positive (sym (lt-one h))
some_bits (suc k) n h = ap (λ (x : Bool). positive (n % 2) || x) (some_bits k (n / 2) (omega arith)) ∙ positive-step n

pub positive-or : (a b : ℕ) → positive (bit_or a b) ≡ (positive a || positive b)
positive-or a b = go a b (bit_or a b) (omega (arith, or_add_and a b, and_le_l a b, and_le_r a b)) (omega (arith, or_add_and a b))
  where
    go : (a b n : ℕ) → a + b ≤ n + n → n ≤ a + b → positive n ≡ (positive a || positive b)
    go zero zero zero h l = refl
    go zero zero (suc n) h l = absurd (omega arith)
    go zero (suc b) zero h l = absurd (omega arith)
    go zero (suc b) (suc n) h l = refl
    go (suc a) b zero h l = absurd (omega arith)
    go (suc a) b (suc n) h l = refl

-- As many bits are set as digits.
pub count_bits : (k n : ℕ) → n < 2 ^ k → count (bits_of k n) ≡ ones n
unfolding bits_of count ones
count_bits zero n h = ap ones (sym (lt-one h))
count_bits (suc k) n h = ap₂ ◌+◌ (binary (λ d. pick (positive d) 1 0 ≡ d) refl refl n) (count_bits k (n / 2) (omega arith)) ∙ sym (ones_step n)

pub halved : (n j : ℕ) → n / 2 / 2 ^ j ≡ n / 2 ^ suc j
halved n j = rw one-add at (shr-shr n 1 j)

-- The bit at a place.
pub get_or-bits : (k n j : ℕ) → j < k → get_or (bits_of k n) j false ≡ positive (n / 2 ^ j % 2)
unfolding bits_of
get_or-bits zero n j h = absurd (omega arith)
get_or-bits (suc k) n zero h = ap (λ (x : ℕ). positive (x % 2)) (sym (div-one n))
get_or-bits (suc k) n (suc j) h = get_or-bits k (n / 2) j (omega arith) ∙ ap (λ (x : ℕ). positive (x % 2)) (halved n j)

-- One digit more.
pub set-bits : (k n j : ℕ) → j < k → bits_of k (bit_or n (2 ^ j)) ≡ set (bits_of k n) j true
unfolding bits_of
set-bits zero n j h = absurd (omega arith)
set-bits (suc k) n zero h = ap₂ ◌∷◌ (or-low n 1 ∙ or-true (positive (n % 2))) (ap (bits_of k) (or-half n 1 ∙ or_zero_r (n / 2)))
set-bits (suc k) n (suc j) h =
    let half : 2 ^ suc j / 2 ≡ 2 ^ j = omega arith in
    let even : 2 ^ suc j % 2 ≡ 0 = omega arith in
    ap₂ ◌∷◌
    (or-low n (2 ^ suc j) ∙ ap (λ (x : ℕ). positive (n % 2) || positive x) even ∙ or-false (positive (n % 2)))
    (ap (bits_of k) (or-half n (2 ^ suc j) ∙ ap (bit_or (n / 2)) half) ∙ set-bits k (n / 2) j (omega arith))

-- The opposites in one word: s has each bit in the place of the one before it, c is the digit that comes in below.
opposite-low : (m s n c : ℕ) → c < 2 → positive (bit_or (bit_and m s) (bit_and m n * 2 + c) % 2) ≡ (positive (m % 2) && positive (s % 2) || positive c)
opposite-low m s n c d =
    let e : (bit_and m n * 2 + c) % 2 ≡ c = omega arith in
    or-low (bit_and m s) (bit_and m n * 2 + c) ∙ ap₂ ◌||◌ (and_low m s) (ap positive e)

pub bits-opposites : (k m n z c : ℕ) → n < 2 ^ suc k → c < 2
    → bits_of (suc k) (bit_or (bit_and m (z * 2 ^ k + n / 2)) (bit_and m n * 2 + c)) ≡ opposites_from (positive c) (bits_of (suc k) m) (bits_of (suc k) n) (positive (z % 2))
unfolding bits_of opposites_from
bits-opposites zero m n z c h d =
    let e : (z * 1 + n / 2) % 2 ≡ z % 2 = omega arith in
    ap (λ (x : Bool). x ∷ []) (opposite-low m (z * 1 + n / 2) n c d ∙ ap (λ (x : ℕ). positive (m % 2) && positive x || positive c) e)
bits-opposites (suc k) m n z c h d =
    let s : ℕ = z * 2 ^ suc k + n / 2 in
    let half : (bit_and m n * 2 + c) / 2 ≡ bit_and (m / 2) (n / 2) * 2 + min (m % 2) (n % 2) = omega (arith, and_step m n) in
    ap₂ ◌∷◌
    (opposite-low m s n c d ∙ ap (λ (x : ℕ). positive (m % 2) && positive x || positive c) (block_odd z k (n / 2)))
    (ap (bits_of (suc k)) (or-half (bit_and m s) (bit_and m n * 2 + c) ∙ ap₂ bit_or (and-half m s ∙ ap (bit_and (m / 2)) (block_half z k (n / 2))) half)
    ∙ bits-opposites k (m / 2) (n / 2) z (min (m % 2) (n % 2)) (omega arith) (omega arith)
    ∙ ap (λ (x : Bool). opposites_from x (bits_of (suc k) (m / 2)) (bits_of (suc k) (n / 2)) (positive (z % 2))) (positive-min (m % 2) (n % 2)))

pub some-append : (a b : List Bool) → some (a ++ b) ≡ (some a || some b)
unfolding any
some-append [] b = refl
some-append (true ∷ a) b = refl
some-append (false ∷ a) b = some-append a b

-- The lowest digit of a number that is not 0 is within its length.
trailing_lt : (k n : ℕ) → n < 2 ^ k → 0 < n → count_trailing_zeros k n < k
unfolding count_trailing_zeros
trailing_lt zero n h p = absurd (omega arith)
trailing_lt (suc k) n h p = go (n % 2) refl (trailing_lt k (n / 2) (omega arith))
  where
    go : (d : ℕ) → n % 2 ≡ d → (0 < n / 2 → count_trailing_zeros k (n / 2) < k) → under d (count_trailing_zeros k (n / 2)) < suc k
    go zero e more = let l : count_trailing_zeros k (n / 2) < k = more (omega arith) in omega arith
    go (suc d) e more = omega arith

-- Words that differ do so within their length.
pub differ-lt : (k a b : ℕ) → a < 2 ^ k → b < 2 ^ k → (a ≡ b → ⊥) → count_trailing_zeros k (bit_xor a b) < k
differ-lt k a b p q ne = trailing_lt k (bit_xor a b) (xor_lt k a b p q) (go (bit_xor a b) refl)
  where
    go : (n : ℕ) → bit_xor a b ≡ n → 0 < n
    go zero e = absurd (ne (omega (arith, xor_add_and a b, and_le_l a b, and_le_r a b)))
    go (suc n) e = omega arith

-- Has the first clause the literal in which two differ, and has either one a literal from there on?
abbrev pub ahead : Bool → Bool → Bool → Ordering
ahead has a b = pick has (pick b Ordering.lt Ordering.gt) (pick a Ordering.gt Ordering.lt)

-- The order of two words of k digits that differ first at the digit t, with more digits behind them.
abbrev pub Ordered : ℕ → ℕ → ℕ → ℕ → List Bool → List Bool → Type 0
Ordered k t a b x y = order_bits (bits_of k a ++ x) (bits_of k b ++ y) ≡ ahead (positive (a / 2 ^ t % 2)) (positive (a / 2 ^ t) || some x) (positive (b / 2 ^ t) || some y)

-- A digit in which they agree.
ordered_same : (k t a b : ℕ) (x y : List Bool) → a % 2 ≡ b % 2 → Ordered k t (a / 2) (b / 2) x y → Ordered (suc k) (suc t) a b x y
unfolding bits_of order_bits
ordered_same k t a b x y e h =
    rw e (go (positive (b % 2)) _ _ _ ∙ h ∙ ap₂ (λ (m n : ℕ). ahead (positive (m % 2)) (positive m || some x) (positive n || some y)) (halved a t) (halved b t))
  where
    go : (z u v : Bool) (o : Ordering) → apart z z u v o ≡ o
    go true u v o = refl
    go false u v o = refl

-- An even word, with more digits behind it.
some-even : (k n : ℕ) (x : List Bool) → n < 2 ^ suc k → n % 2 ≡ 0 → some (bits_of k (n / 2) ++ x) ≡ (positive n || some x)
some-even k n x h e =
    some-append (bits_of k (n / 2)) x
    ∙ ap (λ (z : Bool). z || some x) (some_bits k (n / 2) (omega arith) ∙ ap (λ (d : ℕ). positive d || positive (n / 2)) (sym e) ∙ positive-step n)

-- One digit.
module _ (k t a b : ℕ) (x y : List Bool) (p : a < 2 ^ suc k) (q : b < 2 ^ suc k) (ne : a ≡ b → ⊥) (more : (a / 2 ≡ b / 2 → ⊥) → Ordered k t (a / 2) (b / 2) x y) where
  ordered-turn : Ordered (suc k) (under (differ (a % 2) (b % 2)) t) a b x y
  unfolding bits_of order_bits
  ordered-turn =
      binary (λ d. a % 2 ≡ d → Ordered (suc k) (under (differ d (b % 2)) t) a b x y)
      (λ f. binary (λ e. b % 2 ≡ e → Ordered (suc k) (under (differ 0 e) t) a b x y)
      (λ g. ordered_same k t a b x y (f ∙ sym g) (more (λ h. ne (omega arith))))
      (λ g. rw (div-one a, f, g, some-even k a x p f)) b refl)
      (λ f. binary (λ e. b % 2 ≡ e → Ordered (suc k) (under (differ 1 e) t) a b x y)
      (λ g. rw (div-one a, div-one b, f, g, some-even k b y q g))
      (λ g. ordered_same k t a b x y (f ∙ sym g) (more (λ h. ne (omega arith)))) b refl)
      a refl

-- Two words that differ order as their digits from the first difference on.
pub ordered : (k a b : ℕ) (x y : List Bool) → a < 2 ^ k → b < 2 ^ k → (a ≡ b → ⊥) → Ordered k (count_trailing_zeros k (bit_xor a b)) a b x y
unfolding count_trailing_zeros
ordered zero a b x y p q ne = absurd (ne (omega arith))
ordered (suc k) a b x y p q ne =
    let h : differ (a % 2) (b % 2) < 2 = binary (λ d. differ d (b % 2) < 2) (omega arith) (binary (λ e. differ 1 e < 2) (omega arith) (omega arith) b) a in
    let half : bit_xor a b / 2 ≡ bit_xor (a / 2) (b / 2) = omega (arith, xor_step a b) in
    let low : bit_xor a b % 2 ≡ differ (a % 2) (b % 2) = omega (arith, xor_step a b) in
    rw (half, low) (ordered-turn k (count_trailing_zeros k (bit_xor (a / 2) (b / 2))) a b x y p q ne (ordered k (a / 2) (b / 2) x y (omega arith) (omega arith)))
