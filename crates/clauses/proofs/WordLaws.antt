-- The bits of a clause, word by word.
use Prim.Native.Nat.{Ordering}
use Prim.Native.Nat.{ℕ, zero, suc, ◌+◌, ◌-◌, ◌*◌, ◌/◌, ◌%◌, ◌^◌, ◌≤◌, ◌<◌}
use native.Mathlib.Omega.{arith}
use native.Mathlib.Nat.{suc_inj, zero-add, suc-add, one-mul}
use mathlib.Core.Path.{◌≡◌, refl, sym, ap, ap₂, ◌∙◌}
use mathlib.Core.Bool.{Bool, true, false, ◌&&◌, ◌||◌, not, or_assoc}
use mathlib.Core.List.{List, [], ◌∷◌, ◌++◌, zip_with, append-nil}
use lib.Bits.{bit_and, bit_or, bit_xor, and_le_l, and_le_r, or_shifted}
use lib.Count.{ones, ones-le, count_trailing_zeros}
use lib.Dec.{eqb}
use lib.ListN.{length, get_or, set, get_or-append}
use lib.Seq.{get_or-append-add, set-append_left}
use borrow.Author.Tests.{le-leb}
use Rattle.formula.specs.Answers.{pick}
use Rattle.clauses.specs.Words.{positive, bits_of, bits, some, count, ands, ors, without, order_bits, order_of, opposites_from, opposites, wordwise, joined, bit, set_in, with_of, single_of, none_of, meet_of, against_by, Opposes}
use Rattle.clauses.specs.declared.Clause.{Clause}
use Rattle.clauses.proofs.BitLaws.{nonzero, odd, ahead, ordered, length-bits, bits-mod, bits-and, bits-or, bits-without, some-append, some_bits, positive-or, count_bits, set-bits, halved, bits-opposites}

-- It holds of each word of a clause.
pub record Each (P : ℕ → Type 0) (c : Clause) : Type 0 where
  pub at0 : P c.w0
  pub at1 : P c.w1
  pub at2 : P c.w2
  pub at3 : P c.w3

-- The words have 64 digits.
abbrev pub Wide : Clause → Type 0
Wide c = Each (λ n. n < 2 ^ 64) c

-- A part behind another.
zip-append : (f : Bool → Bool → Bool) (a b c d : List Bool) → length a ≡ length b → zip_with f (a ++ c) (b ++ d) ≡ zip_with f a b ++ zip_with f c d
unfolding zip_with
zip-append f [] [] c d e = refl
zip-append f [] (y ∷ b) c d e = absurd (omega arith)
zip-append f (x ∷ a) [] c d e = absurd (omega arith)
zip-append f (x ∷ a) (y ∷ b) c d e = ap (λ (l : List Bool). f x y ∷ l) (zip-append f a b c d (suc_inj e))

count-append : (a b : List Bool) → count (a ++ b) ≡ count a + count b
unfolding count
count-append [] b = omega arith
count-append (x ∷ a) b = omega (arith, count-append a b)

-- The bits from the second word of a clause on, and from the third.
abbrev pub from1 : Clause → List Bool
from1 c = bits_of 64 c.w1 ++ (bits_of 64 c.w2 ++ bits_of 64 c.w3)

abbrev pub from2 : Clause → List Bool
from2 c = bits_of 64 c.w2 ++ bits_of 64 c.w3

module _ (c : Clause) (w : Wide c) where
  -- A literal is in a clause, or in its words from one on, exactly where these words are not all 0.
  pub some0 : some (bits c) ≡ not (eqb (bit_or (bit_or (bit_or c.w0 c.w1) c.w2) c.w3) 0)
  unfolding bits
  some0 = simp (some-append, nonzero, positive-or, or_assoc, some_bits 64 c.w0 w.at0, some_bits 64 c.w1 w.at1, some_bits 64 c.w2 w.at2, some_bits 64 c.w3 w.at3)

  pub some1 : some (from1 c) ≡ not (eqb (bit_or (bit_or c.w1 c.w2) c.w3) 0)
  some1 = simp (some-append, nonzero, positive-or, or_assoc, some_bits 64 c.w1 w.at1, some_bits 64 c.w2 w.at2, some_bits 64 c.w3 w.at3)

  pub some2 : some (from2 c) ≡ not (eqb (bit_or c.w2 c.w3) 0)
  some2 = simp (some-append, nonzero, positive-or, some_bits 64 c.w2 w.at2, some_bits 64 c.w3 w.at3)

  pub some3 : some (bits_of 64 c.w3) ≡ not (eqb c.w3 0)
  some3 = simp (nonzero, some_bits 64 c.w3 w.at3)

  -- A clause has as many literals as its words have digits.
  pub count-clause : count (bits c) ≡ ones c.w0 + ones c.w1 + ones c.w2 + ones c.w3
  unfolding bits
  count-clause =
      simp (count-append, count_bits 64 c.w0 w.at0, count_bits 64 c.w1 w.at1, count_bits 64 c.w2 w.at2, count_bits 64 c.w3 w.at3) (omega arith)

  pub ones-each : Each (λ n. ones n ≤ 64) c
  ones-each = record { at0 = ones-le 64 c.w0 w.at0; at1 = ones-le 64 c.w1 w.at1; at2 = ones-le 64 c.w2 w.at2; at3 = ones-le 64 c.w3 w.at3 }

-- What is done word by word is done bit by bit.
module _ (op : ℕ → ℕ → ℕ) (f : Bool → Bool → Bool) (P : ℕ → Type 0) (h : (m n : ℕ) → P n → bits_of 64 (op m n) ≡ zip_with f (bits_of 64 m) (bits_of 64 n))
    (a b : Clause) (e : Each P b) where
  bits-wordwise : bits (wordwise op a b) ≡ zip_with f (bits a) (bits b)
  unfolding bits
  bits-wordwise =
      let h0 = h a.w0 b.w0 e.at0 in
      let h1 = h a.w1 b.w1 e.at1 in
      let h2 = h a.w2 b.w2 e.at2 in
      let h3 = h a.w3 b.w3 e.at3 in
      simp (h0, h1, h2, h3, zip-append f, length-bits)

  -- So a test of the words together is one of all bits.
  some-wordwise : ((m n : ℕ) → op m n ≤ m) → Wide a
      → not (eqb (bit_or (bit_or (bit_or (op a.w0 b.w0) (op a.w1 b.w1)) (op a.w2 b.w2)) (op a.w3 b.w3)) 0) ≡ some (zip_with f (bits a) (bits b))
  some-wordwise low w =
      sym (some0 (wordwise op a b) (omega (arith, low a.w0 b.w0, low a.w1 b.w1, low a.w2 b.w2, low a.w3 b.w3))) ∙ ap some bits-wordwise

whatever : (c : Clause) → Each (λ n. Unit {0}) c
whatever c = record { at0 = tt; at1 = tt; at2 = tt; at3 = tt }

pub bits-joined : (a b : Clause) → bits (joined a b) ≡ ors (bits a) (bits b)
unfolding joined
bits-joined a b = bits-wordwise bit_or ◌||◌ (λ n. Unit {0}) (λ m n u. bits-or 64 m n) a b (whatever b)

pub some-and : (a b : Clause) → Wide a
    → not (eqb (bit_or (bit_or (bit_or (bit_and a.w0 b.w0) (bit_and a.w1 b.w1)) (bit_and a.w2 b.w2)) (bit_and a.w3 b.w3)) 0) ≡ some (ands (bits a) (bits b))
some-and a b w = some-wordwise bit_and ◌&&◌ (λ n. Unit {0}) (λ m n u. bits-and 64 m n) a b (whatever b) and_le_l w

-- The literals of m that n lacks.
abbrev minus : ℕ → ℕ → ℕ
minus m n = bit_and m (2 ^ 64 - 1 - n)

pub some-without : (a b : Clause) → Wide a → Wide b
    → not (eqb (bit_or (bit_or (bit_or (minus a.w0 b.w0) (minus a.w1 b.w1)) (minus a.w2 b.w2)) (minus a.w3 b.w3)) 0) ≡ some (without (bits a) (bits b))
some-without a b w v = some-wordwise minus (λ x y. x && not y) (λ n. n < 2 ^ 64) (bits-without 64) a b v (λ m n. and_le_l m (2 ^ 64 - 1 - n)) w

-- A place in a word, and behind it.
get_or-here : (n j : ℕ) (l : List Bool) → j < 64 → get_or (bits_of 64 n ++ l) j false ≡ get_or (bits_of 64 n) j false
get_or-here n j l h = get_or-append (bits_of 64 n) l false j (rw length-bits h)

get_or-behind : (n j : ℕ) (l : List Bool) → get_or (bits_of 64 n ++ l) (64 + j) false ≡ get_or l j false
get_or-behind n j l = ap (λ (k : ℕ). get_or (bits_of 64 n ++ l) (k + j) false) (sym (length-bits 64 n)) ∙ get_or-append-add (bits_of 64 n) l j false

set_word : (k n j : ℕ) → j < k → set (bits_of k n) j true ≡ bits_of k (bit_or n (1 * 2 ^ j % 2 ^ k))
set_word k n j h = simp (bits-or, bits-mod, one-mul) (sym (set-bits k n j h) ∙ bits-or k n (2 ^ j))

set_here : (n j : ℕ) (l : List Bool) → j < 64 → set (bits_of 64 n ++ l) j true ≡ bits_of 64 (bit_or n (bit j)) ++ l
set_here n j l h = set-append_left (bits_of 64 n) l j true (rw length-bits h) ∙ ap (λ (b : List Bool). b ++ l) (set_word 64 n j h)

set-behind : (n j : ℕ) (l : List Bool) → set (bits_of 64 n ++ l) (64 + j) true ≡ bits_of 64 n ++ set l j true
set-behind n j l = ap (λ (k : ℕ). set (bits_of 64 n ++ l) (k + j) true) (sym (length-bits 64 n)) ∙ go (bits_of 64 n)
  where
    go : (b : List Bool) → set (b ++ l) (length b + j) true ≡ b ++ set l j true
    go [] = ap (λ (k : ℕ). set l k true) (zero-add j)
    go (x ∷ b) = ap (λ (k : ℕ). set (x ∷ b ++ l) k true) (suc-add (length b) j) ∙ ap (λ (r : List Bool). x ∷ r) (go b)

-- The bit of a rank, read and set in the word that has it.
module _ (c : Clause) (rank j : ℕ) (h : j < 64) where
  pub get0 : rank ≡ j → get_or (bits_of 64 c.w0) j false ≡ get_or (bits c) rank false
  unfolding bits
  get0 e = rw e (simp get_or-here)

  pub get1 : rank ≡ 64 + j → get_or (bits_of 64 c.w1) j false ≡ get_or (bits c) rank false
  unfolding bits
  get1 e = rw e (simp (get_or-here, get_or-behind))

  pub get2 : rank ≡ 64 + (64 + j) → get_or (bits_of 64 c.w2) j false ≡ get_or (bits c) rank false
  unfolding bits
  get2 e = rw e (simp (get_or-here, get_or-behind))

  pub get3 : rank ≡ 64 + (64 + (64 + j)) → get_or (bits_of 64 c.w3) j false ≡ get_or (bits c) rank false
  unfolding bits
  get3 e = rw e (simp get_or-behind)

  pub set0 : rank ≡ j → bits (record { w0 = bit_or c.w0 (bit j); w1 = c.w1; w2 = c.w2; w3 = c.w3 }) ≡ set (bits c) rank true
  unfolding bits
  set0 e = rw e (simp set_here)

  pub set1 : rank ≡ 64 + j → bits (record { w0 = c.w0; w1 = bit_or c.w1 (bit j); w2 = c.w2; w3 = c.w3 }) ≡ set (bits c) rank true
  unfolding bits
  set1 e = rw e (simp (set_here, set-behind))

  pub set2 : rank ≡ 64 + (64 + j) → bits (record { w0 = c.w0; w1 = c.w1; w2 = bit_or c.w2 (bit j); w3 = c.w3 }) ≡ set (bits c) rank true
  unfolding bits
  set2 e = rw e (simp (set_here, set-behind))

  pub set3 : rank ≡ 64 + (64 + (64 + j)) → bits (record { w0 = c.w0; w1 = c.w1; w2 = c.w2; w3 = bit_or c.w3 (bit j) }) ≡ set (bits c) rank true
  unfolding bits
  set3 e = rw e (simp (set-behind, set_word 64 c.w3 j h))

-- One word of the opposites.
pub opposite-word : (mask word next low : ℕ) → word < 2 ^ 64 → low < 2 ^ 64
    → bits_of 64 (bit_or (bit_and mask (bit_or (next * 2 ^ 63 % 2 ^ 64) (word / 2))) (bit_or (bit_and mask word * 2 % 2 ^ 64) (low / 2 ^ 63)))
    ≡ opposites_from (positive (low / 2 ^ 63)) (bits_of 64 mask) (bits_of 64 word) (positive (next % 2))
opposite-word mask word next low h l =
    let s : next * 2 ^ 63 % 2 ^ 64 ≡ next % 2 * 2 ^ 63 = omega arith in
    let z : next % 2 % 2 ≡ next % 2 = omega arith in
    whole 64 (bit_and mask (bit_or (next * 2 ^ 63 % 2 ^ 64) (word / 2))) (bit_and mask word * 2) (low / 2 ^ 63)
    ∙ ap₂ (λ (m n : ℕ). bits_of 64 (bit_or (bit_and mask m) n))
    (ap (λ (m : ℕ). bit_or m (word / 2)) s ∙ or_shifted (next % 2) 63 (word / 2) (omega arith))
    (or_shifted (bit_and mask word) 1 (low / 2 ^ 63) (omega arith))
    ∙ bits-opposites 63 mask word (next % 2) (low / 2 ^ 63) h (omega arith)
    ∙ ap (λ (n : ℕ). opposites_from (positive (low / 2 ^ 63)) (bits_of 64 mask) (bits_of 64 word) (positive n)) z
  where
    whole : (k x m y : ℕ) → bits_of k (bit_or x (bit_or (m % 2 ^ k) y)) ≡ bits_of k (bit_or x (bit_or m y))
    whole k x m y = simp (bits-or, bits-mod)

-- The last bit of a list, or the one before it.
abbrev last_of : Bool → List Bool → Bool
last_of x [] = x
last_of x (y ∷ a) = last_of y a

last-bits : (k n : ℕ) (x : Bool) → n < 2 ^ suc k → last_of x (bits_of (suc k) n) ≡ positive (n / 2 ^ k)
unfolding bits_of
last-bits zero n x h = let e : n % 2 ≡ n / 1 = omega arith in ap positive e
last-bits (suc k) n x h = last-bits k (n / 2) (positive (n % 2)) (omega arith) ∙ ap positive (halved n k)

-- The first bit of a word.
head-bits : (k n : ℕ) (z : Bool) → get_or (bits_of (suc k) n) 0 z ≡ positive (n % 2)
unfolding bits_of
head-bits k n z = refl

-- The opposites in a part and in the part behind it.
opposites-append : (low : Bool) (m a mask c : List Bool) (z : Bool) → length m ≡ length a
    → opposites_from low (m ++ mask) (a ++ c) z ≡ opposites_from low m a (get_or c 0 z) ++ opposites_from (last_of low (ands m a)) mask c z
unfolding opposites_from zip_with
opposites-append low [] [] mask c z e = refl
opposites-append low [] (x ∷ a) mask c z e = absurd (omega arith)
opposites-append low (y ∷ m) [] mask c z e = absurd (omega arith)
opposites-append low (y ∷ m) (x ∷ a) mask c z e =
    ap₂ ◌∷◌ (ap (λ (b : Bool). (y && b) || low) (go a)) (opposites-append (y && x) m a mask c z (suc_inj e))
  where
    go : (a : List Bool) → get_or (a ++ c) 0 z ≡ get_or a 0 (get_or c 0 z)
    go [] = refl
    go (x ∷ a) = refl

-- A word, and the words behind it.
opposites-words : (low : Bool) (m n : ℕ) (mask c : List Bool) → n < 2 ^ 64
    → opposites_from low (bits_of 64 m ++ mask) (bits_of 64 n ++ c) false
    ≡ opposites_from low (bits_of 64 m) (bits_of 64 n) (get_or c 0 false) ++ opposites_from (positive (bit_and m n / 2 ^ 63)) mask c false
opposites-words low m n mask c h =
    let l : bit_and m n < 2 ^ 64 = omega (arith, and_le_r m n) in
    opposites-append low (bits_of 64 m) (bits_of 64 n) mask c false (simp length-bits)
    ∙ ap (λ (b : Bool). opposites_from low (bits_of 64 m) (bits_of 64 n) (get_or c 0 false) ++ opposites_from b mask c false)
    (ap (last_of low) (sym (bits-and 64 m n)) ∙ last-bits 63 (bit_and m n) low l)

-- The words of the opposites.
module _ (mask c r : Clause) (w : Wide c) where
  pub opposites-clause : bits_of 64 r.w0 ≡ opposites_from false (bits_of 64 mask.w0) (bits_of 64 c.w0) (positive (c.w1 % 2))
      → bits_of 64 r.w1 ≡ opposites_from (positive (bit_and mask.w0 c.w0 / 2 ^ 63)) (bits_of 64 mask.w1) (bits_of 64 c.w1) (positive (c.w2 % 2))
      → bits_of 64 r.w2 ≡ opposites_from (positive (bit_and mask.w1 c.w1 / 2 ^ 63)) (bits_of 64 mask.w2) (bits_of 64 c.w2) (positive (c.w3 % 2))
      → bits_of 64 r.w3 ≡ opposites_from (positive (bit_and mask.w2 c.w2 / 2 ^ 63)) (bits_of 64 mask.w3) (bits_of 64 c.w3) false
      → bits r ≡ opposites (bits mask) (bits c)
  unfolding bits
  opposites-clause e0 e1 e2 e3 =
      let h0 = w.at0 in
      let h1 = w.at1 in
      let h2 = w.at2 in
      let first : 0 < 64 = omega arith in
      simp (e0, e1, e2, e3, opposites-words, get_or-here, head-bits 63)

-- Words in which two clauses agree do not matter to their order.
order_same : (l x y : List Bool) → order_bits (l ++ x) (l ++ y) ≡ order_bits x y
unfolding order_bits
order_same [] x y = refl
order_same (true ∷ l) x y = order_same l x y
order_same (false ∷ l) x y = order_same l x y

order-word : (m n : ℕ) (x y : List Bool) → m ≡ n → order_bits x y ≡ order_bits (bits_of 64 m ++ x) (bits_of 64 n ++ y)
order-word m n x y e = rw e (sym (order_same (bits_of 64 n) x y))

module _ (a b : Clause) (e0 : a.w0 ≡ b.w0) where
  pub order1 : order_bits (from1 a) (from1 b) ≡ order_of a b
  unfolding order_of bits
  order1 = order-word a.w0 b.w0 (from1 a) (from1 b) e0

  module _ (e1 : a.w1 ≡ b.w1) where
    pub order2 : order_bits (from2 a) (from2 b) ≡ order_of a b
    order2 = order-word a.w1 b.w1 (from2 a) (from2 b) e1 ∙ order1

    module _ (e2 : a.w2 ≡ b.w2) where
      pub order3 : order_bits (bits_of 64 a.w3) (bits_of 64 b.w3) ≡ order_of a b
      order3 = order-word a.w2 b.w2 (bits_of 64 a.w3) (bits_of 64 b.w3) e2 ∙ order2

      pub order4 : a.w3 ≡ b.w3 → Ordering.eq ≡ order_of a b
      unfolding order_bits
      order4 e3 = simp append-nil at (order-word a.w3 b.w3 [] [] e3) ∙ order3

-- The tests that order two words that differ, with more bits behind them.
module _ (a b : ℕ) (h : a < 2 ^ 64) (l : b < 2 ^ 64) (ne : a ≡ b → ⊥) (x y : List Bool) where
  pub order-first : ahead (eqb (bit_and (a / 2 ^ count_trailing_zeros 64 (bit_xor a b)) 1) 1)
      (not (eqb (a / 2 ^ count_trailing_zeros 64 (bit_xor a b)) 0) || some x) (not (eqb (b / 2 ^ count_trailing_zeros 64 (bit_xor a b)) 0) || some y)
      ≡ order_bits (bits_of 64 a ++ x) (bits_of 64 b ++ y)
  order-first = simp (odd, nonzero) (sym (ordered 64 a b x y h l ne))

-- A clause with one more literal, by the word that has its bit.
pub with_in : (c : Clause) (r w : ℕ) → r / 64 ≡ w → set_in w c (bit (r % 64)) ≡ with_of c r
unfolding with_of
with_in c r w e = ap (λ v. set_in v c (bit (r % 64))) (sym e)

-- The bit of a rank set, and set alone.
pub with-bits : (c : Clause) (r : ℕ) → r < 256 → bits (with_of c r) ≡ set (bits c) r true
unfolding with_of
with-bits c r h = in-word (r / 64) refl
  where
    in-word : (w : ℕ) → r / 64 ≡ w → bits (set_in w c (bit (r % 64))) ≡ set (bits c) r true
    in-word zero e = set0 c r (r % 64) (omega arith) (omega (arith, e))
    in-word (suc zero) e = set1 c r (r % 64) (omega arith) (omega (arith, e))
    in-word (suc (suc zero)) e = set2 c r (r % 64) (omega arith) (omega (arith, e))
    in-word (suc (suc (suc w))) e = set3 c r (r % 64) (omega arith) (omega (arith, e, h))

pub single-bits : (r : ℕ) → r < 256 → bits (single_of r) ≡ set (bits none_of) r true
unfolding single_of
single-bits r h = ap (λ b. bits (pick b (with_of none_of r) none_of)) (le-leb (suc r) 256 h) ∙ with-bits none_of r h

-- What a clause faces by the opposites of its literals is against it.
pub opposes-meet : {mask c o : Clause} → Opposes mask c o → (d : Clause) → meet_of o d ≡ against_by mask c d
unfolding meet_of against_by
opposes-meet h d = ap (λ x. some (ands x (bits d))) h.says
