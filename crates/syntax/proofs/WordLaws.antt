-- A stack of bits in a word: how large it is, and what is left of it behind a leaf and behind a node.
use Prim.Native.Nat.{ℕ, zero, suc, ◌+◌, ◌-◌, ◌*◌, ◌/◌, ◌%◌, ◌^◌, ◌≤◌, ◌<◌}
use native.Mathlib.Omega.{arith}
use native.Mathlib.Nat.{pow-suc, div-one}
use native.Mathlib.Numerals.{one-add}
use native.Mathlib.Decide.{dec_le}
use mathlib.Core.Path.{◌≡◌, refl, sym, ap, ap₂, ◌∙◌, subst}
use mathlib.Core.Bool.{Bool, true, false}
use mathlib.Core.List.{List, [], ◌∷◌}
use lib.Count.{count_trailing_zeros, under}
use lib.ListN.{length}
use lib.Pow.{pow_mono, shr-shr}
use Rattle.formula.specs.declared.Kind.{Kind}
use Rattle.formula.specs.declared.Kind.TheVariants.{Unary, Binary}
use Rattle.syntax.specs.Depths.{onward, word, waiting, Above, Held, ended, next, Back, Onward}

-- The one above all bits stands as high as there are bits.
word-least : (bs : List Bool) → 2 ^ length bs ≤ word bs
unfolding word
word-least [] = omega arith
word-least (false ∷ bs) = omega (arith, pow-suc 2 (length bs), word-least bs)
word-least (true ∷ bs) = omega (arith, pow-suc 2 (length bs), word-least bs)

word_below : (bs : List Bool) → word bs < 2 ^ suc (length bs)
unfolding word
word_below [] = omega arith
word_below (false ∷ bs) = omega (arith, pow-suc 2 (suc (length bs)), word_below bs)
word_below (true ∷ bs) = omega (arith, pow-suc 2 (suc (length bs)), word_below bs)

-- So a word tells whether there are more than 32.
pub few_bits : (bs : List Bool) → word bs < 8589934592 → length bs ≤ 32
few_bits bs h = go (dec_le (length bs) 32)
  where
    go : Dec (length bs ≤ 32) → length bs ≤ 32
    go (yes g) = g
    go (no g) = let k : 33 ≤ length bs = omega arith in absurd (omega (arith, word-least bs, pow_mono k))

pub many-bits : (bs : List Bool) → 8589934592 ≤ word bs → 32 < length bs
many-bits bs h = go (dec_le (length bs) 32)
  where
    go : Dec (length bs ≤ 32) → 32 < length bs
    go (yes g) = let k : suc (length bs) ≤ 33 = omega arith in absurd (omega (arith, word_below bs, pow_mono k))
    go (no g) = omega arith

pub above_low : {w : ℕ} → Above w → w < 8589934592
above_low a = let k : suc (length a.bits) ≤ 33 = omega (arith, a.few) in omega (arith, a.is, word_below a.bits, pow_mono k)

-- The bits behind the trailing zeros of a word.
abbrev stripped : ℕ → ℕ → ℕ
stripped k w = w / 2 ^ count_trailing_zeros k w

zeros-even : (k w : ℕ) → count_trailing_zeros (suc k) (2 * w) ≡ suc (count_trailing_zeros k w)
unfolding count_trailing_zeros
zeros-even k w = let e : 2 * w % 2 ≡ 0 = omega arith in let f : 2 * w / 2 ≡ w = omega arith in ap₂ (λ (d n : ℕ). under d (count_trailing_zeros k n)) e f

zeros-odd : (k w : ℕ) → count_trailing_zeros (suc k) (2 * w + 1) ≡ 0
unfolding count_trailing_zeros
zeros-odd k w = let e : (2 * w + 1) % 2 ≡ 1 = omega arith in ap (λ (d : ℕ). under d (count_trailing_zeros k ((2 * w + 1) / 2))) e

stripped-even : (k w : ℕ) → stripped (suc k) (2 * w) ≡ stripped k w
stripped-even k w =
    let t = count_trailing_zeros k w in
    let f : 2 * w / 2 ^ 1 ≡ w = omega arith in
    ap (λ (n : ℕ). 2 * w / 2 ^ n) (zeros-even k w ∙ sym (one-add t)) ∙ sym (shr-shr (2 * w) 1 t) ∙ ap (λ (n : ℕ). n / 2 ^ t) f

stripped-odd : (k w : ℕ) → stripped (suc k) (2 * w + 1) ≡ 2 * w + 1
stripped-odd k w = ap (λ (n : ℕ). (2 * w + 1) / 2 ^ n) (zeros-odd k w) ∙ div-one (2 * w + 1)

-- There is always the one above all bits behind them.
zeros-few : (k : ℕ) (bs : List Bool) → length bs < k → count_trailing_zeros k (word bs) < k
unfolding word
zeros-few zero bs h = absurd (omega arith)
zeros-few (suc k) [] h = omega (arith, zeros-odd k 0)
zeros-few (suc k) (false ∷ bs) h = omega (arith, zeros-even k (word bs), zeros-few k bs (omega arith))
zeros-few (suc k) (true ∷ bs) h = omega (arith, zeros-odd k (word bs))

stripped-some : (k : ℕ) (bs : List Bool) → length bs < k → 1 ≤ stripped k (word bs)
unfolding word
stripped-some zero bs h = absurd (omega arith)
stripped-some (suc k) [] h = omega (arith, stripped-odd k 0)
stripped-some (suc k) (false ∷ bs) h = omega (arith, stripped-even k (word bs), stripped-some k bs (omega arith))
stripped-some (suc k) (true ∷ bs) h = omega (arith, stripped-odd k (word bs))

module _ {w : ℕ} (a : Above w) where
  pub zeros-below : count_trailing_zeros 64 w < 64
  zeros-below = rw a.is (zeros-few 64 a.bits (omega (arith, a.few)))

  pub some_left : 1 ≤ stripped 64 w
  some_left = rw a.is (stripped-some 64 a.bits (omega (arith, a.few)))

-- Behind a leaf the lowest node that waits goes on with its second part.
held_back : (k : ℕ) (bs : List Bool) → length bs < k → (r : ℕ) → r ≡ stripped k (word bs) - 1 → Held (waiting bs) r
unfolding word waiting
held_back k [] h r e = ended
held_back zero (false ∷ bs) h r e = absurd (omega arith)
held_back (suc k) (false ∷ bs) h r e = held_back k bs (omega arith) r (e ∙ ap (λ (n : ℕ). n - 1) (stripped-even k (word bs)))
held_back zero (true ∷ bs) h r e = absurd (omega arith)
held_back (suc k) (true ∷ bs) h r e = let f : r ≡ 2 * word bs = omega (arith, e, stripped-odd k (word bs)) in next (false ∷ bs) f refl refl

pub back-held : {w r : ℕ} → r ≡ stripped 64 w - 1 → Back w r
back-held {r = r} e = record { holds = λ bs i h. held_back 64 bs (omega arith) r (e ∙ ap (λ (n : ℕ). stripped 64 n - 1) i) }

-- Behind a node, by its kind.
module _ {k : Kind} {w r : ℕ} where
  pub onward-back : {k' : Kind} → k ≡ k' → ((d : ℕ) (ds : List ℕ) → onward k' d ds ≡ ds) → Back w r → Onward k w r
  onward-back e f b = record { holds = λ bs i h. subst (λ (ds : List ℕ). Held ds r) (sym (ap (λ (j : Kind). onward j (length bs) (waiting bs)) e ∙ f (length bs) (waiting bs))) (b.holds bs i h) }

  pub onward-one : k ≡ Unary → r ≡ 2 * w → Onward k w r
  unfolding word waiting
  onward-one e f = record { holds = λ bs i h. subst (λ (j : Kind). Held (onward j (length bs) (waiting bs)) r) (sym e) (next (false ∷ bs) (f ∙ ap (λ (n : ℕ). 2 * n) i) refl refl) }

  pub onward-two : k ≡ Binary → r ≡ 2 * w + 1 → Onward k w r
  unfolding word waiting
  onward-two e f = record { holds = λ bs i h. subst (λ (j : Kind). Held (onward j (length bs) (waiting bs)) r) (sym e) (next (true ∷ bs) (f ∙ ap (λ (n : ℕ). 2 * n + 1) i) refl refl) }
