-- Numbers in bytes, and runs of stores and of zeros.
use Prim.Native.Nat.{ℕ, zero, suc, ◌+◌, ◌-◌, ◌*◌, ◌/◌, ◌≤◌, ◌<◌}
use native.Mathlib.Omega.{arith}
use native.Mathlib.Nat.{add-zero, zero-add, sub-zero, zero-sub, suc-sub-suc}
use native.Mathlib.Numerals.{add-one, add-two}
use mathlib.Core.Path.{◌≡◌, refl, sym, ap, ap₂, ◌∙◌}
use mathlib.Core.Bool.{Bool, ◌&&◌, and_assoc}
use mathlib.Core.List.{List, [], ◌∷◌, ◌++◌, append_assoc}
use lib.Bits.{bit_or, or_zero_l, or_add_and, and_le_r}
use lib.Dec.{eqb}
use lib.ListN.{length, get_or, take, drop, set, replicate, length-append, length-drop, take-append-drop}
use borrow.Rule.Slice.PartMut.{put_mid}
use Rattle.std.proofs.lemmas.List.{length-replicate, length-take}
use Rattle.formula.proofs.ByteLaws.{pasted}
use Rattle.std.specs.List.{list_all}
use lib.Seq.{drop-cons, sets, sets-eq, take_at, take-add, drop-drop, drop-append-add, get_or-drop}
use borrow.Author.Tests.{ne_eqb}
use Rattle.calculus.specs.Record.{little_endian}
use Rattle.calculus.specs.Parse.{all_zero}
use Rattle.calculus.proofs.Fields.{capacity}
use Rattle.records.specs.Places.{little_at}

-- Numbers -------------------------------------------------------------------------------------

little-shift : (w : ℕ) (l : List ℕ) (at i : ℕ) → little_at w l (at + i) ≡ little_at w (drop at l) i
little-shift zero l at i = refl
little-shift (suc w) l at i =
    let e : suc (at + i) ≡ at + suc i = omega arith in
    ap₂ (λ (x y : ℕ). x + 256 * y) (sym (get_or-drop at l i 0)) (ap (little_at w l) e ∙ little-shift w l at (suc i))

-- A number at a place is the one in front of what is dropped there.
pub little-drop : (w : ℕ) (l : List ℕ) (at : ℕ) → little_at w l at ≡ little_at w (drop at l) 0
little-drop w l at = ap (little_at w l) (sym (add-zero at)) ∙ little-shift w l at 0

-- A number that was written in front is read there.
pub little-front : (w n : ℕ) (m : List ℕ) → n < capacity w → little_at w (little_endian w n ++ m) 0 ≡ n
little-front zero n m h = omega arith
little-front (suc w) n m h =
    let e : little_at w (little_endian (suc w) n ++ m) 1 ≡ n / 256 = little-shift w (little_endian (suc w) n ++ m) 1 0 ∙ little-front w (n / 256) m (omega arith) in
    omega (arith, e)

pub little-two : (l : List ℕ) (at : ℕ) → get_or l at 0 + 256 * get_or l (at + 1) 0 ≡ little_at 2 l at
little-two l at = rw add-one (omega arith)

pub little-four : (l : List ℕ) (at : ℕ) → little_at 2 l at + 65536 * little_at 2 l (at + 2) ≡ little_at 4 l at
little-four l at = rw add-two (omega arith)

pub little-eight : (l : List ℕ) (at : ℕ) → little_at 4 l at + 4294967296 * little_at 4 l (at + 4) ≡ little_at 8 l at
little-eight l at = let e : at + 4 ≡ suc (suc (suc (suc at))) = omega arith in rw e (omega arith)

-- Runs of stores ---------------------------------------------------------------------------------

pub sets-append : (xs ys d : List ℕ) (i : ℕ) → sets (sets d i xs) (i + length xs) ys ≡ sets d i (xs ++ ys)
sets-append [] ys d i = ap (λ (n : ℕ). sets d n ys) (add-zero i)
sets-append (x ∷ xs) ys d i = ap (λ (n : ℕ). sets (sets (set d i x) (suc i) xs) n ys) (omega arith) ∙ sets-append xs ys (set d i x) (suc i)

-- Stores behind a part of known length.
pub sets_behind : (p z e : List ℕ) (n : ℕ) → length p ≡ n → length e ≤ length z → sets (p ++ z) n e ≡ p ++ (e ++ drop (length e) z)
sets_behind p z e n h g =
    let la = length-append p z in
    sets-eq e (p ++ z) n (omega arith)
    ∙ ap₂ (λ (x y : List ℕ). x ++ e ++ y) (take_at p z n h) (ap (λ (m : ℕ). drop (m + length e) (p ++ z)) (sym h) ∙ drop-append-add p z (length e))
    ∙ append_assoc p e (drop (length e) z)

pub drop-zeros : (n m : ℕ) → drop n (replicate {A = ℕ} m 0) ≡ replicate (m - n) 0
drop-zeros zero m = ap (λ (k : ℕ). replicate {A = ℕ} k 0) (sym (sub-zero m))
drop-zeros (suc n) zero = ap (λ (k : ℕ). replicate {A = ℕ} k 0) (sym (zero-sub (suc n)))
drop-zeros (suc n) (suc m) = drop-zeros n m ∙ ap (λ (k : ℕ). replicate {A = ℕ} k 0) (sym (suc-sub-suc m n))

pub put_four : (d : List ℕ) (at n : ℕ) → sets (sets d at (little_endian 2 n)) (at + 2) (little_endian 2 (n / 256 / 256)) ≡ sets d at (little_endian 4 n)
put_four d at n = sets-append (little_endian 2 n) (little_endian 2 (n / 256 / 256)) d at

-- A part that was filled with zeros.
pub cleared : (d z : List ℕ) (from to : ℕ) → from ≤ to → to ≤ length d → z ≡ replicate (length (take (to - from) (drop from d))) 0 → put_mid from (to - from) d z ≡ sets d from (replicate (to - from) 0)
cleared d z from to a b e =
    let n : length (replicate {A = ℕ} (to - from) 0) ≡ to - from = length-replicate (to - from) 0 in
    let m : length (take (to - from) (drop from d)) ≡ to - from = omega (arith, length-take (to - from) (drop from d), length-drop from d) in
    let k : to - from ≡ from + length (replicate {A = ℕ} (to - from) 0) - from = omega arith in
    ap (λ (n : ℕ). put_mid from n d z) k ∙ pasted (replicate (to - from) 0) d z from (omega arith) (e ∙ ap (λ (n : ℕ). replicate {A = ℕ} n 0) m)

-- Zeros ------------------------------------------------------------------------------------------

pub zeros-all : (l : List ℕ) → list_all (λ b. eqb b 0) l ≡ all_zero l
unfolding all_zero
zeros-all [] = refl
zeros-all (b ∷ l) = ap (λ (t : Bool). eqb b 0 && t) (zeros-all l)

-- A sum is zero exactly where both numbers are.
add-zeros : (a b : ℕ) → eqb (a + b) 0 ≡ (eqb a 0 && eqb b 0)
add-zeros zero b = ap (λ (n : ℕ). eqb n 0) (zero-add b)
add-zeros (suc a) b = ne_eqb (suc a + b) 0 (λ e. omega arith) ∙ ap (λ (t : Bool). t && eqb b 0) (sym (ne_eqb (suc a) 0 (λ e. omega arith)))

-- Bits are zero exactly where both numbers' are.
or-zeros : (a b : ℕ) → eqb (bit_or a b) 0 ≡ (eqb a 0 && eqb b 0)
or-zeros zero b = ap (λ (n : ℕ). eqb n 0) (or_zero_l b)
or-zeros (suc a) b =
    ne_eqb (bit_or (suc a) b) 0 (λ e. omega (arith, or_add_and (suc a) b, and_le_r (suc a) b))
    ∙ ap (λ (t : Bool). t && eqb b 0) (sym (ne_eqb (suc a) 0 (λ e. omega arith)))

scale-zero : (b : ℕ) → eqb (256 * b) 0 ≡ eqb b 0
scale-zero zero = refl
scale-zero (suc b) = ne_eqb (256 * suc b) 0 (λ e. omega arith) ∙ sym (ne_eqb (suc b) 0 (λ e. omega arith))

-- A number is zero exactly where its bytes are.
little-zero : (w : ℕ) (l : List ℕ) (at : ℕ) → at + w ≤ length l → eqb (little_at w l at) 0 ≡ all_zero (take w (drop at l))
unfolding all_zero
little-zero zero l at h = refl
little-zero (suc w) l at h =
    add-zeros (get_or l at 0) (256 * little_at w l (suc at))
    ∙ ap (λ (t : Bool). eqb (get_or l at 0) 0 && t) (scale-zero (little_at w l (suc at)) ∙ little-zero w l (suc at) (omega arith))
    ∙ sym (ap (λ (m : List ℕ). all_zero (take (suc w) m)) (drop-cons l at 0 (omega arith)))

zeros-append : (x y : List ℕ) → all_zero (x ++ y) ≡ (all_zero x && all_zero y)
unfolding all_zero
zeros-append [] y = refl
zeros-append (b ∷ x) y = ap (λ (t : Bool). eqb b 0 && t) (zeros-append x y) ∙ sym (and_assoc (eqb b 0) (all_zero x) (all_zero y))

-- A part of the list, and what is behind it.
pub part_step : (l : List ℕ) (i n : ℕ) → all_zero (drop i l) ≡ (all_zero (take n (drop i l)) && all_zero (drop (i + n) l))
part_step l i n =
    ap all_zero (sym (take-append-drop n (drop i l)))
    ∙ zeros-append (take n (drop i l)) (drop n (drop i l))
    ∙ ap (λ (y : List ℕ). all_zero (take n (drop i l)) && all_zero y) (drop-drop n i l)

-- Two parts side by side, and the bits of their numbers.
pub both_zero : (l : List ℕ) (at n m x y : ℕ) → eqb x 0 ≡ all_zero (take n (drop at l)) → eqb y 0 ≡ all_zero (take m (drop (at + n) l)) → eqb (bit_or x y) 0 ≡ all_zero (take (n + m) (drop at l))
both_zero l at n m x y e f =
    or-zeros x y
    ∙ ap₂ ◌&&◌ e f
    ∙ sym (ap all_zero (take-add n m (drop at l) ∙ ap (λ (k : List ℕ). take n (drop at l) ++ take m k) (drop-drop n at l)) ∙ zeros-append (take n (drop at l)) (take m (drop (at + n) l)))

-- The number of a part of eight bytes.
pub eight-zero : (l : List ℕ) (at x : ℕ) → at + 8 ≤ length l → x ≡ little_at 8 l at → eqb x 0 ≡ all_zero (take 8 (drop at l))
eight-zero l at x h e = ap (λ (k : ℕ). eqb k 0) e ∙ little-zero 8 l at h
