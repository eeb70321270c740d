-- Laws of the loops over rows of numbers.
use Prim.Native.Nat.{ℕ, suc, ◌+◌, ◌-◌, ◌*◌, ◌≤◌, ◌<◌}
use native.Mathlib.Omega.{arith}
use native.Mathlib.Numerals.{add-one}
use mathlib.Core.Path.{◌≡◌, refl, sym, ap, ap₂, ◌∙◌}
use mathlib.Core.List.{List, [], ◌∷◌, ◌++◌, append-nil}
use lib.ListN.{length, set, take, length-set}
use lib.Seq.{take_all, take-suc-set, append_snoc}
use borrow.Author.Tests.{eq-eqb, ne_eqb, le-leb, lt-leb}
use native.Mathlib.Decide.{ℕ_discrete, dec_le}
use mathlib.Core.Bool.{Bool, true, false}
use lib.Dec.{eqb, ltb}
use Rattle.std.proofs.Common.{cond, Some, None}
use Rattle.std.specs.List.{position_or_len}
use Rattle.std.specs.Option.{unwrap_or}
use Rattle.std.proofs.lemmas.List.Recursion.{is_position_or_len}
use Rattle.formula.specs.Answers.{pick}
use Rattle.literals.specs.Numbers.{blanks_from, position}

-- ---- a row of numbers that no literal has, made from the front

pub record Blanking (n : ℕ) (l : List ℕ) (i : ℕ) : Type 0 where
  pub upto : i ≤ n
  pub long : length l ≡ n
  pub left : take i l ++ blanks_from i (n - i) ≡ blanks_from 0 n

blanks-cons : (i n : ℕ) → i < n → blanks_from i (n - i) ≡ (65536 + 2 * i) ∷ blanks_from (i + 1) (n - (i + 1))
unfolding blanks_from
blanks-cons i n h =
    let s : n - i ≡ suc (n - (i + 1)) = omega (arith, h) in
    ap (blanks_from i) s ∙ ap (λ m. (65536 + 2 * i) ∷ blanks_from m (n - (i + 1))) (sym (add-one i))

pub blanking-next : {n : ℕ} {l : List ℕ} {i : ℕ} → Blanking n l i → i < n → Blanking n (set l i (65536 + 2 * i)) (i + 1)
blanking-next {n} {l} {i} s h =
    let v = 65536 + 2 * i in
    record {
      upto = omega (arith, h);
      long = length-set l i v ∙ s.long;
      left =
          ap (λ m. take m (set l i v) ++ blanks_from (i + 1) (n - (i + 1))) (add-one i) ∙ ap (λ x. x ++ blanks_from (i + 1) (n - (i + 1))) (take-suc-set l i v (omega (arith, h, s.long))) ∙ append_snoc (take i l) v (blanks_from (i + 1) (n - (i + 1))) ∙ ap (λ x. take i l ++ x) (sym (blanks-cons i n h)) ∙ s.left;
    }

pub blanking-end : {n : ℕ} {l : List ℕ} {i : ℕ} → Blanking n l i → n ≤ i → l ≡ blanks_from 0 n
unfolding blanks_from
blanking-end {n} {l} {i} s h =
    let none : n - i ≡ 0 = omega (arith, h) in
    sym (append-nil l) ∙ ap₂ ◌++◌ (sym (take_all i l (omega (arith, h, s.long)))) (sym (ap (blanks_from i) none)) ∙ s.left

-- ---- the first place of a number

pub position_here : {k j : ℕ} (l : List ℕ) → k ≡ j → position k (j ∷ l) ≡ 0
unfolding position
position_here {k} {j} l e = ap (λ t. pick t 0 (suc (position k l))) (eq-eqb k j e)

pub position-behind : {k j : ℕ} (l : List ℕ) → (k ≡ j → ⊥) → position k (j ∷ l) ≡ suc (position k l)
unfolding position
position-behind {k} {j} l e = ap (λ t. pick t 0 (suc (position k l))) (ne_eqb k j e)

position-is : (k : ℕ) (l : List ℕ) → position k l ≡ position_or_len (λ j. eqb j k) l
unfolding position
position-is k l = is_position_or_len (position k) (λ j. eqb j k) refl more l
  where
    more : (j : ℕ) (l : List ℕ) → position k (j ∷ l) ≡ cond (eqb j k) 0 (1 + position k l)
    more j l = by (ℕ_discrete k j)
      where
        by : Dec (k ≡ j) → position k (j ∷ l) ≡ cond (eqb j k) 0 (1 + position k l)
        by (yes e) = position_here l e ∙ sym (ap (λ t. cond t 0 (1 + position k l)) (eq-eqb j k (sym e)))
        by (no e) = let s : suc (position k l) ≡ 1 + position k l = omega arith in position-behind l e ∙ s ∙ sym (ap (λ t. cond t 0 (1 + position k l)) (ne_eqb j k (λ p. e (sym p))))

position-most : (k : ℕ) (l : List ℕ) → position k l ≤ length l
unfolding position
position-most k [] = omega arith
position-most k (j ∷ l) = by (eqb k j) (position-most k l)
  where
    by : (t : Bool) → position k l ≤ length l → pick t 0 (suc (position k l)) ≤ suc (length l)
    by true h = omega arith
    by false h = omega (arith, h)

-- What a search for a number answers, with the length for none.
pub position-or_len : (k : ℕ) (l : List ℕ) → unwrap_or (cond (ltb (position_or_len (λ j. eqb j k) l) (length l)) (Some (position_or_len (λ j. eqb j k) l)) None) (length l) ≡ position k l
position-or_len k l = ap (λ n. unwrap_or (cond (ltb n (length l)) (Some n) None) (length l)) (sym (position-is k l)) ∙ by (dec_le (length l) (position k l))
  where
    by : Dec (length l ≤ position k l) → unwrap_or (cond (ltb (position k l) (length l)) (Some (position k l)) None) (length l) ≡ position k l
    by (yes h) = ap (λ t. unwrap_or (cond t (Some (position k l)) None) (length l)) (lt-leb (suc (position k l)) (length l) (omega (arith, h))) ∙ omega (arith, h, position-most k l)
    by (no h) = ap (λ t. unwrap_or (cond t (Some (position k l)) None) (length l)) (le-leb (suc (position k l)) (length l) (omega arith))
