-- Numbers as texts.
use Prim.Native.Nat.{ℕ, zero, suc, ◌+◌, ◌*◌, ◌/◌, ◌%◌, ◌≤◌, ◌<◌}
use native.Mathlib.Omega.{arith}
use native.Mathlib.Nat.{div-lt_self}
use mathlib.Core.Path.{◌≡◌, refl, sym, ap, ◌∙◌}
use mathlib.Core.Bool.{Bool, true, false}
use mathlib.Core.List.{List, [], ◌∷◌, ◌++◌, append_assoc, append-nil}
use borrow.Author.Tests.{lt-ltb, le-ltb, ltb-false}
use lib.Dec.{ltb}
use lib.ListN.{length, length-append}
use Rattle.formula.specs.Answers.{pick}
use Rattle.calculus.specs.Table.{text_bytes}
use Rattle.writing.specs.Texts.{items_text, unary_text, digits_in, decimal_text}
use Rattle.writing.specs.Writing.{times}

-- Unary ------------------------------------------------------------------------------------------------

times-front : (n : ℕ) (x : List ℕ) → times n x ++ x ≡ x ++ times n x
unfolding times
times-front zero x = sym (append-nil x)
times-front (suc n) x = ap (λ (l : List ℕ). l ++ x) (times-front n x) ∙ append_assoc x (times n x) x

-- The names of all successors, z, and the ends of their lists.
pub unary-split : (n : ℕ) → times n (40 ∷ 115 ∷ 32 ∷ []) ++ (122 ∷ times n (41 ∷ [])) ≡ unary_text n
unfolding times unary_text items_text text_bytes
unary-split zero = refl
unary-split (suc n) =
    let s : List ℕ = 40 ∷ 115 ∷ 32 ∷ [] in
    let c : List ℕ = 41 ∷ [] in
    ap (λ (l : List ℕ). l ++ (122 ∷ (times n c ++ c))) (times-front n s)
    ∙ append_assoc s (times n s) (122 ∷ (times n c ++ c))
    ∙ ap (λ (l : List ℕ). s ++ l) (sym (append_assoc (times n s) (122 ∷ times n c) c) ∙ ap (λ (l : List ℕ). l ++ c) (unary-split n))

pub unary-length : (n : ℕ) → length (unary_text n) ≡ 4 * n + 1
unfolding unary_text items_text text_bytes
unary-length zero = refl
unary-length (suc n) = omega (arith, length-append (unary_text n) (41 ∷ []), unary-length n)

-- Decimal ----------------------------------------------------------------------------------------------

digits-by : (k n : ℕ) (t : Bool) → ltb n 10 ≡ t → digits_in (suc k) n ≡ pick t ((48 + n) ∷ []) (digits_in k (n / 10) ++ ((48 + n % 10) ∷ []))
unfolding digits_in
digits-by k n t e = ap (λ (t : Bool). pick t ((48 + n) ∷ []) (digits_in k (n / 10) ++ ((48 + n % 10) ∷ []))) e

-- More digits than are needed change nothing.
digits-fuel : (j k n : ℕ) → n < j → n < k → digits_in j n ≡ digits_in k n
digits-fuel zero k n h i = absurd (omega arith)
digits-fuel (suc j) zero n h i = absurd (omega arith)
digits-fuel (suc j) (suc k) n h i = by (λ p q. digits-fuel j k (n / 10) p q) (ltb n 10) refl
  where
    by : (n / 10 < j → n / 10 < k → digits_in j (n / 10) ≡ digits_in k (n / 10)) → (t : Bool) → ltb n 10 ≡ t → digits_in (suc j) n ≡ digits_in (suc k) n
    by r true e = digits-by j n true e ∙ sym (digits-by k n true e)
    by r false e =
        let g : 10 ≤ n = ltb-false n 10 e in
        let p : n / 10 < n = div-lt_self (omega arith) (omega arith) in
        digits-by j n false e ∙ ap (λ (l : List ℕ). l ++ ((48 + n % 10) ∷ [])) (r (omega arith) (omega arith)) ∙ sym (digits-by k n false e)

pub decimal_digit : (n : ℕ) → n < 10 → decimal_text n ≡ (48 + n) ∷ []
unfolding decimal_text
decimal_digit n h = digits-by n n true (lt-ltb n 10 h)

pub decimal-digits : (n : ℕ) → 10 ≤ n → decimal_text n ≡ decimal_text (n / 10) ++ ((48 + n % 10) ∷ [])
unfolding decimal_text
decimal-digits n h =
    let p : n / 10 < n = div-lt_self (omega arith) (omega arith) in
    digits-by n n false (le-ltb n 10 h) ∙ ap (λ (l : List ℕ). l ++ ((48 + n % 10) ∷ [])) (digits-fuel n (suc (n / 10)) (n / 10) (omega arith) (omega arith))
