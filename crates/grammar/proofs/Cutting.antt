-- Texts cut at a byte that does not stand in them: decimal numbers, and references with commas between them.
use Prim.Native.Nat.{ℕ, zero, suc, ◌+◌, ◌-◌, ◌*◌, ◌/◌, ◌%◌, ◌<◌}
use native.Mathlib.Omega.{arith}
use native.Mathlib.Nat.{div-lt_self}
use mathlib.Core.Path.{◌≡◌, refl, sym, ap, ap₂, ◌∙◌, subst}
use mathlib.Core.Bool.{Bool, true, false}
use mathlib.Core.List.{List, [], ◌∷◌, ◌++◌, append-nil, head-eq_of_cons-eq, tail-eq_of_cons-eq}
use borrow.Author.Tests.{ltb-true, ltb-false}
use lib.Dec.{ltb}
use lib.ListN.{length, length-append}
use Rattle.formula.specs.Answers.{pick}
use Rattle.writing.specs.Texts.{digits_in, decimal_text}
use Rattle.listing.specs.Lines.{references_text}

-- The byte does not stand in the list.
abbrev pub Avoids : ℕ → List ℕ → Type 0
Avoids b [] = Unit {0}
Avoids b (c ∷ l) = (c ≡ b → ⊥) × Avoids b l

avoids-append : (b : ℕ) (l m : List ℕ) → Avoids b l → Avoids b m → Avoids b (l ++ m)
avoids-append b [] m h k = k
avoids-append b (c ∷ l) m h k = (h.0, avoids-append b l m h.1 k)

-- The byte stands in no list that avoids it.
avoids-none : (b : ℕ) (l m : List ℕ) → Avoids b (l ++ (b ∷ m)) → ⊥
avoids-none b [] m h = h.0 refl
avoids-none b (c ∷ l) m h = avoids-none b l m h.1

-- What stands before the first such byte, and what stands behind it.
pub cut : (b : ℕ) (l m u v : List ℕ) → Avoids b l → Avoids b m → l ++ (b ∷ u) ≡ m ++ (b ∷ v) → (l ≡ m) × (u ≡ v)
cut b [] [] u v h k e = (refl, tail-eq_of_cons-eq e)
cut b [] (d ∷ m) u v h k e = absurd (k.0 (sym (head-eq_of_cons-eq e)))
cut b (c ∷ l) [] u v h k e = absurd (h.0 (head-eq_of_cons-eq e))
cut b (c ∷ l) (d ∷ m) u v h k e = let r = cut b l m u v h.1 k.1 (tail-eq_of_cons-eq e) in (ap₂ ◌∷◌ (head-eq_of_cons-eq e) r.0, r.1)

-- Decimal numbers --------------------------------------------------------------------------------------

-- One digit, or one more behind those of a tenth.
digits-by : (k n : ℕ) (P : List ℕ → Type 0) → (n < 10 → P ((48 + n) ∷ [])) → (n / 10 < n → P (digits_in k (n / 10) ++ ((48 + n % 10) ∷ []))) → P (digits_in (suc k) n)
unfolding digits_in
digits-by k n P f g = go (ltb n 10) refl
  where
    go : (t : Bool) → ltb n 10 ≡ t → P (pick t ((48 + n) ∷ []) (digits_in k (n / 10) ++ ((48 + n % 10) ∷ [])))
    go true e = f (ltb-true n 10 e)
    go false e = let h = ltb-false n 10 e in g (div-lt_self (omega arith) (omega arith))

-- A byte that is no digit stands in no number.
digits-avoid : (b : ℕ) → ((d : ℕ) → d < 10 → 48 + d ≡ b → ⊥) → (k n : ℕ) → Avoids b (digits_in k n)
unfolding digits_in
digits-avoid b h zero n = tt
digits-avoid b h (suc k) n = digits-by k n (Avoids b) (λ p. (h n p, tt)) (λ p. avoids-append b (digits_in k (n / 10)) ((48 + n % 10) ∷ []) (digits-avoid b h k (n / 10)) (h (n % 10) (omega arith), tt))

pub decimal-avoids : (b : ℕ) → ((d : ℕ) → d < 10 → 48 + d ≡ b → ⊥) → (n : ℕ) → Avoids b (decimal_text n)
unfolding decimal_text
decimal-avoids b h n = digits-avoid b h (suc n) n

-- The number of digits behind those of v.
value_from : ℕ → List ℕ → ℕ
value_from v [] = v
value_from v (c ∷ l) = value_from (10 * v + (c - 48)) l

value-snoc : (v : ℕ) (l : List ℕ) (c : ℕ) → value_from v (l ++ (c ∷ [])) ≡ 10 * value_from v l + (c - 48)
unfolding value_from
value-snoc v [] c = refl
value-snoc v (d ∷ l) c = value-snoc (10 * v + (d - 48)) l c

digits_value : (k n : ℕ) → n < k → value_from 0 (digits_in k n) ≡ n
unfolding value_from
digits_value zero n h = absurd (omega arith)
digits_value (suc k) n h = digits-by k n (λ l. value_from 0 l ≡ n) (λ p. omega arith) (λ p. omega (arith, value-snoc 0 (digits_in k (n / 10)) (48 + n % 10), digits_value k (n / 10) (omega arith)))

-- The text of a number determines it.
pub decimal-one : {i k : ℕ} → decimal_text i ≡ decimal_text k → i ≡ k
unfolding decimal_text
decimal-one {i} {k} e = sym (digits_value (suc i) i (omega arith)) ∙ ap (value_from 0) e ∙ digits_value (suc k) k (omega arith)

-- A number has a digit.
decimal-some : (n : ℕ) (m : List ℕ) → [] ≡ decimal_text n ++ m → ⊥
unfolding decimal_text
decimal-some n m e = digits-by n n (λ l. [] ≡ l ++ m → ⊥) (λ p e. some (48 + n) [] m e) (λ p e. some (48 + n % 10) (digits_in n (n / 10)) m e) e
  where
    some : (c : ℕ) (l m : List ℕ) → [] ≡ (l ++ (c ∷ [])) ++ m → ⊥
    some c l m e = let z = ap length e in omega (arith, z, length-append (l ++ (c ∷ [])) m, length-append l (c ∷ []))

-- References -------------------------------------------------------------------------------------------

no-comma : (n : ℕ) → Avoids 44 (decimal_text n)
no-comma = decimal-avoids 44 (λ d h e. omega arith)

pub references-avoid : (b : ℕ) → ((d : ℕ) → d < 10 → 48 + d ≡ b → ⊥) → (44 ≡ b → ⊥) → (is : List ℕ) → Avoids b (references_text is)
unfolding references_text
references-avoid b h c [] = tt
references-avoid b h c (i ∷ []) = decimal-avoids b h i
references-avoid b h c (i ∷ (j ∷ is)) = avoids-append b (decimal_text i) (44 ∷ references_text (j ∷ is)) (decimal-avoids b h i) (c, references-avoid b h c (j ∷ is))

-- References have a digit, and more than one have a comma.
no-references : (j : ℕ) (js : List ℕ) → [] ≡ references_text (j ∷ js) → ⊥
unfolding references_text
no-references j [] e = decimal-some j [] (e ∙ sym (append-nil (decimal_text j)))
no-references j (l ∷ js) e = decimal-some j (44 ∷ references_text (l ∷ js)) e

one-reference : (i j : ℕ) (l : List ℕ) → decimal_text i ≡ decimal_text j ++ (44 ∷ l) → ⊥
one-reference i j l e = avoids-none 44 (decimal_text j) l (subst (Avoids 44) e (no-comma i))

-- The text of references determines them.
pub references-one : (is js : List ℕ) → references_text is ≡ references_text js → is ≡ js
unfolding references_text
references-one [] [] e = refl
references-one [] (j ∷ js) e = absurd (no-references j js e)
references-one (i ∷ is) [] e = absurd (no-references i is (sym e))
references-one (i ∷ []) (j ∷ []) e = ap (λ (k : ℕ). k ∷ []) (decimal-one e)
references-one (i ∷ []) (j ∷ (l ∷ js)) e = absurd (one-reference i j (references_text (l ∷ js)) e)
references-one (i ∷ (k ∷ is)) (j ∷ []) e = absurd (one-reference j i (references_text (k ∷ is)) (sym e))
references-one (i ∷ (k ∷ is)) (j ∷ (l ∷ js)) e =
    let r = cut 44 (decimal_text i) (decimal_text j) (references_text (k ∷ is)) (references_text (l ∷ js)) (no-comma i) (no-comma j) e in
    ap₂ ◌∷◌ (decimal-one r.0) (references-one (k ∷ is) (l ∷ js) r.1)
