-- Laws of states: what they allow, what is settled in them, and what an assignment determines anew.
use Prim.Native.Nat.{ℕ, zero, suc, ◌+◌, ◌≤◌, ◌<◌}
use native.Mathlib.Omega.{arith}
use mathlib.Core.Path.{◌≡◌, refl, ap}
use mathlib.Core.Bool.{Bool, true, false, ◌&&◌}
use mathlib.Core.List.{List, [], ◌∷◌}
use lib.Dec.{leb, ltb}
use lib.ListN.{length, get_or}
use borrow.Author.Tests.{ltb-true, lt-ltb, le-ltb, le-leb, lt-leb}
use Rattle.formula.specs.Answers.{pick}
use Rattle.formula.proofs.Meaning.{Below, undetermined as bottom, same, LessDetermined}
use Rattle.assignments.specs.Assignments.{value_of, assigned, determined}
use Rattle.needs.specs.States.{Open, any, last, Fits, chosen, undetermined, free, Within, settle, settled, bit, hits}

-- A property of what a test picks, by its two cases.
pub picked : {A : Type 0} (P : A → Type 0) (b : Bool) (x y : A) → (b ≡ true → P x) → (b ≡ false → P y) → P (pick b x y)
picked P true x y p q = p refl
picked P false x y p q = q refl

-- ---- hits

-- Two tests that no literal passes both, and a third that what passes either passes.
gated : (a b p q r : Bool) → bit p + bit q ≤ bit r → bit (a && (b && p)) + bit (a && (b && q)) ≤ bit (a && (b && r))
gated true true p q r h = h
gated true false p q r h = omega arith
gated false b p q r h = omega arith

pub hits-sum : (P Q R : ℕ → ℕ → Bool) → ((n v : ℕ) → bit (P n v) + bit (Q n v) ≤ bit (R n v)) → (S τ : List ℕ) → hits P S τ + hits Q S τ ≤ hits R S τ
unfolding hits
hits-sum P Q R h [] τ = omega arith
hits-sum P Q R h (s ∷ S) [] = omega arith
hits-sum P Q R h (s ∷ S) (v ∷ τ) =
    omega (arith, gated (leb 2 s) (ltb v 2) (P 0 v) (Q 0 v) (R 0 v) (h 0 v), hits-sum (λ n. P (suc n)) (λ n. Q (suc n)) (λ n. R (suc n)) (λ n. h (suc n)) S τ)

pub hits-le : (P R : ℕ → ℕ → Bool) → ((n v : ℕ) → bit (P n v) ≤ bit (R n v)) → (S τ : List ℕ) → hits P S τ ≤ hits R S τ
hits-le P R h S τ = omega (arith, hits-sum P (λ n v. false) R (λ n v. omega (arith, h n v)) S τ)

pub hits-some : (P : ℕ → ℕ → Bool) (S τ : List ℕ) (n : ℕ) → n < length S → 2 ≤ get_or S n 5 → get_or τ n 2 < 2 → P n (get_or τ n 2) ≡ true → 1 ≤ hits P S τ
unfolding hits
hits-some P [] τ n i h k e = absurd (omega (arith, i))
hits-some P (s ∷ S) [] n i h k e = absurd (omega (arith, k))
hits-some P (s ∷ S) (v ∷ τ) zero i h k e =
    let b : bit (leb 2 s && (ltb v 2 && P 0 v)) ≡ 1 = rw (le-leb 2 s h, lt-ltb v 2 k, e) in
    omega (arith, b)
hits-some P (s ∷ S) (v ∷ τ) (suc n) i h k e = omega (arith, hits-some (λ m. P (suc m)) S τ n (omega (arith, i)) h k e)

-- A side that may be chosen stands in a byte that has not chosen.
pub open_free : {s e : ℕ} → Open s e → (2 ≤ s) × (e ≤ 1)
open_free (any p q) = (omega (arith, p), q)
open_free (last p q) = (omega (arith, p, q), p)

bit-small : (b : Bool) → bit b ≤ 1
bit-small true = omega arith
bit-small false = omega arith

count_head : (P : Bool) (s v : ℕ) → Fits s v → bit (ltb s 2) + bit (leb 2 s && (ltb v 2 && P)) ≤ bit (ltb v 2)
count_head P s v (chosen h e) = rw (lt-ltb s 2 h, lt-leb 2 s h, lt-ltb v 2 (omega (arith, h, e))) (omega arith)
count_head P s v (undetermined h e) = rw (le-ltb s 2 h, le-leb 2 s h, le-ltb v 2 (omega (arith, e))) (omega arith)
count_head P s v (free o) = let k = open_free o in rw (le-ltb s 2 k.0, le-leb 2 s k.0, lt-ltb v 2 (omega (arith, k.1))) (omega (arith, bit-small P))

-- An allowed assignment determines what is chosen, and what it determines anew.
pub within_count : (P : ℕ → ℕ → Bool) (S τ : List ℕ) → length S ≡ length τ → Within S τ → determined S + hits P S τ ≤ determined τ
unfolding hits determined
within_count P [] τ e w = omega arith
within_count P (s ∷ S) [] e w = absurd (omega (arith, e))
within_count P (s ∷ S) (v ∷ τ) e w = omega (arith, count_head (P 0 v) s v (w 0), within_count (λ n. P (suc n)) S τ (omega (arith, e)) (λ n. w (suc n)))

-- ---- settled

pub settled_at : (S : List ℕ) (n : ℕ) → get_or (settled S) n 2 ≡ settle (get_or S n 5)
unfolding settled
settled_at [] n = refl
settled_at (s ∷ S) zero = refl
settled_at (s ∷ S) (suc n) = settled_at S n

pub settled-long : (S : List ℕ) → length (settled S) ≡ length S
unfolding settled
settled-long [] = refl
settled-long (s ∷ S) = ap suc (settled-long S)

settle-bit : (s : ℕ) → bit (ltb (settle s) 2) ≡ bit (ltb s 2)
settle-bit s = picked (λ x. bit (ltb x 2) ≡ bit (ltb s 2)) (ltb s 2) s 2 (λ e. refl) (λ e. rw e)

pub settled-count : (S : List ℕ) → determined (settled S) ≡ determined S
unfolding settled determined
settled-count [] = refl
settled-count (s ∷ S) = omega (arith, settle-bit s, settled-count S)

pub settle-small : (s : ℕ) → settle s ≤ 2
settle-small s = picked (λ x. x ≤ 2) (ltb s 2) s 2 (λ e. omega (arith, ltb-true s 2 e)) (λ e. omega arith)

-- What is settled determines no more than any allowed assignment.
settle-below : {s v : ℕ} → Fits s v → Below (value_of (settle s)) (value_of v)
settle-below {s} {v} (chosen h e) = rw (e, lt-ltb s 2 h) same
settle-below {s} {v} (undetermined h e) = rw (le-ltb s 2 h) bottom
settle-below {s} {v} (free o) = rw (le-ltb s 2 (open_free o).0) bottom

pub settled-below : (S τ : List ℕ) → Within S τ → LessDetermined (assigned (settled S)) (assigned τ)
settled-below S τ w n = rw (settled_at S n) (settle-below (w n))
