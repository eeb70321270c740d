-- States in which a literal is chosen, or given up.
use Prim.Native.Nat.{ℕ, zero, suc, ◌+◌, ◌≤◌, ◌<◌}
use native.Mathlib.Omega.{arith}
use native.Mathlib.Decide.{ℕ_discrete}
use mathlib.Core.Path.{◌≡◌, refl, sym, ap, ap₂, ◌∙◌, subst}
use mathlib.Core.Bool.{false}
use mathlib.Core.List.{List, [], ◌∷◌}
use lib.Dec.{ltb, eqb}
use lib.ListN.{length, get_or, set}
use lib.Seq.{get_or-set_same, get_or-set_other}
use borrow.Author.Tests.{lt-ltb, le-ltb, eqb-true, eqb-false}
use Rattle.formula.specs.Answers.{pick}
use Rattle.assignments.specs.Assignments.{determined}
use Rattle.needs.specs.States.{Open, any, last, Fits, chosen, undetermined, free, Within, settle, settled, bit}
use Rattle.needs.proofs.StateLaws.{picked, open_free, within_count}
use Rattle.counterexample.specs.Exploring.{without}

-- The only assignment that determines no more than is chosen.
pub settled_only : (S τ : List ℕ) → length S ≡ length τ → Within S τ → determined τ ≤ determined S → τ ≡ settled S
unfolding settled determined
settled_only [] [] e w c = refl
settled_only [] (v ∷ τ) e w c = absurd (omega (arith, e))
settled_only (s ∷ S) [] e w c = absurd (omega (arith, e))
settled_only (s ∷ S) (v ∷ τ) e w c = go (settled_only S τ l (λ n. w (suc n))) (w 0)
  where
    l : length S ≡ length τ
    l = omega (arith, e)

    n : determined S ≤ determined τ
    n = omega (arith, within_count (λ n v. false) S τ l (λ n. w (suc n)))

    go : (determined τ ≤ determined S → τ ≡ settled S) → Fits s v → (v ∷ τ) ≡ (settle s ∷ settled S)
    go r (chosen h i) =
        let x : bit (ltb s 2) ≡ 1 = ap bit (lt-ltb s 2 h) in
        let y : bit (ltb v 2) ≡ 1 = ap bit (lt-ltb v 2 (omega (arith, h, i))) in
        let z : settle s ≡ s = rw (lt-ltb s 2 h) in
        ap₂ (λ x y. x ∷ y) (i ∙ sym z) (r (omega (arith, c, x, y)))
    go r (undetermined h i) =
        let x : bit (ltb s 2) ≡ 0 = ap bit (le-ltb s 2 h) in
        let y : bit (ltb v 2) ≡ 0 = ap bit (le-ltb v 2 (omega (arith, i))) in
        let z : settle s ≡ 2 = rw (le-ltb s 2 h) in
        ap₂ (λ x y. x ∷ y) (i ∙ sym z) (r (omega (arith, c, x, y)))
    go r (free o) =
        let x : bit (ltb s 2) ≡ 0 = ap bit (le-ltb s 2 (open_free o).0) in
        let y : bit (ltb v 2) ≡ 1 = ap bit (lt-ltb v 2 (omega (arith, (open_free o).1))) in
        absurd (omega (arith, c, n, x, y))

-- ---- one byte set

module _ (S τ : List ℕ) (n v : ℕ) (w : Within S τ) (i : n < length S) where
  within-set : Fits v (get_or τ n 2) → Within (set S n v) τ
  within-set f m = go (ℕ_discrete m n)
    where
      go : Dec (m ≡ n) → Fits (get_or (set S n v) m 5) (get_or τ m 2)
      go (yes e) = subst (λ m. Fits (get_or (set S n v) m 5) (get_or τ m 2)) (sym e) (subst (λ x. Fits x (get_or τ n 2)) (sym (get_or-set_same S n v 5 i)) f)
      go (no e) = subst (λ x. Fits x (get_or τ m 2)) (sym (get_or-set_other S n m v 5 e)) (w m)

-- An assignment has the side that may be chosen, or not.
pub within-chosen : (S τ : List ℕ) (n e : ℕ) → Within S τ → n < length S → e ≤ 1 → get_or τ n 2 ≡ e → Within (set S n e) τ
within-chosen S τ n e w i k h = within-set S τ n e w i (chosen (omega (arith, k)) h)

given-up : (s v e : ℕ) → Open s e → (v ≡ e → ⊥) → Fits s v → Fits (without s e) v
given-up s v e o n f = picked (λ x. Fits x v) (eqb s 2) (3 + e) 5 (λ h. one (eqb-true s 2 h) f) (λ h. none (eqb-false s 2 h) o f)
  where
    k : e ≤ 1
    k = (open_free o).1

    one : s ≡ 2 → Fits s v → Fits (3 + e) v
    one h (chosen a b) = absurd (omega (arith, h, a))
    one h (undetermined a b) = undetermined (omega arith) b
    one h (free p) = free (last (open_free p).1 (other (open_free p).1))
      where
        differ : (v e : ℕ) → v ≤ 1 → e ≤ 1 → (v ≡ e → ⊥) → 3 + e + v ≡ 4
        differ zero zero a b n = absurd (n refl)
        differ zero (suc e) a b n = omega (arith, b)
        differ (suc v) zero a b n = omega (arith, a)
        differ (suc v) (suc e) a b n = absurd (n (omega (arith, a, b)))

        other : v ≤ 1 → 3 + e + v ≡ 4
        other a = differ v e a k n

    none : (s ≡ 2 → ⊥) → Open s e → Fits s v → Fits 5 v
    none h q (chosen a b) = absurd (omega (arith, (open_free q).0, a))
    none h q (undetermined a b) = undetermined (omega arith) b
    none h (any a b) (free p) = absurd (h a)
    none h (last a b) (free (any c d)) = absurd (h c)
    none h (last a b) (free (last c d)) = absurd (n (omega (arith, b, d)))

pub within-without : (S τ : List ℕ) (n e : ℕ) → Within S τ → n < length S → Open (get_or S n 5) e → (get_or τ n 2 ≡ e → ⊥) → Within (set S n (without (get_or S n 5) e)) τ
within-without S τ n e w i o h = within-set S τ n (without (get_or S n 5) e) w i (given-up (get_or S n 5) (get_or τ n 2) e o h (w n))

-- How many are chosen then.
pub determined-set : (S : List ℕ) (n v : ℕ) → n < length S → determined (set S n v) + bit (ltb (get_or S n 5) 2) ≡ determined S + bit (ltb v 2)
unfolding determined
determined-set [] n v i = absurd (omega (arith, i))
determined-set (s ∷ S) zero v i = omega arith
determined-set (s ∷ S) (suc n) v i = omega (arith, determined-set S n v (omega (arith, i)))

pub chosen-counts : (S : List ℕ) (n e : ℕ) → n < length S → Open (get_or S n 5) e → determined (set S n e) ≡ determined S + 1
chosen-counts S n e i o =
    let x : bit (ltb (get_or S n 5) 2) ≡ 0 = ap bit (le-ltb (get_or S n 5) 2 (open_free o).0) in
    let y : bit (ltb e 2) ≡ 1 = ap bit (lt-ltb e 2 (omega (arith, (open_free o).1))) in
    omega (arith, determined-set S n e i, x, y)

without-free : (s e : ℕ) → 2 ≤ without s e
without-free s e = picked (λ x. 2 ≤ x) (eqb s 2) (3 + e) 5 (λ h. omega arith) (λ h. omega arith)

pub without-counts : (S : List ℕ) (n e : ℕ) → n < length S → Open (get_or S n 5) e → determined (set S n (without (get_or S n 5) e)) ≡ determined S
without-counts S n e i o =
    let x : bit (ltb (get_or S n 5) 2) ≡ 0 = ap bit (le-ltb (get_or S n 5) 2 (open_free o).0) in
    let y : bit (ltb (without (get_or S n 5) e) 2) ≡ 0 = ap bit (le-ltb (without (get_or S n 5) e) 2 (without-free (get_or S n 5) e)) in
    omega (arith, determined-set S n (without (get_or S n 5) e) i, x, y)

-- ---- how many choices are left

-- The sides that a byte leaves open.
abbrev choices : ℕ → ℕ
choices s = pick (eqb s 2) 2 (pick (eqb s 3) 1 (pick (eqb s 4) 1 0))

unfoldable pub left : List ℕ → ℕ
left [] = 0
left (s ∷ S) = choices s + left S

left-set : (S : List ℕ) (n v : ℕ) → n < length S → left (set S n v) + choices (get_or S n 5) ≡ left S + choices v
unfolding left
left-set [] n v i = absurd (omega (arith, i))
left-set (s ∷ S) zero v i = omega arith
left-set (s ∷ S) (suc n) v i = omega (arith, left-set S n v (omega (arith, i)))

choices-chosen : (e : ℕ) → e ≤ 1 → choices e ≡ 0
choices-chosen zero k = refl
choices-chosen (suc zero) k = refl
choices-chosen (suc (suc e)) k = absurd (omega (arith, k))

choices-open : (s e : ℕ) → Open s e → 0 < choices s
choices-open s e (any h k) = subst (λ s. 0 < choices s) (sym h) (omega arith)
choices-open s zero (last k h) = subst (λ s. 0 < choices s) (let g : 4 ≡ s = omega (arith, h) in g) (omega arith)
choices-open s (suc zero) (last k h) = subst (λ s. 0 < choices s) (let g : 3 ≡ s = omega (arith, h) in g) (omega arith)
choices-open s (suc (suc e)) (last k h) = absurd (omega (arith, k))

choices-without : (s e : ℕ) → Open s e → choices (without s e) < choices s
choices-without s e (any h k) = subst (λ s. choices (without s e) < choices s) (sym h) (three e k)
  where
    three : (e : ℕ) → e ≤ 1 → choices (3 + e) < 2
    three zero k = omega arith
    three (suc zero) k = omega arith
    three (suc (suc e)) k = absurd (omega (arith, k))
choices-without s zero (last k h) = subst (λ s. choices (without s zero) < choices s) (let g : 4 ≡ s = omega (arith, h) in g) (omega arith)
choices-without s (suc zero) (last k h) = subst (λ s. choices (without s 1) < choices s) (let g : 3 ≡ s = omega (arith, h) in g) (omega arith)
choices-without s (suc (suc e)) (last k h) = absurd (omega (arith, k))

pub left-chosen : (S : List ℕ) (n e : ℕ) → n < length S → Open (get_or S n 5) e → left (set S n e) < left S
left-chosen S n e i o = omega (arith, left-set S n e i, choices-chosen e (open_free o).1, choices-open (get_or S n 5) e o)

pub left-without : (S : List ℕ) (n e : ℕ) → n < length S → Open (get_or S n 5) e → left (set S n (without (get_or S n 5) e)) < left S
left-without S n e i o = omega (arith, left-set S n (without (get_or S n 5) e) i, choices-without (get_or S n 5) e o)
