-- The first assignment that a state allows, beside another in byte order.
use Prim.Native.Nat.{ℕ, suc, ◌+◌, ◌-◌, ◌≤◌, ◌<◌}
use native.Mathlib.Omega.{arith}
use mathlib.Core.Path.{◌≡◌, refl, sym, ap, ◌∙◌, subst}
use mathlib.Core.Logic.{◌⊎◌, inl, inr}
use mathlib.Core.Bool.{Bool, true, false, false≢true, ◌&&◌, and-eq-true_iff}
use mathlib.Core.List.{List, [], ◌∷◌}
use lib.Dec.{leb, ltb, eqb}
use lib.ListN.{length}
use borrow.Author.Tests.{ltb-true, ltb-false, leb-true, eqb-true, lt-ltb, le-ltb, le-leb}
use Rattle.formula.specs.Answers.{pick}
use Rattle.assignments.specs.Assignments.{determined, Before, lower, same}
use Rattle.needs.specs.States.{any, last, Fits, chosen, undetermined, free, Within, settle, settled, bit}
use Rattle.needs.proofs.StateLaws.{picked, open_free, within_count}
use Rattle.counterexample.specs.Exploring.{lowest, spent, precedes}

-- No byte that is allowed is lower, if one that determines may be determined.
pub low_byte : (k s v : ℕ) → Fits s v → (2 ≤ s → v < 2 → 0 < k) → lowest k s ≤ v
low_byte k s v f h =
    picked (λ x. x ≤ v) (ltb s 2) s (pick (eqb k 0) 2 (pick (eqb s 3) 1 (pick (eqb s 5) 2 0)))
    (λ e. fixed (ltb-true s 2 e) f)
    (λ e. picked (λ x. x ≤ v) (eqb k 0) 2 (pick (eqb s 3) 1 (pick (eqb s 5) 2 0))
    (λ z. none (ltb-false s 2 e) (eqb-true k 0 z) f)
    (λ z. picked (λ x. x ≤ v) (eqb s 3) 1 (pick (eqb s 5) 2 0) (λ t. not-zero (eqb-true s 3 t) f) (λ t. picked (λ x. x ≤ v) (eqb s 5) 2 0 (λ u. neither (eqb-true s 5 u) f) (λ u. omega arith))))
  where
    fixed : s < 2 → Fits s v → s ≤ v
    fixed p (chosen a b) = omega (arith, b)
    fixed p (undetermined a b) = absurd (omega (arith, p, a))
    fixed p (free o) = absurd (omega (arith, p, (open_free o).0))

    none : 2 ≤ s → k ≡ 0 → Fits s v → 2 ≤ v
    none p z (chosen a b) = absurd (omega (arith, p, a))
    none p z (undetermined a b) = omega (arith, b)
    none p z (free o) = absurd (omega (arith, z, h p (omega (arith, (open_free o).1))))

    not-zero : s ≡ 3 → Fits s v → 1 ≤ v
    not-zero p (chosen a b) = absurd (omega (arith, p, a))
    not-zero p (undetermined a b) = omega (arith, b)
    not-zero p (free (any a b)) = absurd (omega (arith, p, a))
    not-zero p (free (last a b)) = omega (arith, p, b)

    neither : s ≡ 5 → Fits s v → 2 ≤ v
    neither p (chosen a b) = absurd (omega (arith, p, a))
    neither p (undetermined a b) = omega (arith, b)
    neither p (free (any a b)) = absurd (omega (arith, p, a))
    neither p (free (last a b)) = absurd (omega (arith, p, b))

bit-of : (s : ℕ) → ((s < 2) × (bit (ltb s 2) ≡ 1)) ⊎ ((2 ≤ s) × (bit (ltb s 2) ≡ 0))
bit-of s = go (ltb s 2) refl
  where
    go : (b : Bool) → ltb s 2 ≡ b → ((s < 2) × (bit (ltb s 2) ≡ 1)) ⊎ ((2 ≤ s) × (bit (ltb s 2) ≡ 0))
    go true e = inl (ltb-true s 2 e, ap bit e)
    go false e = inr (ltb-false s 2 e, ap bit e)

-- How many may be determined behind a byte that is the first.
spent-step : (k s v m n : ℕ) → Fits s v → lowest k s ≡ v → bit (ltb v 2) + m ≤ bit (ltb s 2) + n + k → m ≤ n + spent k s
spent-step k s v m n f e h = picked (λ x. m ≤ n + x) (leb 2 s && ltb (lowest k s) 2) (k - 1) k yes-case no-case
  where
    low : {b : Bool} → (leb 2 s && ltb (lowest k s) 2) ≡ b → b ≡ true → (2 ≤ s) × (v < 2)
    low p q = let t = (and-eq-true_iff (leb 2 s) (ltb (lowest k s) 2)).0 (p ∙ q) in (leb-true 2 s t.0, omega (arith, ltb-true (lowest k s) 2 t.1, e))

    yes-case : (leb 2 s && ltb (lowest k s) 2) ≡ true → m ≤ n + (k - 1)
    yes-case p = let t = low p refl in go (bit-of s) (bit-of v)
      where
        t : (2 ≤ s) × (v < 2)
        t = low p refl

        go : ((s < 2) × (bit (ltb s 2) ≡ 1)) ⊎ ((2 ≤ s) × (bit (ltb s 2) ≡ 0)) → ((v < 2) × (bit (ltb v 2) ≡ 1)) ⊎ ((2 ≤ v) × (bit (ltb v 2) ≡ 0)) → m ≤ n + (k - 1)
        go (inl a) b = absurd (omega (arith, a.0, t.0))
        go (inr a) (inl b) = omega (arith, a.1, b.1, h)
        go (inr a) (inr b) = absurd (omega (arith, b.0, t.1))

    no-case : (leb 2 s && ltb (lowest k s) 2) ≡ false → m ≤ n + k
    no-case p = go f (bit-of s) (bit-of v)
      where
        go : Fits s v → ((s < 2) × (bit (ltb s 2) ≡ 1)) ⊎ ((2 ≤ s) × (bit (ltb s 2) ≡ 0)) → ((v < 2) × (bit (ltb v 2) ≡ 1)) ⊎ ((2 ≤ v) × (bit (ltb v 2) ≡ 0)) → m ≤ n + k
        go (chosen a b) (inl x) (inl y) = omega (arith, x.1, y.1, h)
        go (chosen a b) (inr x) y = absurd (omega (arith, a, x.0))
        go (chosen a b) (inl x) (inr y) = absurd (omega (arith, a, b, y.0))
        go (undetermined a b) (inl x) y = absurd (omega (arith, a, x.0))
        go (undetermined a b) (inr x) y = omega (arith, x.1, h)
        go (free o) x y = absurd (false≢true (sym p ∙ (and-eq-true_iff (leb 2 s) (ltb (lowest k s) 2)).1 (le-leb 2 s (open_free o).0, lt-ltb (lowest k s) 2 (omega (arith, e, (open_free o).1)))))

not-before : (w b : ℕ) (r : Bool) → pick (ltb w b) true (pick (ltb b w) false r) ≡ false → (b ≤ w) × (b ≡ w → r ≡ false)
not-before w b r e = go (ltb w b) (ltb b w) refl refl e
  where
    go : (p q : Bool) → ltb w b ≡ p → ltb b w ≡ q → pick p true (pick q false r) ≡ false → (b ≤ w) × (b ≡ w → r ≡ false)
    go true q i j e = absurd (false≢true (sym e))
    go false true i j e = (ltb-false w b i, λ z. absurd (omega (arith, z, ltb-true b w j)))
    go false false i j e = (ltb-false w b i, λ z. e)

is-before : (w b : ℕ) (r : Bool) → pick (ltb w b) true (pick (ltb b w) false r) ≡ true → (w < b) ⊎ ((w ≡ b) × (r ≡ true))
is-before w b r e = go (ltb w b) (ltb b w) refl refl e
  where
    go : (p q : Bool) → ltb w b ≡ p → ltb b w ≡ q → pick p true (pick q false r) ≡ true → (w < b) ⊎ ((w ≡ b) × (r ≡ true))
    go true q i j e = inl (ltb-true w b i)
    go false true i j e = absurd (false≢true e)
    go false false i j e = inr (omega (arith, ltb-false w b i, ltb-false b w j), e)

before-cons : {x y : ℕ} {l m : List ℕ} → Before (x ∷ l) (y ∷ m) → (x < y) ⊎ ((x ≡ y) × Before l m)
before-cons (lower h) = inl h
before-cons (same b) = inr (refl, b)

-- Where the first assignment does not come before another, none that determines as few does.
pub precede-sound : (k : ℕ) (S τ B : List ℕ) → length S ≡ length τ → Within S τ → determined τ ≤ determined S + k → precedes k S B ≡ false → Before τ B → ⊥
unfolding precedes determined
precede-sound k [] [] B e w c f p = elim p [ ]
precede-sound k [] (v ∷ τ) B e w c f p = omega (arith, e)
precede-sound k (s ∷ S) [] B e w c f p = omega (arith, e)
precede-sound k (s ∷ S) (v ∷ τ) [] e w c f p = elim p [ ]
precede-sound k (s ∷ S) (v ∷ τ) (b ∷ B) e w c f p = go (precede-sound (spent k s) S τ B l (λ n. w (suc n))) (before-cons p)
  where
    l : length S ≡ length τ
    l = omega (arith, e)

    q : (b ≤ lowest k s) × (b ≡ lowest k s → precedes (spent k s) S B ≡ false)
    q = not-before (lowest k s) b (precedes (spent k s) S B) f

    room : 2 ≤ s → v < 2 → 0 < k
    room g h = let n = within_count (λ n v. false) S τ l (λ n. w (suc n)) in let x : bit (ltb s 2) ≡ 0 = ap bit (le-ltb s 2 g) in let y : bit (ltb v 2) ≡ 1 = ap bit (lt-ltb v 2 h) in omega (arith, n, x, y, c)

    t : lowest k s ≤ v
    t = low_byte k s v (w 0) room

    go : (determined τ ≤ determined S + spent k s → precedes (spent k s) S B ≡ false → Before τ B → ⊥) → (v < b) ⊎ ((v ≡ b) × Before τ B) → ⊥
    go r (inl h) = omega (arith, h, q.0, t)
    go r (inr h) =
        let z : b ≡ lowest k s = omega (arith, h.0, q.0, t) in
        r (spent-step k s v (determined τ) (determined S) (w 0) (sym z ∙ sym h.0) (omega (arith, c))) (q.1 z) h.1

-- With no more to determine the first assignment is what is settled.
pub precede-settled : (S B : List ℕ) → precedes 0 S B ≡ true → Before (settled S) B
unfolding precedes settled
precede-settled [] B e = absurd (false≢true e)
precede-settled (s ∷ S) [] e = absurd (false≢true e)
precede-settled (s ∷ S) (b ∷ B) e = go (precede-settled S B) (is-before (settle s) b (precedes (spent 0 s) S B) e)
  where
    zero-spent : spent 0 s ≡ 0
    zero-spent = picked (λ x. x ≡ 0) (leb 2 s && ltb (lowest 0 s) 2) (0 - 1) 0 (λ e. refl) (λ e. refl)

    go : (precedes 0 S B ≡ true → Before (settled S) B) → (settle s < b) ⊎ ((settle s ≡ b) × (precedes (spent 0 s) S B ≡ true)) → Before (settle s ∷ settled S) (b ∷ B)
    go r (inl h) = lower h
    go r (inr h) = subst (λ x. Before (settle s ∷ settled S) (x ∷ B)) h.0 (same (r (ap (λ k. precedes k S B) (sym zero-spent) ∙ h.1)))
