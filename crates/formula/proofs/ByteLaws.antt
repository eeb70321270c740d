-- Comparing and copying lists byte by byte.
use Prim.Native.Nat.{ℕ, suc, ◌+◌, ◌-◌, ◌≤◌, ◌<◌}
use native.Mathlib.Omega.{arith}
use native.Mathlib.Numerals.{add-one}
use native.Mathlib.Nat.{add-zero}
use mathlib.Core.Path.{◌≡◌, refl, sym, ap, ap₂, ◌∙◌}
use mathlib.Core.Bool.{Bool, true, false, ◌&&◌}
use mathlib.Core.List.{List, [], ◌∷◌, ◌++◌}
use lib.Dec.{eqb}
use lib.ListN.{length, get_or, take, drop, set}
use lib.Seq.{drop-cons, drop-length, sets, length-take-le, take-suc, take_all}
use borrow.Rule.Slice.PartMut.{put_mid}
use Rattle.std.specs.Cmp.Lexicographic.{pointwise}
use Rattle.std.proofs.lemmas.Slice.{put_mid-paste}
use Rattle.std.proofs.lemmas.List.Edits.{sets-eq}
use borrow.Author.Tests.{eqb-true, eq-eqb, le-leb, lt-leb}
use Rattle.formula.specs.Answers.{same_bytes, Put}

pub same_refl : (l : List ℕ) → same_bytes l l ≡ true
unfolding same_bytes
same_refl [] = refl
same_refl (a ∷ l) = rw (eq-eqb a a refl, same_refl l)

-- Lists that the comparison takes for equal are equal.
pub same_true : (l m : List ℕ) → same_bytes l m ≡ true → l ≡ m
unfolding same_bytes
same_true [] [] e = refl
same_true [] (b ∷ m) e = cc
same_true (a ∷ l) [] e = cc
same_true (a ∷ l) (b ∷ m) e = go (eqb a b) refl (same_true l m) e
  where
    go : (t : Bool) → eqb a b ≡ t → (same_bytes l m ≡ true → l ≡ m) → (t && same_bytes l m) ≡ true → a ∷ l ≡ b ∷ m
    go true i h e = ap₂ ◌∷◌ (eqb-true a b i) (h e)
    go false i h e = cc

pub same-lengths : (l m : List ℕ) → (length l ≡ length m → ⊥) → same_bytes l m ≡ false
unfolding same_bytes
same-lengths [] [] h = absurd (h refl)
same-lengths [] (b ∷ m) h = refl
same-lengths (a ∷ l) [] h = refl
same-lengths (a ∷ l) (b ∷ m) h = rw (same-lengths l m (λ e. h (ap suc e))) (go (eqb a b))
  where
    go : (t : Bool) → (t && false) ≡ false
    go true = refl
    go false = refl

module _ (l m : List ℕ) (i : ℕ) (p : i < length l) (q : i < length m) where
  pub same_at : same_bytes (drop i l) (drop i m) ≡ (eqb (get_or l i 0) (get_or m i 0) && same_bytes (drop (i + 1) l) (drop (i + 1) m))
  unfolding same_bytes
  same_at = rw (drop-cons l i 0 p, drop-cons m i 0 q, add-one i)

pub same_ends : (l m : List ℕ) (i : ℕ) → length l ≤ i → length l ≡ length m → i ≤ length l → same_bytes (drop i l) (drop i m) ≡ true
unfolding same_bytes
same_ends l m i p e q =
    let a : i ≡ length l = omega arith in
    ap₂ same_bytes (ap (λ (n : ℕ). drop n l) a ∙ drop-length l) (ap (λ (n : ℕ). drop n m) (a ∙ e) ∙ drop-length m)

-- the comparison of the library
pub same-pointwise : (l m : List ℕ) → pointwise eqb l m ≡ same_bytes l m
unfolding same_bytes
same-pointwise [] [] = refl
same-pointwise [] (b ∷ m) = refl
same-pointwise (a ∷ l) [] = refl
same-pointwise (a ∷ l) (b ∷ m) = ap (λ (t : Bool). eqb a b && t) (same-pointwise l m)

-- a part of a list that was pasted over
pub pasted : (src d ys : List ℕ) (at : ℕ) → at + length src ≤ length d → ys ≡ src → put_mid at (at + length src - at) d ys ≡ sets d at src
pasted src d ys at h e =
    let k : at + length src - at ≡ length src = omega arith in
    put_mid-paste at (at + length src - at) d ys src (length src) e (sym k) refl
    ∙ ap (λ (l : List ℕ). take at d ++ l ++ drop (at + length src) d) (take_all (length src) src (omega arith))
    ∙ sym (sets-eq src d at h)

-- a run of stores, one longer
pub sets-snoc : (d : List ℕ) (i : ℕ) (l : List ℕ) (b : ℕ) → sets d i (l ++ b ∷ []) ≡ set (sets d i l) (i + length l) b
sets-snoc d i [] b = rw add-zero
sets-snoc d i (a ∷ l) b = sets-snoc (set d i a) (suc i) l b ∙ ap (λ (n : ℕ). set (sets (set d i a) (suc i) l) n b) (omega arith)

pub copied_more : (d : List ℕ) (at : ℕ) (l : List ℕ) (i : ℕ) → i < length l → set (sets d at (take i l)) (at + i) (get_or l i 0) ≡ sets d at (take (i + 1) l)
copied_more d at l i h =
    ap (λ (n : ℕ). set (sets d at (take i l)) (at + n) (get_or l i 0)) (sym (length-take-le i l (omega arith)))
    ∙ sym (sets-snoc d at (take i l) (get_or l i 0))
    ∙ ap (sets d at) (sym (take-suc l i 0 h) ∙ ap (λ (n : ℕ). take n l) (sym (add-one i)))

-- what a copy that fits leaves, and what one that does not
module _ (src : List ℕ) (at : ℕ) (d : List ℕ) where
  pub put_in : (d' : List ℕ) → at + length src ≤ length d → d' ≡ sets d at src → Put src at d true d'
  put_in d' h e = record { says = simp (le-leb (at + length src) (length d) h); leaves = simp (le-leb (at + length src) (length d) h) e }

  pub put-out : length d < at + length src → Put src at d false d
  put-out h = record { says = simp (lt-leb (at + length src) (length d) h); leaves = simp (lt-leb (at + length src) (length d) h) }
