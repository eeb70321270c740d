-- Loops over the bytes of a state.
use Prim.Native.Nat.{ℕ, ◌+◌, ◌≤◌, ◌<◌, min}
use native.Mathlib.Omega.{arith}
use native.Mathlib.Nat.{zero-add}
use mathlib.Core.Path.{◌≡◌, refl, sym, ap, ap₂, ◌∙◌}
use mathlib.Core.Bool.{Bool, true, false}
use mathlib.Core.Logic.{◌⊎◌, inl, inr}
use mathlib.Core.List.{List, [], ◌∷◌, ◌++◌, append-nil}
use lib.Dec.{ltb}
use lib.ListN.{length, get_or, set, take, drop}
use lib.Seq.{sets, sets-eq, take_all, drop-length}
use borrow.Author.Tests.{lt-ltb, le-ltb, ltb-true, ltb-false}
use Rattle.formula.specs.Answers.{pick}
use Rattle.formula.proofs.ByteLaws.{copied_more}
use Rattle.needs.specs.States.{settle, settled}
use Rattle.needs.proofs.StateLaws.{picked, settled_at, settled-long}
use Rattle.needs.proofs.WeighLaws.{get_or-in}
use Rattle.counterexample.specs.Exploring.{lowest, spent, precedes}

settled-byte : (S : List ℕ) (i : ℕ) → i < length S → settle (get_or S i 0) ≡ get_or (settled S) i 0
settled-byte S i h = ap settle (get_or-in S i 0 5 h) ∙ sym (settled_at S i) ∙ get_or-in (settled S) i 2 0 (omega (arith, h, settled-long S))

-- A byte of the assignment that determines only what the state has chosen.
pub settle-min : (s : ℕ) → min s 2 ≡ settle s
settle-min s = picked (λ x. min s 2 ≡ x) (ltb s 2) s 2 (λ e. omega (arith, ltb-true s 2 e)) (λ e. omega (arith, ltb-false s 2 e))

pub settle-more : (S B : List ℕ) (i : ℕ) → i < length S → set (sets B 0 (take i (settled S))) i (settle (get_or S i 0)) ≡ sets B 0 (take (i + 1) (settled S))
settle-more S B i h =
    ap₂ (λ (n v : ℕ). set (sets B 0 (take i (settled S))) n v) (sym (zero-add i)) (settled-byte S i h)
    ∙ copied_more B 0 (settled S) i (omega (arith, h, settled-long S))

pub settle-ends : (S B : List ℕ) (i : ℕ) → length S ≤ i → length B ≡ length S → sets B 0 (take i (settled S)) ≡ settled S
settle-ends S B i h e =
    ap (sets B 0) (take_all i (settled S) (omega (arith, h, settled-long S)))
    ∙ sets-eq (settled S) B 0 (omega (arith, e, settled-long S))
    ∙ ap (λ l. settled S ++ l) (ap (λ n. drop n B) (let k : 0 + length (settled S) ≡ length B = omega (arith, e, settled-long S) in k) ∙ drop-length B)
    ∙ append-nil (settled S)

-- Which comes before, by what the first bytes are.
module _ (k : ℕ) {S B S' B' : List ℕ} {s b v : ℕ} (p : S ≡ s ∷ S') (q : B ≡ b ∷ B') (e : v ≡ lowest k s) where
  by_tests : {x y : Bool} → ltb v b ≡ x → ltb b v ≡ y → precedes k S B ≡ pick x true (pick y false (precedes (spent k s) S' B'))
  unfolding precedes
  by_tests g h =
      ap₂ (precedes k) p q
      ∙ ap₂ (λ x y. pick x true (pick y false (precedes (spent k s) S' B'))) (ap (λ v. ltb v b) (sym e) ∙ g) (ap (ltb b) (sym e) ∙ h)

  pub precedes-lower : v < b → precedes k S B ≡ true
  precedes-lower h = by_tests (lt-ltb v b h) refl

  pub precedes-higher : b < v → precedes k S B ≡ false
  precedes-higher h = by_tests (le-ltb v b (omega (arith, h))) (lt-ltb b v h)

  pub precedes-equal : b ≤ v → v ≤ b → precedes k S B ≡ precedes (spent k s) S' B'
  precedes-equal g h = by_tests (le-ltb v b g) (le-ltb b v h)

pub precedes-ends : (k : ℕ) (S B : List ℕ) → (length S ≡ 0) ⊎ (length B ≡ 0) → precedes k S B ≡ false
unfolding precedes
precedes-ends k [] B h = refl
precedes-ends k (s ∷ S) [] h = refl
precedes-ends k (s ∷ S) (b ∷ B) (inl h) = absurd (omega (arith, h))
precedes-ends k (s ∷ S) (b ∷ B) (inr h) = absurd (omega (arith, h))
