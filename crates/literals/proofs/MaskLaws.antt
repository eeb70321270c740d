-- Laws of the loop that marks where the next number of a row is the opposite of one.
use Prim.Native.Nat.{ℕ, zero, suc, ◌+◌, ◌-◌, ◌%◌, ◌≤◌, ◌<◌}
use native.Mathlib.Omega.{arith}
use native.Mathlib.Numerals.{add-one}
use mathlib.Core.Path.{◌≡◌, refl, sym, ap, ap₂, ◌∙◌}
use mathlib.Core.Bool.{Bool, true, false}
use mathlib.Core.List.{List, [], ◌∷◌, ◌++◌}
use lib.Dec.{eqb}
use lib.ListN.{length, get_or, set, take, drop, replicate, take-append-drop, drop_of_length-le}
use borrow.Author.Tests.{eq-eqb, ne_eqb}
use lib.Seq.{length-take-le, set_at, take-suc, drop-cons, append_snoc}
use Rattle.formula.specs.Answers.{pick}
use Rattle.clauses.specs.Normal.{opposite}
use Rattle.clauses.specs.Words.{adjacent}

-- The opposite by the code's test.
pub opposite-even : (k : ℕ) → k % 2 ≡ 0 → k + 1 ≡ opposite k
unfolding opposite
opposite-even k e = rw e (omega (arith, e))

pub opposite-odd : (k : ℕ) → (k % 2 ≡ 0 → ⊥) → k - 1 ≡ opposite k
unfolding opposite
opposite-odd k e = let o : k % 2 ≡ 1 = omega (arith, e) in rw o (omega (arith, o))

-- What a test of the code picks.
pub picks_first : {A : Type 0} {m n k : ℕ} (a b : A) → m ≡ n → m ≡ k → a ≡ pick (eqb n k) a b
picks_first {n = n} {k} a b e h = sym (ap (λ x. pick x a b) (eq-eqb n k (sym e ∙ h)))

pub picks_second : {A : Type 0} {m n k : ℕ} (a b : A) → m ≡ n → (m ≡ k → ⊥) → b ≡ pick (eqb n k) a b
picks_second {n = n} {k} a b e h = sym (ap (λ x. pick x a b) (ne_eqb n k (λ p. h (e ∙ p))))

adjacent-length : (ns : List ℕ) → length (adjacent ns) ≡ length ns
unfolding adjacent
adjacent-length [] = refl
adjacent-length (k ∷ []) = refl
adjacent-length (k ∷ j ∷ ns) = ap suc (adjacent-length (j ∷ ns))

adjacent-at : (ns : List ℕ) (i : ℕ) → suc i < length ns → get_or (adjacent ns) i false ≡ eqb (opposite (get_or ns i 0)) (get_or ns (suc i) 0)
unfolding adjacent
adjacent-at [] i h = absurd (omega (arith, h))
adjacent-at (k ∷ []) i h = absurd (omega (arith, h))
adjacent-at (k ∷ j ∷ ns) zero h = refl
adjacent-at (k ∷ j ∷ ns) (suc i) h = adjacent-at (j ∷ ns) i (omega (arith, h))

-- The last has no next.
adjacent-last : (ns : List ℕ) (i : ℕ) → suc i ≡ length ns → get_or (adjacent ns) i false ≡ false
unfolding adjacent
adjacent-last [] i h = absurd (omega (arith, h))
adjacent-last (k ∷ []) zero h = refl
adjacent-last (k ∷ []) (suc i) h = refl
adjacent-last (k ∷ j ∷ ns) zero h = absurd (omega (arith, h))
adjacent-last (k ∷ j ∷ ns) (suc i) h = adjacent-last (j ∷ ns) i (omega (arith, h))

-- One bit told, of those that are not.
marked-at : (x : Bool) (p : List Bool) (m : List Bool) (i : ℕ) → length p ≡ i → pick x (set (p ++ false ∷ m) i true) (p ++ false ∷ m) ≡ p ++ x ∷ m
marked-at true p m i e = set_at p false m true i e
marked-at false p m i e = refl

pub record Marking (ns : List ℕ) (b : List Bool) (i : ℕ) : Type 0 where
  pub upto : i < length ns
  pub made : b ≡ take i (adjacent ns) ++ replicate (length ns - i) false

pub marking-start : (ns : List ℕ) (b : List Bool) (n : ℕ) → length ns ≡ n → 0 < n → b ≡ replicate n false → Marking ns b 0
marking-start ns b n e h p = let d : n ≡ length ns - 0 = omega (arith, e) in record { upto = omega (arith, h, e); made = p ∙ ap (λ m. replicate m false) d }

module _ {ns : List ℕ} {b : List Bool} {i : ℕ} (s : Marking ns b i) where
  -- The first bit that is still to be told.
  unmarked : b ≡ take i (adjacent ns) ++ false ∷ replicate (length ns - (i + 1)) false
  unmarked = let d : length ns - i ≡ suc (length ns - (i + 1)) = omega (arith, s.upto) in s.made ∙ ap (λ m. take i (adjacent ns) ++ replicate m false) d

  told : length (take i (adjacent ns)) ≡ i
  told = length-take-le i (adjacent ns) (omega (arith, s.upto, adjacent-length ns))

  pub marking-next : {b' : List Bool} → i + 1 < length ns → b' ≡ pick (eqb (opposite (get_or ns i 0)) (get_or ns (i + 1) 0)) (set b i true) b → Marking ns b' (i + 1)
  marking-next h e =
      let x = eqb (opposite (get_or ns i 0)) (get_or ns (i + 1) 0) in
      let p = take i (adjacent ns) in
      let m = replicate (length ns - (i + 1)) false in
      let j : i < length (adjacent ns) = omega (arith, s.upto, adjacent-length ns) in
      let y : get_or (adjacent ns) i false ≡ x = adjacent-at ns i (omega (arith, h)) ∙ ap (λ n. eqb (opposite (get_or ns i 0)) (get_or ns n 0)) (sym (add-one i)) in
      record {
        upto = h;
        made = e ∙ ap (λ z. pick x (set z i true) z) unmarked ∙ marked-at x p m i told ∙ sym (append_snoc p x m) ∙ ap (λ z. (p ++ z ∷ []) ++ m) (sym y) ∙ ap (λ z. z ++ m) (sym (take-suc (adjacent ns) i false j) ∙ ap (λ n. take n (adjacent ns)) (sym (add-one i)));
      }

  pub marking-end : length ns ≤ i + 1 → b ≡ adjacent ns
  marking-end h =
      let p = take i (adjacent ns) in
      let j : i < length (adjacent ns) = omega (arith, s.upto, adjacent-length ns) in
      let none : length ns - (i + 1) ≡ 0 = omega (arith, h) in
      let y : get_or (adjacent ns) i false ≡ false = adjacent-last ns i (omega (arith, h, s.upto)) in
      let end : drop i (adjacent ns) ≡ false ∷ [] = drop-cons (adjacent ns) i false j ∙ ap₂ ◌∷◌ y (drop_of_length-le (adjacent ns) {i = suc i} (omega (arith, h, adjacent-length ns))) in
      unmarked ∙ ap (λ m. p ++ false ∷ replicate m false) none ∙ ap (λ z. p ++ z) (sym end) ∙ take-append-drop i (adjacent ns)
