-- Parts of a list: joined, and split in front.
use mathlib.Core.Path.{◌≡◌, refl, sym, ap, ap₂, ◌∙◌}
use mathlib.Core.List.{List, [], ◌∷◌, ◌++◌}
use Prim.Native.Nat.{ℕ, suc, ◌+◌, ◌-◌, ◌≤◌, ◌<◌}
use native.Mathlib.Omega.{arith}
use lib.ListN.{length, get_or, take, drop, length-append, length-take, length-drop}
use lib.Seq.{drop-cons, drop-drop, take-add, take_at, drop_at}
use Rattle.rows.specs.Flattening.{part}

module _ {A : Type 0} (l : List A) where
  pub part_none : (a : ℕ) → part l a a ≡ []
  part_none a = let e : a - a ≡ 0 = omega arith in rw e

  pub part_join : (a e b : ℕ) → a ≤ e → e ≤ b → part l a b ≡ part l a e ++ part l e b
  part_join a e b h k =
      let p : b - a ≡ (e - a) + (b - e) = omega arith in
      let q : a + (e - a) ≡ e = omega arith in
      ap (λ (n : ℕ). take n (drop a l)) p ∙ take-add (e - a) (b - e) (drop a l) ∙ ap (λ (z : List A). part l a e ++ take (b - e) z) (drop-drop (e - a) a l ∙ ap (λ (n : ℕ). drop n l) q)

  pub part_length : (a b : ℕ) → b ≤ length l → length (part l a b) ≡ b - a
  part_length a b h = simp (length-take, length-drop) (omega arith)

  pub part-cons : (a b : ℕ) (d : A) → a < b → b ≤ length l → part l a b ≡ get_or l a d ∷ part l (a + 1) b
  part-cons a b d h k =
      let p : b - a ≡ suc (b - (a + 1)) = omega arith in
      let q : suc a ≡ a + 1 = omega arith in
      ap₂ take p (drop-cons l a d (omega arith) ∙ ap (λ (n : ℕ). get_or l a d ∷ drop n l) q)

  -- What stands in front of a part ends inside it.
  pub part-split : (a b : ℕ) (x m : List A) → a ≤ b → b ≤ length l → part l a b ≡ x ++ m → (a + length x ≤ b) × (part l a (a + length x) ≡ x) × (part l (a + length x) b ≡ m)
  part-split a b x m h k e =
      let n : b - a ≡ length x + length m = sym (part_length a b k) ∙ ap length e ∙ length-append x m in
      let p : a + length x ≤ b = omega arith in
      let j : part l a (a + length x) ++ part l (a + length x) b ≡ x ++ m = sym (part_join a (a + length x) b (omega arith) p) ∙ e in
      let i : length (part l a (a + length x)) ≡ length x = part_length a (a + length x) (omega arith) ∙ (omega arith) in (
        p,
        sym (take_at (part l a (a + length x)) (part l (a + length x) b) (length x) i) ∙ ap (take (length x)) j ∙ take_at x m (length x) refl,
        sym (drop_at (part l a (a + length x)) (part l (a + length x) b) (length x) i) ∙ ap (drop (length x)) j ∙ drop_at x m (length x) refl,
      )
