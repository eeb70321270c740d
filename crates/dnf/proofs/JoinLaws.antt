-- Laws of the clauses of a node.
use Prim.Native.Nat.{ℕ, ◌+◌, ◌-◌, ◌≤◌, ◌<◌}
use native.Mathlib.Omega.{arith}
use mathlib.Core.Path.{◌≡◌, sym, ap, ◌∙◌, subst}
use mathlib.Core.Option.{none, some}
use mathlib.Core.List.{List, [], ◌++◌}
use lib.ListN.{length, take, drop, length-take, length-drop}
use lib.Seq.{length-take-le, take-add, take-take, take_all, drop_at}
use native.Mathlib.Nat.{min-le_right}
use borrow.Author.Tests.{le-leb, lt-leb}
use Rattle.std.proofs.Common.{Some, None}
use Rattle.formula.specs.Answers.{pick}
use Rattle.clauses.specs.Normal.{Handling, limited, prune, least_of, entered}
use Rattle.clauses.specs.Lists.{Fronts, Adds, Lists}

-- The two parts of a list that stand one behind the other in front of it.
pub parted : {A : Type 0} (n m : ℕ) (l p : List A) → p ≡ take (n + m) l → length p ≡ n + m → (take n p ≡ take n l) × (take (length p - n) (drop n p) ≡ take m (drop n l))
parted n m l p e h =
    let long : n + m ≤ length l = omega (arith, h, ap length e, length-take (n + m) l, min-le_right (n + m) (length l)) in
    let back : drop n p ≡ take m (drop n l) = ap (drop n) (e ∙ take-add n m l) ∙ drop_at (take n l) (take m (drop n l)) n (length-take-le n l (omega (arith, long))) in
    (ap (take n) e ∙ take-take n (n + m) l (omega arith), take_all (length p - n) (drop n p) (omega (arith, length-drop n p)) ∙ back)

module _ {A : Type 0} (H : Handling A) where
  -- Too long before pruning.
  over : (xs : List A) {l : List A} → 256 < length xs → Lists (limited H xs) None l
  over xs h = record { told = ap (λ x. pick x (some (prune H xs)) none) (lt-leb (length xs) 256 h) }

  -- Pruned.
  done : (xs : List A) {n : ℕ} {l : List A} → length xs ≤ 256 → Fronts (least_of H.below (entered H.order [] xs)) n l → Lists (limited H xs) (Some n) l
  unfolding prune
  done xs h r = record { told = (r.fits, ap (λ x. pick x (some (prune H xs)) none) (le-leb (length xs) 256 h) ∙ ap some (sym r.here)) }

  pub both-done : (xs p : List A) {l l' : List A} {k r : ℕ} {l'' : List A} (at : ℕ) → length p ≡ at → 257 ≤ length l' → Adds xs 0 l (Some k) l' → Fronts (least_of H.below (entered H.order [] (take k (drop at (p ++ l'))))) r l'' → Lists (limited H xs) (Some r) l''
  both-done xs p {l} {l'} {k} {r} {l''} at e m a f =
      let few : length xs ≤ 256 = omega (arith, ap length a.told.1, length-take-le k l' (omega (arith, m, a.told.0)), a.told.0) in
      done xs few (subst (λ ys. Fronts (least_of H.below (entered H.order [] ys)) r l'') (ap (take k) (drop_at p l' at e) ∙ a.told.1) f)

  -- Two lists that stand one behind the other are one.
  pub either-over : (n m : ℕ) (l : List A) {l' : List A} → n + m ≤ length l → 256 < n + m → Lists (limited H (take n l ++ take m (drop n l))) None l'
  either-over n m l h o = over (take n l ++ take m (drop n l)) (omega (arith, o, ap length (take-add n m l), length-take-le (n + m) l h))

  pub either-done : (n m : ℕ) (l : List A) {r : ℕ} {l' : List A} → n + m ≤ length l → n + m ≤ 256 → Fronts (least_of H.below (entered H.order [] (take (n + m) l))) r l' → Lists (limited H (take n l ++ take m (drop n l))) (Some r) l'
  either-done n m l {r} {l'} h f p = done (take n l ++ take m (drop n l)) (omega (arith, f, ap length (take-add n m l), length-take-le (n + m) l h)) (subst (λ ys. Fronts (least_of H.below (entered H.order [] ys)) r l') (take-add n m l) p)
