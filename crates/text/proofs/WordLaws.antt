-- The words of texts.
use Rattle.std.proofs.Common.{ℕ, suc, ◌+◌, ◌≡◌, refl, ap, ap₂, Bool, cond, not, ◌&&◌, List, [], ◌∷◌, map, length, eqb, rules}
use Rattle.std.specs.Cmp.Lexicographic.{pointwise}
use Rattle.std.specs.List.{position_or_len}
use Rattle.std.specs.Prelude.{None, Some, nat_lt, position}
use Rattle.formula.specs.Answers.{same_bytes}

-- What `==` says of two slices.
pub same-as : (x w : List ℕ) → pointwise eqb w x ≡ same_bytes x w
unfolding same_bytes
same-as [] [] = refl
same-as [] (b ∷ m) = refl
same-as (a ∷ l) [] = refl
same-as (a ∷ l) (b ∷ m) = ap₂ ◌&&◌ (search rules) (same-as l m)

-- A search among what is made of a list's elements.
pub position-map : {A B : Type 0} (p : B → Bool) (f : A → B) (l : List A) → position (λ x. p (f x)) l ≡ position p (map f l)
position-map {A} {B} p f l = ap₂ (λ n m. cond (nat_lt n m) (Some n) None) (first l) (long l)
  where
    first : (l : List A) → position_or_len (λ x. p (f x)) l ≡ position_or_len p (map f l)
    first [] = refl
    first (x ∷ l) = ap (λ n. cond (not (p (f x))) (1 + n) 0) (first l)

    long : (l : List A) → length l ≡ length (map f l)
    long [] = refl
    long (x ∷ l) = ap suc (long l)
