-- Laws of the loops that pair the clauses of two lists.
use Prim.Native.Nat.{ℕ, ◌+◌, ◌≤◌, ◌<◌}
use native.Mathlib.Omega.{arith}
use mathlib.Core.Path.{◌≡◌, refl, sym, ap, ◌∙◌, subst}
use mathlib.Core.Bool.{Bool, true, false}
use mathlib.Core.List.{List, [], ◌∷◌, ◌++◌, append-nil, append_assoc}
use lib.ListN.{length, get_or, set, take, drop, length-append, drop_of_length-le}
use lib.Seq.{length-take-le}
use Rattle.std.proofs.Common.{Option, Some, None}
use Rattle.formula.specs.Answers.{pick}
use Rattle.clauses.specs.Normal.{Handling, pairs_with, pairs}
use Rattle.clauses.specs.Lists.{Adds}
use Rattle.clauses.proofs.ListLaws.{item, picked, written}

-- A list that grows in a slice behind the first n elements: the first k are made, and the rest is to come.
pub record Growing {A : Type 0} (all : List A) (n : ℕ) (l₀ l : List A) (k : ℕ) (rest : List A) : Type 0 where
  pub few : k ≤ 256
  pub long : length l ≡ length l₀
  pub made : take k l ++ rest ≡ take n l₀ ++ all

module _ {A : Type 0} {all : List A} {n : ℕ} {l₀ l : List A} {k : ℕ} {rest : List A} (g : Growing all n l₀ l k rest) where
  pub growing-next : (part rest' : List A) {k' : ℕ} {l' : List A} → rest ≡ part ++ rest' → take k' l' ≡ take k l ++ part → length l' ≡ length l → k' ≤ 256 → Growing all n l₀ l' k' rest'
  growing-next part rest' e p s f = record {
    few = f;
    long = s ∙ g.long;
    made = ap (λ x. x ++ rest') p ∙ append_assoc (take k l) part rest' ∙ ap (λ x. take k l ++ x) (sym e) ∙ g.made;
  }

  -- How many they are in all.
  total : 257 ≤ length l₀ → n ≤ 256 → k + length rest ≡ n + length all
  total h m = omega (arith, g.few, g.long, length-append (take k l) rest, length-take-le k l (omega (arith, h, g.few, g.long)), length-append (take n l₀) all, length-take-le n l₀ (omega (arith, h, m)), ap length g.made)

  pub growing-end : rest ≡ [] → Adds all n l₀ (Some k) l
  growing-end e = record { told = (g.few, sym (append-nil (take k l)) ∙ ap (λ x. take k l ++ x) (sym e) ∙ g.made) }

  -- More than 256 in all.
  pub growing-over : (part rest' : List A) {l' : List A} → rest ≡ part ++ rest' → 256 < k + length part → 257 ≤ length l₀ → n ≤ 256 → Adds all n l₀ None l'
  growing-over part rest' e o h m = record { told = omega (arith, total h m, ap length e, length-append part rest', o) }

-- ---- the pairs of one clause

one-long : {A : Type 0} (b : Bool) (x : A) {w : ℕ} → w ≡ pick b 0 1 → length (pick b [] (x ∷ [])) ≡ w
one-long true x e = sym e
one-long false x e = sym e

module _ {A : Type 0} (H : Handling A) (c : A) (xs : List A) {i n : ℕ} {l₀ l : List A} {k : ℕ} (g : Growing (pairs_with H c xs) n l₀ l k (pairs_with H c (drop i xs))) where
  module _ (d : A) {u : A} {b : Bool} {w : ℕ} (h : i < length xs) (j : u ≡ H.joined c (get_or xs i d)) (r : b ≡ H.against c (get_or xs i d)) (o : w ≡ pick b 0 1) where
    -- What the clause at i adds, as it was met and written.
    met : pairs_with H c (drop i xs) ≡ pick b [] (u ∷ []) ++ pairs_with H c (drop (i + 1) xs)
    unfolding pairs_with
    met =
        let x = get_or xs i d in
        let rest = pairs_with H c (drop (i + 1) xs) in
        ap (pairs_with H c) (item xs i d h)
        ∙ picked (H.against c x) (H.joined c x) rest
        ∙ ap (λ t. pick t [] (H.joined c x ∷ []) ++ rest) (sym r)
        ∙ ap (λ v. pick b [] (v ∷ []) ++ rest) (sym j)

    pub pairing-next : k + w ≤ 256 → 257 ≤ length l₀ → length (set l k u) ≡ length l → Growing (pairs_with H c xs) n l₀ (set l k u) (k + w) (pairs_with H c (drop (i + 1) xs))
    pairing-next f m s = growing-next g (pick b [] (u ∷ [])) (pairs_with H c (drop (i + 1) xs)) met (written l k u b (omega (arith, m, g.few, g.long)) o) s f

    pub pairing-over : {l' : List A} → 256 < k + w → 257 ≤ length l₀ → n ≤ 256 → Adds (pairs_with H c xs) n l₀ None l'
    pairing-over f m q = growing-over g (pick b [] (u ∷ [])) (pairs_with H c (drop (i + 1) xs)) met (omega (arith, f, one-long b u o)) m q

  pub pairing-end : length xs ≤ i → Adds (pairs_with H c xs) n l₀ (Some k) l
  unfolding pairs_with
  pairing-end h = growing-end g (ap (pairs_with H c) (drop_of_length-le xs {i = i} h))

-- ---- the pairs of each clause of a list

module _ {A : Type 0} (H : Handling A) (xs y : List A) {i n : ℕ} {l₀ l : List A} {k : ℕ} (g : Growing (pairs H xs y) n l₀ l k (pairs H (drop i xs) y)) where
  crossed : (d : A) → i < length xs → pairs H (drop i xs) y ≡ pairs_with H (get_or xs i d) y ++ pairs H (drop (i + 1) xs) y
  unfolding pairs
  crossed d h = ap (λ x. pairs H x y) (item xs i d h)

  pub crossing-next : (d : A) {k' : ℕ} {l' : List A} → i < length xs → Adds (pairs_with H (get_or xs i d) y) k l (Some k') l' → length l' ≡ length l → Growing (pairs H xs y) n l₀ l' k' (pairs H (drop (i + 1) xs) y)
  crossing-next d h a s = growing-next g (pairs_with H (get_or xs i d) y) (pairs H (drop (i + 1) xs) y) (crossed d h) a.told.1 s a.told.0

  pub crossing-over : (d : A) {l' l'' : List A} → i < length xs → Adds (pairs_with H (get_or xs i d) y) k l None l' → 257 ≤ length l₀ → n ≤ 256 → Adds (pairs H xs y) n l₀ None l''
  crossing-over d h a m q = growing-over g (pairs_with H (get_or xs i d) y) (pairs H (drop (i + 1) xs) y) (crossed d h) a.told m q

  pub crossing-end : length xs ≤ i → Adds (pairs H xs y) n l₀ (Some k) l
  unfolding pairs
  crossing-end h = growing-end g (ap (λ x. pairs H x y) (drop_of_length-le xs {i = i} h))

-- The pairs of a clause go by what is against it alone.
pub pairs-alike : {A : Type 0} (H K : Handling A) (c : A) (y : List A) → ((d : A) → H.against c d ≡ K.against c d) → ((d : A) → H.joined c d ≡ K.joined c d) → pairs_with H c y ≡ pairs_with K c y
unfolding pairs_with
pairs-alike H K c [] a j = refl
pairs-alike H K c (d ∷ y) a j = ap (λ x. pick x (pairs_with H c y) (H.joined c d ∷ pairs_with H c y)) (a d) ∙ ap (λ x. pick (K.against c d) x (H.joined c d ∷ x)) (pairs-alike H K c y a j) ∙ ap (λ x. pick (K.against c d) (pairs_with K c y) (x ∷ pairs_with K c y)) (j d)

-- The pairs of a clause with the clauses that do not face it, as those that are not against it.
pub faced : {A : Type 0} (H K : Handling A) (c : A) (y : List A) {k : ℕ} {l : List A} {r : Option ℕ} {l' : List A} → ((d : A) → H.against c d ≡ K.against c d) → ((d : A) → H.joined c d ≡ K.joined c d) → Adds (pairs_with H c y) k l r l' → Adds (pairs_with K c y) k l r l'
faced H K c y {k} {l} {r} {l'} a j p = subst (λ x. Adds x k l r l') (pairs-alike H K c y a j) p
