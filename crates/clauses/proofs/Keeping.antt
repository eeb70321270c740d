-- What holds of the lists of the leaves, and is kept at each node, holds of the list of every face that has one.
use Prim.Native.Nat.{ℕ, ◌≤◌}
use mathlib.Core.Path.{◌≡◌, refl, subst}
use mathlib.Core.Bool.{Bool, true, false}
use mathlib.Core.Option.{Option, none, some, some-injective, none-ne-some}
use mathlib.Core.List.{List, [], ◌∷◌, ◌++◌}
use lib.Dec.{leb}
use lib.ListN.{length}
use borrow.Author.Tests.{leb-true, le-leb}
use Rattle.formula.specs.Formula.{End, Face, ff, ft, at, fand, for}
use Rattle.formula.specs.Answers.{pick}
use Rattle.clauses.specs.Normal.{Handling, LeafCases, prune, pairs, max_clauses, limited, both, clauses}

pub record Kept {A : Type 0} (H : Handling A) (L : LeafCases A) (P : Face → List A → Type 0) : Type 0 where
  pub never : P ff []
  pub always : P ft (L.always ∷ [])
  pub single : (e : End) (n : ℕ) → P (at e n) (L.single e n ∷ [])
  pub conjoined : (a b : Face) (x y : List A) → P a x → P b y → length (pairs H x y) ≤ max_clauses → P (fand a b) (prune H (pairs H x y))
  pub disjoined : (a b : Face) (x y : List A) → P a x → P b y → length (x ++ y) ≤ max_clauses → P (for a b) (prune H (x ++ y))

module _ {A : Type 0} (H : Handling A) where
  -- A list within the limit is pruned.
  limited-prune : (m : List A) → length m ≤ max_clauses → limited H m ≡ some (prune H m)
  limited-prune m h = rw (le-leb (length m) max_clauses h)

  limited-kept : (P : List A → Type 0) (m : List A) → (length m ≤ max_clauses → P (prune H m)) → (l : List A) → limited H m ≡ some l → P l
  limited-kept P m p l = go (leb (length m) max_clauses) (leb-true (length m) max_clauses)
    where
      go : (t : Bool) → (t ≡ true → length m ≤ max_clauses) → pick t (some (prune H m)) none ≡ some l → P l
      go true h e = subst P (some-injective _ _ e) (p (h refl))
      go false h e = absurd (none-ne-some l e)

  -- The list of a node is made of the lists of its parts.
  both-kept : (P Q R : List A → Type 0) (join : List A → List A → List A) →
      ((x y : List A) → P x → Q y → length (join x y) ≤ max_clauses → R (prune H (join x y))) →
      (s t : Option (List A)) → ((x : List A) → s ≡ some x → P x) → ((y : List A) → t ≡ some y → Q y) →
      (l : List A) → both (λ x y. limited H (join x y)) s t ≡ some l → R l
  both-kept P Q R join k none t p q l e = absurd (none-ne-some l e)
  both-kept P Q R join k (some x) none p q l e = absurd (none-ne-some l e)
  both-kept P Q R join k (some x) (some y) p q l e = limited-kept R (join x y) (k x y (p x refl) (q y refl)) l e

  module _ (L : LeafCases A) where
    pub clauses-kept : (P : Face → List A → Type 0) → Kept H L P → (f : Face) (l : List A) → clauses H L f ≡ some l → P f l
    unfolding clauses
    clauses-kept P K ff l e = subst (P ff) (some-injective _ _ e) K.never
    clauses-kept P K ft l e = subst (P ft) (some-injective _ _ e) K.always
    clauses-kept P K (at s n) l e = subst (P (at s n)) (some-injective _ _ e) (K.single s n)
    clauses-kept P K (fand a b) l e = both-kept (P a) (P b) (P (fand a b)) (pairs H) (K.conjoined a b) (clauses H L a) (clauses H L b) (clauses-kept P K a) (clauses-kept P K b) l e
    clauses-kept P K (for a b) l e = both-kept (P a) (P b) (P (for a b)) ◌++◌ (K.disjoined a b) (clauses H L a) (clauses H L b) (clauses-kept P K a) (clauses-kept P K b) l e

    -- The list of a node, where it is within the limit.
    pub clauses-fand : (a b : Face) (x y : List A) → clauses H L a ≡ some x → clauses H L b ≡ some y → length (pairs H x y) ≤ max_clauses →
        clauses H L (fand a b) ≡ some (prune H (pairs H x y))
    unfolding clauses
    clauses-fand a b x y p q h = rw (p, q) (limited-prune (pairs H x y) h)

    pub clauses-for : (a b : Face) (x y : List A) → clauses H L a ≡ some x → clauses H L b ≡ some y → length (x ++ y) ≤ max_clauses →
        clauses H L (for a b) ≡ some (prune H (x ++ y))
    unfolding clauses
    clauses-for a b x y p q h = rw (p, q) (limited-prune (x ++ y) h)
