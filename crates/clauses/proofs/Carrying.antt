-- Two ways to handle clauses, the one carried into the other: then all that goes by them is carried.
use Prim.Native.Nat.{ℕ, Ordering}
use mathlib.Core.Path.{◌≡◌, refl, sym, ◌∙◌, ap, ap₂}
use mathlib.Core.Bool.{Bool, true, false, ◌||◌}
use mathlib.Core.Option
use mathlib.Core.Option.{Option, none, some}
use mathlib.Core.List.{List, [], ◌∷◌, ◌++◌, map, map-append}
use lib.Dec.{leb}
use lib.ListN.{length, length-map}
use Rattle.formula.specs.Formula.{End, Face, ff, ft, at, fand, for, beside}
use Rattle.formula.specs.Answers.{pick}
use Rattle.clauses.specs.Normal.{Handling, LeafCases, enter, entered, any, minimal, prune, pairs_with, pairs, max_clauses, limited, both, clauses}

pub record Carries {A B : Type 0} (H : Handling A) (K : Handling B) (h : A → B) : Type 0 where
  pub order : (a b : A) → K.order (h a) (h b) ≡ H.order a b
  pub below : (a b : A) → K.below (h a) (h b) ≡ H.below a b
  pub against : (a b : A) → K.against (h a) (h b) ≡ H.against a b
  pub joined : (a b : A) → K.joined (h a) (h b) ≡ h (H.joined a b)

-- It is so of every literal of a face. A node's is the pair of its parts'.
abbrev pub AllLiterals : (End → ℕ → Type 0) → Face → Type 0
AllLiterals P ff = Unit {0}
AllLiterals P ft = Unit {0}
AllLiterals P (at e n) = P e n
AllLiterals P (fand a b) = AllLiterals P a × AllLiterals P b
AllLiterals P (for a b) = AllLiterals P a × AllLiterals P b

pub all-literals : {P Q : End → ℕ → Type 0} → ((e : End) (n : ℕ) → P e n → Q e n) → (f : Face) → AllLiterals P f → AllLiterals Q f
all-literals k ff p = tt
all-literals k ft p = tt
all-literals k (at e n) p = k e n p
all-literals k (fand a b) p = (all-literals k a p.0, all-literals k b p.1)
all-literals k (for a b) p = (all-literals k a p.0, all-literals k b p.1)

-- A choice made before a function, and after it.
beside-over : {C D : Type 0} (g : C → D) (o : Ordering) (x y z : C) → beside o (g x) (g y) (g z) ≡ g (beside o x y z)
beside-over g Ordering.lt x y z = refl
beside-over g Ordering.eq x y z = refl
beside-over g Ordering.gt x y z = refl

pick-over : {C D : Type 0} (g : C → D) (t : Bool) (x y : C) → pick t (g x) (g y) ≡ g (pick t x y)
pick-over g true x y = refl
pick-over g false x y = refl

module _ {A B : Type 0} {H : Handling A} {K : Handling B} {h : A → B} (C : Carries H K h) where
  pub enter-carried : (x : A) (l : List A) → enter K.order (h x) (map h l) ≡ map h (enter H.order x l)
  unfolding enter
  enter-carried x [] = refl
  enter-carried x (y ∷ l) = rw (C.order x y, enter-carried x l) (beside-over (map h) (H.order x y) (x ∷ y ∷ l) (y ∷ l) (y ∷ enter H.order x l))

  pub entered-carried : (l m : List A) → entered K.order (map h l) (map h m) ≡ map h (entered H.order l m)
  unfolding entered
  entered-carried l [] = refl
  entered-carried l (x ∷ m) = ap (λ k. entered K.order k (map h m)) (enter-carried x l) ∙ entered-carried (enter H.order x l) m

  below-any : (c : A) (l : List A) → any (λ d. K.below d (h c)) (map h l) ≡ any (λ d. H.below d c) l
  unfolding any
  below-any c [] = refl
  below-any c (d ∷ l) = ap₂ ◌||◌ (C.below d c) (below-any c l)

  pub minimal-carried : (all l : List A) → minimal K.below (map h all) (map h l) ≡ map h (minimal H.below all l)
  unfolding minimal
  minimal-carried all [] = refl
  minimal-carried all (c ∷ l) = rw (below-any c all, minimal-carried all l) (pick-over (map h) (any (λ d. H.below d c) all) (minimal H.below all l) (c ∷ minimal H.below all l))

  pub prune-carried : (l : List A) → prune K (map h l) ≡ map h (prune H l)
  unfolding prune
  prune-carried l = rw (entered-carried [] l) (minimal-carried (entered H.order [] l) (entered H.order [] l))

  pub pairs_with-carried : (c : A) (y : List A) → pairs_with K (h c) (map h y) ≡ map h (pairs_with H c y)
  unfolding pairs_with
  pairs_with-carried c [] = refl
  pairs_with-carried c (d ∷ y) = rw (C.against c d, C.joined c d, pairs_with-carried c y) (pick-over (map h) (H.against c d) (pairs_with H c y) (H.joined c d ∷ pairs_with H c y))

  pub pairs-carried : (x y : List A) → pairs K (map h x) (map h y) ≡ map h (pairs H x y)
  unfolding pairs
  pairs-carried [] y = refl
  pairs-carried (c ∷ x) y = rw (pairs_with-carried, pairs-carried x y) (sym (map-append h (pairs_with H c y) (pairs H x y)))

  pub limited-carried : (l : List A) → limited K (map h l) ≡ Option.map (map h) (limited H l)
  limited-carried l = rw (length-map l h, prune-carried l) (pick-over (Option.map (map h)) (leb (length l) max_clauses) (some (prune H l)) none)

  both-carried : (join : List A → List A → List A) (join' : List B → List B → List B) → ((x y : List A) → join' (map h x) (map h y) ≡ map h (join x y)) →
      (s t : Option (List A)) → both (λ x y. limited K (join' x y)) (Option.map (map h) s) (Option.map (map h) t) ≡ Option.map (map h) (both (λ x y. limited H (join x y)) s t)
  both-carried join join' j none t = refl
  both-carried join join' j (some x) none = refl
  both-carried join join' j (some x) (some y) = rw (j x y) (limited-carried (join x y))

  pub clauses-carried : (L : LeafCases A) (M : LeafCases B) → h L.always ≡ M.always → (f : Face) → AllLiterals (λ e n. h (L.single e n) ≡ M.single e n) f →
      clauses K M f ≡ Option.map (map h) (clauses H L f)
  unfolding clauses
  clauses-carried L M a ff s = refl
  clauses-carried L M a ft s = rw a
  clauses-carried L M a (at e n) s = rw s
  clauses-carried L M a (fand f g) s = rw (clauses-carried L M a f s.0, clauses-carried L M a g s.1) (both-carried (pairs H) (pairs K) pairs-carried (clauses H L f) (clauses H L g))
  clauses-carried L M a (for f g) s = rw (clauses-carried L M a f s.0, clauses-carried L M a g s.1) (both-carried ◌++◌ ◌++◌ (λ x y. sym (map-append h x y)) (clauses H L f) (clauses H L g))
