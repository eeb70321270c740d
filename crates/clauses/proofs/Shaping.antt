-- What the list of a normal form looks like: sorted, of consistent clauses, none of which contains another.
use Prim.Native.Nat.{ℕ, Ordering}
use mathlib.Core.Path.{◌≡◌, refl, sym, ◌∙◌, ap₂}
use mathlib.Core.Logic.{◌⊎◌, inl, inr, ⊎_elim}
use mathlib.Core.Bool.{Bool, true, false, true≢false}
use mathlib.Mathlib.Data.Bool.Basic.{eq-false_of_not-eq-true, eq-true_of_not-eq-false}
use mathlib.Core.Option.{some}
use mathlib.Core.List.Memᴰ.{append_cases}
use mathlib.Core.List.Memᴰ.{eq_of_singleton as only}
use mathlib.Core.List.Memᴰ.{head as here}
use mathlib.Core.List.Memᴰ.{not-nil as none_here}
use mathlib.Core.List.Memᴰ.{tail as there}
use mathlib.Core.List.{List, [], ◌∷◌, ◌++◌}
use Rattle.formula.specs.Formula.{Face, beside}
use Rattle.formula.specs.Answers.{pick}
use Rattle.clauses.specs.Normal.{Clause, enter, entered, lex, any, inside, properly, opposed, opposite, union, sets-of-literals, minimal, prune, pairs, literal-sets, numbered, dnf}
use Rattle.clauses.specs.Shape.{Ascending, empty, one, more, All, nothing, each, Consistent, Irredundant}
use Rattle.clauses.proofs.Keeping.{Kept, clauses-kept}
use Rattle.clauses.proofs.Orders.{Orders, not-before-itself, compare-orders, lex-orders}
use Rattle.clauses.proofs.Members.{◌∈◌, Found, enter-has, minimal-has, prune-has, pairs-has}
use Rattle.clauses.proofs.Sets.{opposite-opposite, opposite-differs, inside-has, inside-properly, opposed-found, found-opposed, union-has}

-- It holds of every element exactly if it holds of each that is in the list.
module _ {A : Type 0} where
  pub all_of : {P : A → Type 0} {l : List A} → All P l → (a : A) → a ∈ l → P a
  all_of nothing a m = elim m [ ]
  all_of {P} (each {x = x} p h) a (here e) = rw e p
  all_of (each p h) a (there m) = all_of h a m

  pub of-all : {P : A → Type 0} (l : List A) → ((a : A) → a ∈ l → P a) → All P l
  of-all [] h = nothing
  of-all (x ∷ l) h = each (h x (here refl)) (of-all l (λ a m. h a (there m)))

-- Ascending lists. --------------------------------------------------------------------

module _ {A : Type 0} {order : A → A → Ordering} (O : Orders order) where
  ascending-tail : {x : A} {l : List A} → Ascending order (x ∷ l) → Ascending order l
  ascending-tail one = empty
  ascending-tail (more e s) = s

  -- The first comes before all others, and one that does can be put in front.
  ascending-first : {x : A} {l : List A} → Ascending order (x ∷ l) → (a : A) → a ∈ l → order x a ≡ Ordering.lt
  ascending-first one a m = absurd (none_here m)
  ascending-first (more e s) a (here p) = rw p e
  ascending-first {x} (more {y = y} e s) a (there m) = O.through x y a e (ascending-first s a m)

  ascending-cons : (x : A) (l : List A) → ((a : A) → a ∈ l → order x a ≡ Ordering.lt) → Ascending order l → Ascending order (x ∷ l)
  ascending-cons x [] h s = one
  ascending-cons x (y ∷ l) h s = more (h y (here refl)) s

  enter-ascending : (x : A) (l : List A) → Ascending order l → Ascending order (enter order x l)
  unfolding enter
  enter-ascending x [] s = one
  enter-ascending x (y ∷ l) s = go (order x y) refl (enter-ascending x l (ascending-tail s))
    where
      before : order x y ≡ Ordering.gt → (a : A) → a ∈ enter order x l → order y a ≡ Ordering.lt
      before e a m = ⊎_elim (λ p. rw p (O.turned x y e)) (ascending-first s a) (enter-has order x l m)

      go : (o : Ordering) → order x y ≡ o → Ascending order (enter order x l) → Ascending order (beside o (x ∷ y ∷ l) (y ∷ l) (y ∷ enter order x l))
      go Ordering.lt e h = more e s
      go Ordering.eq e h = s
      go Ordering.gt e h = ascending-cons y (enter order x l) (before e) h

  pub entered-ascending : (l m : List A) → Ascending order l → Ascending order (entered order l m)
  unfolding entered
  entered-ascending l [] s = s
  entered-ascending l (x ∷ m) s = entered-ascending (enter order x l) m (enter-ascending x l s)

  pub minimal-ascending : (below : A → A → Bool) (all l : List A) → Ascending order l → Ascending order (minimal below all l)
  unfolding minimal
  minimal-ascending below all [] s = empty
  minimal-ascending below all (c ∷ l) s = go (any (λ d. below d c) all) (minimal-ascending below all l (ascending-tail s))
    where
      go : (t : Bool) → Ascending order (minimal below all l) → Ascending order (pick t (minimal below all l) (c ∷ minimal below all l))
      go true h = h
      go false h = ascending-cons c (minimal below all l) (λ a m. ascending-first s a (minimal-has below all l m).0) h

  -- Ascending lists with the same elements are equal.
  pub ascending-equal : (l m : List A) → Ascending order l → Ascending order m → ((a : A) → a ∈ l → a ∈ m) → ((a : A) → a ∈ m → a ∈ l) → l ≡ m
  ascending-equal [] [] s t p q = refl
  ascending-equal [] (y ∷ m) s t p q = absurd (none_here (q y (here refl)))
  ascending-equal (x ∷ l) [] s t p q = absurd (none_here (p x (here refl)))
  ascending-equal (x ∷ l) (y ∷ m) s t p q = ap₂ ◌∷◌ heads (ascending-equal l m (ascending-tail s) (ascending-tail t) (λ a k. rest s heads k (p a (there k))) (λ a k. rest t (sym heads) k (q a (there k))))
    where
      meet : x ∈ (y ∷ m) → y ∈ (x ∷ l) → x ≡ y
      meet (here e) k = e
      meet (there i) (here e) = sym e
      meet (there i) (there k) = absurd (not-before-itself O x (O.through x y x (ascending-first s y k) (ascending-first t x i)))

      heads : x ≡ y
      heads = meet (p x (here refl)) (q y (here refl))

      rest : {u v a : A} {j k : List A} → Ascending order (u ∷ j) → u ≡ v → a ∈ j → a ∈ (v ∷ k) → a ∈ k
      rest {u} {v} {a} r e i (here d) = absurd (not-before-itself O u (rw (d ∙ sym e) at (ascending-first r a i)))
      rest r e i (there i') = i'

-- Consistent clauses. -----------------------------------------------------------------

empty-consistent : Consistent []
unfolding opposed any
empty-consistent = record { sorted = empty; consistent = refl }

single-consistent : (k : ℕ) → Consistent (k ∷ [])
single-consistent k = record { sorted = one; consistent = eq-false_of_not-eq-true (λ e. alone (opposed-found (k ∷ []) (k ∷ []) e)) }
  where
    alone : Found (λ j. opposite j ∈ (k ∷ [])) (k ∷ []) → ⊥
    alone f = opposite-differs k (rw (only f.member) at (only f.so))

union-consistent : (c d : Clause) → Consistent c → Consistent d → opposed c d ≡ false → Consistent (union c d)
unfolding union
union-consistent c d C D e = record { sorted = entered-ascending compare-orders c d C.sorted; consistent = eq-false_of_not-eq-true (λ o. clash (opposed-found (union c d) (union c d) o)) }
  where
    not_so : (a b : Clause) → opposed a b ≡ false → (k : ℕ) → k ∈ a → opposite k ∈ b → ⊥
    not_so a b e k m o = true≢false (sym (found-opposed m o) ∙ e)

    apart : (k : ℕ) → (k ∈ c) ⊎ (k ∈ d) → (opposite k ∈ c) ⊎ (opposite k ∈ d) → ⊥
    apart k (inl m) (inl o) = not_so c c C.consistent k m o
    apart k (inl m) (inr o) = not_so c d e k m o
    apart k (inr m) (inl o) = not_so c d e (opposite k) o (rw opposite-opposite m)
    apart k (inr m) (inr o) = not_so d d D.consistent k m o

    clash : Found (λ k. opposite k ∈ union c d) (union c d) → ⊥
    clash f = apart f.element (union-has c d f.member) (union-has c d f.so)

-- The list of a face. -----------------------------------------------------------------

alone-irredundant : (c : Clause) → Consistent c → Irredundant (c ∷ [])
alone-irredundant c C = record { clauses = each C nothing; sorted = one; apart = each (each (λ e. refl) nothing) nothing }

-- A pruned list of consistent clauses: one inside another would have been dropped, unless both have the same literals.
prune-irredundant : (l : List Clause) → ((c : Clause) → c ∈ l → Consistent c) → Irredundant (prune sets-of-literals l)
unfolding prune
prune-irredundant l h = record {
  clauses = of-all least consistent;
  sorted = minimal-ascending lex-orders properly sorted sorted (entered-ascending lex-orders [] l empty);
  apart = of-all least (λ c m. of-all least (λ d n e. equal c d m n e));
}
  where
    sorted : List Clause
    sorted = entered lex [] l

    least : List Clause
    least = minimal properly sorted sorted

    consistent : (c : Clause) → c ∈ least → Consistent c
    consistent c m = h c (prune-has sets-of-literals l m)

    back : (c d : Clause) → c ∈ least → d ∈ least → inside c d ≡ true → inside d c ≡ true
    back c d m n e = eq-true_of_not-eq-false (λ o. true≢false (sym (inside-properly c d e o) ∙ (minimal-has properly sorted sorted n).1 c (minimal-has properly sorted sorted m).0))

    equal : (c d : Clause) → c ∈ least → d ∈ least → inside c d ≡ true → c ≡ d
    equal c d m n e = ascending-equal compare-orders c d (consistent c m).sorted (consistent d n).sorted (inside-has c d e) (inside-has d c (back c d m n e))

pairs-consistent : (x y : List Clause) → All Consistent x → All Consistent y → (a : Clause) → a ∈ pairs sets-of-literals x y → Consistent a
pairs-consistent x y p q a m =
    let c = pairs-has sets-of-literals x y m in
    let d = c.so in
    rw d.so.1 (union-consistent c.element d.element (all_of p c.element c.member) (all_of q d.element d.member) d.so.0)

irredundant : Kept sets-of-literals literal-sets (λ f l. Irredundant l)
irredundant = record {
  never = record { clauses = nothing; sorted = empty; apart = nothing };
  always = alone-irredundant [] empty-consistent;
  single = λ e n. alone-irredundant (numbered e n ∷ []) (single-consistent (numbered e n));
  conjoined = λ a b x y p q h. prune-irredundant (pairs sets-of-literals x y) (pairs-consistent x y p.clauses q.clauses);
  disjoined = λ a b x y p q h. prune-irredundant (x ++ y) (λ c m. ⊎_elim (all_of p.clauses c) (all_of q.clauses c) (append_cases x m));
}

pub normal-shape : (f : Face) (l : List Clause) → dnf f ≡ some l → Irredundant l
unfolding dnf
normal-shape f l e = clauses-kept sets-of-literals literal-sets (λ g m. Irredundant m) irredundant f l e
