-- What is in the lists that a normal form is made of.
use Prim.Native.Nat.{Ordering}
use mathlib.Core.Path.{◌≡◌, refl, sym, ◌∙◌}
use mathlib.Core.Logic.{◌⊎◌, inl, inr, ⊎_elim}
use mathlib.Core.Bool.{Bool, true, false, ◌||◌, false≢true, true≢false, or-true}
use mathlib.Mathlib.Data.Bool.Basic.{eq-false_of_not-eq-true}
use mathlib.Core.List.Memᴰ.{append_cases}
use mathlib.Core.List.Memᴰ.{append_left}
use mathlib.Core.List.Memᴰ.{append_right}
use mathlib.Core.List.Memᴰ.{head as here}
use mathlib.Core.List.Memᴰ.{not-nil as none_here}
use mathlib.Core.List.Memᴰ.{tail as there}
use mathlib.Core.List.{List, [], ◌∷◌, Memᴰ}
use Rattle.formula.specs.Formula.{beside}
use Rattle.formula.specs.Answers.{pick}
use Rattle.clauses.specs.Normal.{Handling, enter, entered, any, minimal, prune, pairs_with, pairs}
use Rattle.clauses.proofs.Orders.{Orders}

infix 50 ◌∈◌
abbrev pub ◌∈◌ : {A : Type 0} → A → List A → Type 0
◌∈◌ a l = Memᴰ a l

-- Some element of a list is so.
pub record Found {A : Type 0} (P : A → Type 0) (l : List A) : Type 0 where
  pub element : A
  pub member : element ∈ l
  pub so : P element

found-there : {A : Type 0} {P : A → Type 0} {x : A} {l : List A} → Found P l → Found P (x ∷ l)
found-there f = record { element = f.element; member = there f.member; so = f.so }

pub found_map : {A : Type 0} {P Q : A → Type 0} {l : List A} → ((a : A) → P a → Q a) → Found P l → Found Q l
found_map h f = record { element = f.element; member = f.member; so = h f.element f.so }

module _ {A : Type 0} where
  -- What is in a list is there with one more element too.
  pick-there : (t : Bool) (x : A) {a : A} {l : List A} → a ∈ l → a ∈ pick t l (x ∷ l)
  pick-there true x m = m
  pick-there false x m = there m

  -- A test that passes for some element of a list.
  pub any_found : (test : A → Bool) (l : List A) → any test l ≡ true → Found (λ a. test a ≡ true) l
  unfolding any
  any_found test [] e = absurd (false≢true e)
  any_found test (x ∷ l) e = go (test x) refl (any_found test l) e
    where
      go : (t : Bool) → test x ≡ t → (any test l ≡ true → Found (λ a. test a ≡ true) l) → (t || any test l) ≡ true → Found (λ a. test a ≡ true) (x ∷ l)
      go true p h e = record { element = x; member = here refl; so = p }
      go false p h e = found-there (h e)

  pub found-any : (test : A → Bool) {a : A} {l : List A} → a ∈ l → test a ≡ true → any test l ≡ true
  unfolding any
  found-any test (here {xs = l} e) p = rw (← e, p)
  found-any test (there {x = x} m) p = rw (found-any test m p) (or-true (test x))

  -- A test that passes for none.
  pub any_none : (test : A → Bool) (l : List A) → any test l ≡ false → (a : A) → a ∈ l → test a ≡ false
  any_none test l e a m = eq-false_of_not-eq-true (λ p. true≢false (sym (found-any test m p) ∙ e))

  pub none_any : (test : A → Bool) (l : List A) → ((a : A) → a ∈ l → test a ≡ false) → any test l ≡ false
  none_any test l h = eq-false_of_not-eq-true (λ p. let f = any_found test l p in true≢false (sym f.so ∙ h f.element f.member))

  -- Entering an element adds it and nothing else.
  pub enter-has : (order : A → A → Ordering) (x : A) {a : A} (l : List A) → a ∈ enter order x l → (a ≡ x) ⊎ (a ∈ l)
  unfolding enter
  enter-has order x [] (here e) = inl e
  enter-has order x [] (there m) = inr m
  enter-has order x {a} (y ∷ l) m = go (order x y) (enter-has order x l) m
    where
      go : (o : Ordering) → (a ∈ enter order x l → (a ≡ x) ⊎ (a ∈ l)) → a ∈ beside o (x ∷ y ∷ l) (y ∷ l) (y ∷ enter order x l) → (a ≡ x) ⊎ (a ∈ (y ∷ l))
      go Ordering.lt h (here e) = inl e
      go Ordering.lt h (there m) = inr m
      go Ordering.eq h m = inr m
      go Ordering.gt h (here e) = inr (here e)
      go Ordering.gt h (there m) = ⊎_elim inl (λ k. inr (there k)) (h m)

  pub enter-old : (order : A → A → Ordering) (x : A) {a : A} {l : List A} → a ∈ l → a ∈ enter order x l
  unfolding enter
  enter-old order x {a} (here {x = y} {xs = l} e) = go (order x y)
    where
      go : (o : Ordering) → a ∈ beside o (x ∷ y ∷ l) (y ∷ l) (y ∷ enter order x l)
      go Ordering.lt = there (here e)
      go Ordering.eq = here e
      go Ordering.gt = here e
  enter-old order x {a} (there {x = y} {xs = l} m) = go (order x y) (enter-old order x m)
    where
      go : (o : Ordering) → a ∈ enter order x l → a ∈ beside o (x ∷ y ∷ l) (y ∷ l) (y ∷ enter order x l)
      go Ordering.lt h = there (there m)
      go Ordering.eq h = there m
      go Ordering.gt h = there h

  pub entered-has : (order : A → A → Ordering) {a : A} (l m : List A) → a ∈ entered order l m → (a ∈ l) ⊎ (a ∈ m)
  unfolding entered
  entered-has order l [] p = inl p
  entered-has order l (x ∷ m) p = ⊎_elim (λ q. ⊎_elim (λ e. inr (here e)) inl (enter-has order x l q)) (λ q. inr (there q)) (entered-has order (enter order x l) m p)

  pub entered-first : (order : A → A → Ordering) {a : A} {l : List A} (m : List A) → a ∈ l → a ∈ entered order l m
  unfolding entered
  entered-first order [] p = p
  entered-first order {l = l} (x ∷ m) p = entered-first order {l = enter order x l} m (enter-old order x p)

  module _ {order : A → A → Ordering} (O : Orders order) where
    enter-new : (x : A) (l : List A) → x ∈ enter order x l
    unfolding enter
    enter-new x [] = here refl
    enter-new x (y ∷ l) = go (order x y) (O.same x y) (enter-new x l)
      where
        go : (o : Ordering) → (o ≡ Ordering.eq → x ≡ y) → x ∈ enter order x l → x ∈ beside o (x ∷ y ∷ l) (y ∷ l) (y ∷ enter order x l)
        go Ordering.lt s h = here refl
        go Ordering.eq s h = here (s refl)
        go Ordering.gt s h = there h

    pub entered-second : {a : A} (l : List A) {m : List A} → a ∈ m → a ∈ entered order l m
    unfolding entered
    entered-second l (here {x = x} {xs = m} e) = rw e (entered-first order m (enter-new x l))
    entered-second l (there {x = x} p) = entered-second (enter order x l) p

  -- A minimal element of a list is one that nothing in it is below.
  abbrev pub Least : (A → A → Bool) → List A → A → Type 0
  Least below l c = (d : A) → d ∈ l → below d c ≡ false

  pub minimal-has : (below : A → A → Bool) (all : List A) {a : A} (l : List A) → a ∈ minimal below all l → (a ∈ l) × Least below all a
  unfolding minimal
  minimal-has below all [] m = absurd (none_here m)
  minimal-has below all {a} (c ∷ l) m = go (any (λ d. below d c) all) (any_none (λ d. below d c) all) (minimal-has below all l) m
    where
      go : (t : Bool) → (t ≡ false → Least below all c) → (a ∈ minimal below all l → (a ∈ l) × Least below all a) → a ∈ pick t (minimal below all l) (c ∷ minimal below all l) → (a ∈ (c ∷ l)) × Least below all a
      go true n h m = (there (h m).0, (h m).1)
      go false n h (here e) = (here e, rw e (n refl))
      go false n h (there m) = (there (h m).0, (h m).1)

  pub minimal-keeps : (below : A → A → Bool) (all : List A) {a : A} {l : List A} → a ∈ l → Least below all a → a ∈ minimal below all l
  unfolding minimal
  minimal-keeps below all (here {x = c} e) n = rw (none_any (λ d. below d c) all (rw e at n)) (here e)
  minimal-keeps below all (there {x = c} m) n = pick-there (any (λ d. below d c) all) c (minimal-keeps below all m n)

-- What has nothing below itself, and has below it all that is below what is below it.
pub record Strict {A : Type 0} (below : A → A → Bool) : Type 0 where
  pub self : (a : A) → below a a ≡ false
  pub through : (a b c : A) → below a b ≡ true → below b c ≡ true → below a c ≡ true

module _ {A : Type 0} {below : A → A → Bool} (S : Strict below) where
  -- An element with nothing of a list below it: the one asked about, or an element of the list below that.
  record Descent (l : List A) (c : A) : Type 0 where
    foot : A
    under : (foot ≡ c) ⊎ ((foot ∈ l) × (below foot c ≡ true))
    least : Least below l foot

  -- One more element, which takes the place of what was found where it is below that.
  lower : (x : A) {l : List A} {c : A} (D : Descent l c) → below x D.foot ≡ true → Descent (x ∷ l) c
  lower x {l} {c} D e = record { foot = x; under = inr (here refl, under D.under); least = least }
    where
      under : (D.foot ≡ c) ⊎ ((D.foot ∈ l) × (below D.foot c ≡ true)) → below x c ≡ true
      under (inl p) = rw (← p) e
      under (inr p) = S.through x D.foot c e p.1

      least : Least below (x ∷ l) x
      least d (here p) = rw p (S.self x)
      least d (there m) = eq-false_of_not-eq-true (λ p. true≢false (sym (S.through d x D.foot p e) ∙ D.least d m))

  stay : (x : A) {l : List A} {c : A} (D : Descent l c) → below x D.foot ≡ false → Descent (x ∷ l) c
  stay x {l} D e = record { foot = D.foot; under = ⊎_elim inl (λ p. inr (there p.0, p.1)) D.under; least = least }
    where
      least : Least below (x ∷ l) D.foot
      least d (here p) = rw p e
      least d (there m) = D.least d m

  descent : (l : List A) (c : A) → Descent l c
  descent [] c = record { foot = c; under = inl refl; least = λ d m. absurd (none_here m) }
  descent (x ∷ l) c = go (descent l c)
    where
      go : Descent l c → Descent (x ∷ l) c
      go D = elim (below x D.foot) as (λ t. below x D.foot ≡ t → Descent (x ∷ l) c) [ true ↦ lower x D | false ↦ stay x D ] refl

  -- Each element of a list is minimal or has a minimal one below it.
  pub least-found : {c : A} {l : List A} → c ∈ l → Found (λ d. (d ≡ c) ⊎ (below d c ≡ true)) (minimal below l l)
  least-found {c} {l} m = go (descent l c)
    where
      go : Descent l c → Found (λ d. (d ≡ c) ⊎ (below d c ≡ true)) (minimal below l l)
      go D = record {
        element = D.foot;
        member = minimal-keeps below l (⊎_elim (λ e. rw e m) (λ p. p.0) D.under) D.least;
        so = ⊎_elim inl (λ p. inr p.1) D.under;
      }

module _ {A : Type 0} (H : Handling A) where
  -- Pruning only drops.
  pub prune-has : {a : A} (l : List A) → a ∈ prune H l → a ∈ l
  unfolding prune
  prune-has l m =
      let sorted = entered H.order [] l in
      ⊎_elim (λ k. absurd (none_here k)) (λ k. k) (entered-has H.order [] l (minimal-has H.below sorted sorted m).0)

  -- The pairs of two lists are the clauses of either joined, where they are not against each other.
  pairs_with-has : (c : A) {a : A} (y : List A) → a ∈ pairs_with H c y → Found (λ d. (H.against c d ≡ false) × (a ≡ H.joined c d)) y
  unfolding pairs_with
  pairs_with-has c [] m = absurd (none_here m)
  pairs_with-has c {a} (d ∷ y) m = go (H.against c d) refl (pairs_with-has c y) m
    where
      go : (t : Bool) → H.against c d ≡ t → (a ∈ pairs_with H c y → Found (λ d. (H.against c d ≡ false) × (a ≡ H.joined c d)) y) →
          a ∈ pick t (pairs_with H c y) (H.joined c d ∷ pairs_with H c y) → Found (λ d. (H.against c d ≡ false) × (a ≡ H.joined c d)) (d ∷ y)
      go true p h m = found-there (h m)
      go false p h (here e) = record { element = d; member = here refl; so = (p, e) }
      go false p h (there m) = found-there (h m)

  pairs_with-of : (c : A) {d : A} {y : List A} → d ∈ y → H.against c d ≡ false → H.joined c d ∈ pairs_with H c y
  unfolding pairs_with
  pairs_with-of c (here {x = x} e) p = rw (← e, p) (here refl)
  pairs_with-of c (there {x = x} m) p = pick-there (H.against c x) (H.joined c x) (pairs_with-of c m p)

  pub pairs-has : {a : A} (x y : List A) → a ∈ pairs H x y → Found (λ c. Found (λ d. (H.against c d ≡ false) × (a ≡ H.joined c d)) y) x
  unfolding pairs
  pairs-has [] y m = absurd (none_here m)
  pairs-has (c ∷ x) y m = ⊎_elim (λ p. record { element = c; member = here refl; so = pairs_with-has c y p }) (λ p. found-there (pairs-has x y p)) (append_cases (pairs_with H c y) m)

  pub pairs_of : {c d : A} {x y : List A} → c ∈ x → d ∈ y → H.against c d ≡ false → H.joined c d ∈ pairs H x y
  unfolding pairs
  pairs_of {y = y} (here {x = z} {xs = x} e) m p = rw e (append_left (pairs H x y) (pairs_with-of z m (rw e at p)))
  pairs_of {y = y} (there {x = z} n) m p = append_right (pairs_with H z y) (pairs_of n m p)
