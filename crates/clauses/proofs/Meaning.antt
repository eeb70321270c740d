-- The normal form holds at exactly the assignments at which the face holds.
use Prim.Native.Nat.{ℕ, ◌/◌, ◌%◌}
use mathlib.Core.Path.{◌≡◌, refl, sym, ◌∙◌, ap, ap₂}
use mathlib.Core.Logic.{◌⊎◌, inl, inr, ⊎_elim}
use mathlib.Core.Bool.{Bool, true, false, ◌&&◌, ◌||◌, false≢true, and-eq-true_iff, and-true, and_assoc, or-false, or_assoc}
use mathlib.Mathlib.Data.Bool.Basic.{eq-false_of_not-eq-true}
use mathlib.Core.Option.{Option, none, some, some-injective, none-ne-some}
use mathlib.Core.List.Memᴰ.{head as here}
use mathlib.Core.List.Memᴰ.{tail as there}
use mathlib.Core.List.{List, [], ◌∷◌, ◌++◌}
use Rattle.formula.specs.Formula.{End, lo, hi, other, end_of, Face, fand, for, Val, v0, v1, vu, is, Assignment, holds}
use Rattle.clauses.specs.Normal.{numbered, literal, opposite, Clause, entered, lex, any, properly, opposed, union, sets-of-literals, minimal, prune, pairs, literal-sets, dnf, ands, conjunction, ors, disjunction, formed, normal}
use Rattle.clauses.proofs.Keeping.{Kept, clauses-kept}
use Rattle.clauses.proofs.Orders.{lex-orders}
use Rattle.clauses.proofs.Members.{◌∈◌, Found, found_map, any_found, found-any, entered-second, least-found, prune-has, pairs-has, pairs_of}
use Rattle.clauses.proofs.Sets.{literal-numbered, inside-has, properly-inside, properly-strict, opposed-found, union-has, union-first, union-second}

-- Does every literal of a clause hold? Does every literal of some clause of a list?
abbrev pub every : Assignment → Clause → Bool
every σ [] = true
every σ (k ∷ c) = holds (literal k) σ && every σ c

abbrev pub met : Assignment → List Clause → Bool
met σ l = any (every σ) l

-- The faces made of them say so. ----------------------------------------------------

ands-every : (f : Face) (c : Clause) (σ : Assignment) → holds (ands f c) σ ≡ (holds f σ && every σ c)
unfolding ands holds
ands-every f [] σ = sym (and-true (holds f σ))
ands-every f (k ∷ c) σ = ands-every (fand f (literal k)) c σ ∙ and_assoc (holds f σ) (holds (literal k) σ) (every σ c)

conjunction-every : (c : Clause) (σ : Assignment) → holds (conjunction c) σ ≡ every σ c
unfolding conjunction holds
conjunction-every [] σ = refl
conjunction-every (k ∷ c) σ = ands-every (literal k) c σ

ors-met : (f : Face) (l : List Clause) (σ : Assignment) → holds (ors f l) σ ≡ (holds f σ || met σ l)
unfolding ors holds any
ors-met f [] σ = sym (or-false (holds f σ))
ors-met f (c ∷ l) σ =
    ors-met (for f (conjunction c)) l σ ∙ or_assoc (holds f σ) (holds (conjunction c) σ) (met σ l) ∙ ap (λ t. holds f σ || (t || met σ l)) (conjunction-every c σ)

disjunction-met : (l : List Clause) (σ : Assignment) → holds (disjunction l) σ ≡ met σ l
unfolding disjunction holds any
disjunction-met [] σ = refl
disjunction-met (c ∷ l) σ = ors-met (conjunction c) l σ ∙ ap (λ t. t || met σ l) (conjunction-every c σ)

-- The same by the literals and the clauses that there are. ---------------------------

abbrev pub Holds : Assignment → Clause → Type 0
Holds σ c = (k : ℕ) → k ∈ c → holds (literal k) σ ≡ true

abbrev pub Meets : Assignment → List Clause → Type 0
Meets σ l = Found (Holds σ) l

every_holds : (σ : Assignment) (c : Clause) → every σ c ≡ true → Holds σ c
every_holds σ [] e k m = elim m [ ]
every_holds σ (j ∷ c) e k (here p) = rw p ((and-eq-true_iff (holds (literal j) σ) (every σ c)).0 e).0
every_holds σ (j ∷ c) e k (there m) = every_holds σ c ((and-eq-true_iff (holds (literal j) σ) (every σ c)).0 e).1 k m

holds-every : (σ : Assignment) (c : Clause) → Holds σ c → every σ c ≡ true
holds-every σ [] h = refl
holds-every σ (k ∷ c) h = (and-eq-true_iff (holds (literal k) σ) (every σ c)).1 (h k (here refl), holds-every σ c (λ j m. h j (there m)))

pub met-meets : (σ : Assignment) (l : List Clause) → met σ l ≡ true → Meets σ l
met-meets σ l e = found_map (every_holds σ) (any_found (every σ) l e)

pub meets-met : (σ : Assignment) (l : List Clause) → Meets σ l → met σ l ≡ true
meets-met σ l m = found-any (every σ) m.member (holds-every σ m.element m.so)

-- A literal and its opposite never hold together, so clauses that both hold are not opposed.
not-both : (e : End) (v : Val) → is e v ≡ true → is (other e) v ≡ true → ⊥
not-both lo v0 p q = false≢true q
not-both lo v1 p q = false≢true p
not-both lo vu p q = false≢true p
not-both hi v0 p q = false≢true p
not-both hi v1 p q = false≢true q
not-both hi vu p q = false≢true p

literal-holds : (e : End) (n : ℕ) (σ : Assignment) → holds (literal (numbered e n)) σ ≡ is e (σ n)
unfolding holds
literal-holds e n σ = rw literal-numbered

not-opposite : (k : ℕ) (σ : Assignment) → holds (literal k) σ ≡ true → holds (literal (opposite k)) σ ≡ true → ⊥
unfolding holds literal opposite
not-opposite k σ p q = let e = end_of (k % 2) in not-both e (σ (k / 2)) p (sym (literal-holds (other e) (k / 2) σ) ∙ q)

not-opposed : (σ : Assignment) (c d : Clause) → Holds σ c → Holds σ d → opposed c d ≡ false
not-opposed σ c d p q = eq-false_of_not-eq-true (λ e. let f = opposed-found c d e in not-opposite f.element σ (p f.element f.member) (q (opposite f.element) f.so))

-- What makes the list of a node means what it should. --------------------------------

-- Two tests are equal where each passes if the other does.
equal-tests : (a b : Bool) → (a ≡ true → b ≡ true) → (b ≡ true → a ≡ true) → a ≡ b
equal-tests true b p q = sym (p refl)
equal-tests false true p q = q refl
equal-tests false false p q = refl

-- What pruning drops has something inside it that is kept.
inside-holds : (σ : Assignment) (c d : Clause) → (d ≡ c) ⊎ (properly d c ≡ true) → Holds σ c → Holds σ d
inside-holds σ c d (inl e) h = rw e h
inside-holds σ c d (inr e) h = λ k m. h k (inside-has d c (properly-inside d c e).0 k m)

prune-met : (σ : Assignment) (l : List Clause) → met σ (prune sets-of-literals l) ≡ met σ l
unfolding prune
prune-met σ l = equal-tests (met σ (minimal properly sorted sorted)) (met σ l) (λ e. meets-met σ l (onto (met-meets σ _ e))) (λ e. meets-met σ _ (from (met-meets σ l e)))
  where
    sorted : List Clause
    sorted = entered lex [] l

    onto : Meets σ (minimal properly sorted sorted) → Meets σ l
    onto f = record { element = f.element; member = prune-has sets-of-literals l f.member; so = f.so }

    from : Meets σ l → Meets σ (minimal properly sorted sorted)
    from f = found_map (λ d u. inside-holds σ f.element d u f.so) (least-found properly-strict (entered-second lex-orders [] f.member))

pairs-met : (σ : Assignment) (x y : List Clause) → met σ (pairs sets-of-literals x y) ≡ (met σ x && met σ y)
pairs-met σ x y = equal-tests (met σ (pairs sets-of-literals x y)) (met σ x && met σ y) (λ e. onto (met-meets σ (pairs sets-of-literals x y) e)) (λ e. let p = (and-eq-true_iff (met σ x) (met σ y)).0 e in from (met-meets σ x p.0) (met-meets σ y p.1))
  where
    onto : Meets σ (pairs sets-of-literals x y) → (met σ x && met σ y) ≡ true
    onto f =
        let c = pairs-has sets-of-literals x y f.member in
        let d = c.so in
        let h : Holds σ (union c.element d.element) = rw d.so.1 at f.so in
        let p : Meets σ x = record { element = c.element; member = c.member; so = λ k m. h k (union-first c.element d.element m) } in
        let q : Meets σ y = record { element = d.element; member = d.member; so = λ k m. h k (union-second c.element d.element m) } in
        (and-eq-true_iff (met σ x) (met σ y)).1 (meets-met σ x p, meets-met σ y q)

    from : Meets σ x → Meets σ y → met σ (pairs sets-of-literals x y) ≡ true
    from c d = meets-met σ (pairs sets-of-literals x y) (record {
      element = union c.element d.element;
      member = pairs_of sets-of-literals c.member d.member (not-opposed σ c.element d.element c.so d.so);
      so = λ k m. ⊎_elim (c.so k) (d.so k) (union-has c.element d.element m);
    })

append-met : (σ : Assignment) (x y : List Clause) → met σ (x ++ y) ≡ (met σ x || met σ y)
unfolding any
append-met σ [] y = refl
append-met σ (c ∷ x) y = ap (λ t. every σ c || t) (append-met σ x y) ∙ sym (or_assoc (every σ c) (met σ x) (met σ y))

-- The list of a face is met exactly where the face holds.
abbrev Means : Face → List Clause → Type 0
Means f l = (σ : Assignment) → met σ l ≡ holds f σ

means : Kept sets-of-literals literal-sets Means
unfolding holds any
means = record {
  never = λ σ. refl;
  always = λ σ. refl;
  single = λ e n σ. or-false (holds (literal (numbered e n)) σ && true) ∙ and-true (holds (literal (numbered e n)) σ) ∙ literal-holds e n σ;
  conjoined = λ a b x y p q h σ. prune-met σ (pairs sets-of-literals x y) ∙ pairs-met σ x y ∙ ap₂ ◌&&◌ (p σ) (q σ);
  disjoined = λ a b x y p q h σ. prune-met σ (x ++ y) ∙ append-met σ x y ∙ ap₂ ◌||◌ (p σ) (q σ);
}

pub dnf-met : (f : Face) (l : List Clause) → dnf f ≡ some l → (σ : Assignment) → met σ l ≡ holds f σ
unfolding dnf
dnf-met f l e = clauses-kept sets-of-literals literal-sets Means means f l e

-- A normal form is the disjunction of the face's list.
pub record FromList (f g : Face) : Type 0 where
  pub list : List Clause
  pub made : dnf f ≡ some list
  pub is : disjunction list ≡ g

pub from_list : (f g : Face) → normal f ≡ some g → FromList f g
unfolding normal
from_list f g e = go (dnf f) refl e
  where
    go : (o : Option (List Clause)) → dnf f ≡ o → formed o ≡ some g → FromList f g
    go none p e = absurd (none-ne-some g e)
    go (some l) p e = record { list = l; made = p; is = some-injective (disjunction l) g e }

pub normal-holds : (f g : Face) → normal f ≡ some g → (σ : Assignment) → holds g σ ≡ holds f σ
normal-holds f g e σ =
    let n = from_list f g e in
    ap (λ x. holds x σ) (sym n.is) ∙ disjunction-met n.list σ ∙ dnf-met f n.list n.made σ
