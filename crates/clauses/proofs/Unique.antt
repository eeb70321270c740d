-- Faces that hold at the same assignments have the same clauses, so the same normal form.
use Prim.Native.Nat.{ℕ, ◌/◌, ◌%◌}
use mathlib.Core.Path.{◌≡◌, refl, sym, ◌∙◌, ap}
use mathlib.Core.Bool.{Bool, true, false, true≢false, false≢true}
use mathlib.Mathlib.Data.Bool.Basic.{eq-false_of_not-eq-true}
use mathlib.Core.Logic.{◌↔◌}
use mathlib.Core.Option.{some}
use mathlib.Core.List.{List}
use lib.Dec.{eqb}
use Rattle.formula.specs.Formula.{End, lo, hi, end_of, Face, Val, v0, v1, vu, is, Assignment, holds}
use Rattle.clauses.specs.Normal.{numbered, literal, Clause, any, inside, opposed, dnf, disjunction, normal}
use Rattle.clauses.specs.Shape.{Consistent, Irredundant}
use Rattle.clauses.proofs.Orders.{compare-orders, lex-orders}
use Rattle.clauses.proofs.Members.{◌∈◌, Found, found_map}
use Rattle.clauses.proofs.Sets.{numbered-literal, opposite-numbered, listed, lists, inside-has, has-inside, inside-through, found-opposed}
use Rattle.clauses.proofs.Meaning.{met, Holds, met-meets, meets-met, dnf-met, from_list, normal-holds}
use Rattle.clauses.proofs.Shaping.{all_of, ascending-equal, normal-shape}

-- The least assignment of a clause: its literals determined, zero first, all else undetermined.
abbrev value_by : Bool → Bool → Val
value_by true y = v0
value_by false true = v1
value_by false false = vu

least : Clause → Assignment
least c n = value_by (any (eqb (numbered lo n)) c) (any (eqb (numbered hi n)) c)

-- Only literals of the clause hold there.
least-only : (c : Clause) (e : End) (n : ℕ) → is e (least c n) ≡ true → numbered e n ∈ c
unfolding least
least-only c lo n h = listed (numbered lo n) c (go (any (eqb (numbered lo n)) c) (any (eqb (numbered hi n)) c) h)
  where
    go : (x y : Bool) → is lo (value_by x y) ≡ true → x ≡ true
    go true y e = refl
    go false true e = e
    go false false e = e
least-only c hi n h = listed (numbered hi n) c (go (any (eqb (numbered lo n)) c) (any (eqb (numbered hi n)) c) h)
  where
    go : (x y : Bool) → is hi (value_by x y) ≡ true → y ≡ true
    go true y e = absurd (false≢true e)
    go false true e = refl
    go false false e = e

-- And all of them do, where none is opposed to another.
least-all : (c : Clause) → opposed c c ≡ false → (e : End) (n : ℕ) → numbered e n ∈ c → is e (least c n) ≡ true
unfolding least
least-all c o lo n m = rw (lists m)
least-all c o hi n m = rw (lists m, eq-false_of_not-eq-true (λ p. true≢false (sym (found-opposed m (rw opposite-numbered (listed (numbered lo n) c p))) ∙ o)))

-- So a consistent clause holds at its least assignment, and every clause that does is inside it.
literal-at : (k : ℕ) (σ : Assignment) → holds (literal k) σ ≡ is (end_of (k % 2)) (σ (k / 2))
unfolding holds literal
literal-at k σ = refl

least-holds : (c : Clause) → opposed c c ≡ false → Holds (least c) c
least-holds c o k m = literal-at k (least c) ∙ least-all c o (end_of (k % 2)) (k / 2) (rw numbered-literal m)

least-inside : (c d : Clause) → Holds (least c) d → inside d c ≡ true
least-inside c d h = has-inside d c (λ k m. rw numbered-literal at (least-only c (end_of (k % 2)) (k / 2) (sym (literal-at k (least c)) ∙ h k m)))

-- Each clause of a list has inside it one of every list that is met wherever the first is.
clause-inside : (l m : List Clause) → ((σ : Assignment) → met σ l ≡ true → met σ m ≡ true) → (c : Clause) → c ∈ l → Consistent c → Found (λ d. inside d c ≡ true) m
clause-inside l m h c i C =
    found_map (least-inside c) (met-meets (least c) m (h (least c) (meets-met (least c) l (record { element = c; member = i; so = least-holds c C.consistent }))))

-- And it is that one, since that one has inside it one of the first list.
included : (l m : List Clause) → Irredundant l → Irredundant m → ((σ : Assignment) → met σ l ≡ met σ m) → (c : Clause) → c ∈ l → c ∈ m
included l m L M h c i = go (clause-inside l m (λ σ p. sym (h σ) ∙ p) c i C)
  where
    C : Consistent c
    C = all_of L.clauses c i

    go : Found (λ d. inside d c ≡ true) m → c ∈ m
    go d = back (clause-inside m l (λ σ p. h σ ∙ p) d.element d.member D)
      where
        D : Consistent d.element
        D = all_of M.clauses d.element d.member

        back : Found (λ b. inside b d.element ≡ true) l → c ∈ m
        back b =
            let e : b.element ≡ c = all_of (all_of L.apart b.element b.member) c i (inside-through b.element d.element c b.so d.so) in
            let q : c ≡ d.element = ascending-equal compare-orders c d.element C.sorted D.sorted (inside-has c d.element (rw e at b.so)) (inside-has d.element c d.so) in
            rw q d.member

pub irredundant-equal : (l m : List Clause) → Irredundant l → Irredundant m → ((σ : Assignment) → met σ l ≡ met σ m) → l ≡ m
irredundant-equal l m L M h = ascending-equal lex-orders l m L.sorted M.sorted (included l m L M h) (included m l M L (λ σ. sym (h σ)))

pub dnf-unique : (f g : Face) (l m : List Clause) → dnf f ≡ some l → dnf g ≡ some m → ((σ : Assignment) → holds f σ ≡ holds g σ) → l ≡ m
dnf-unique f g l m p q h = irredundant-equal l m (normal-shape f l p) (normal-shape g m q) (λ σ. dnf-met f l p σ ∙ h σ ∙ sym (dnf-met g m q σ))

-- Two faces with normal forms hold at the same assignments exactly if their normal forms are equal.
pub normal-unique : (f g x y : Face) → normal f ≡ some x → normal g ≡ some y → ((σ : Assignment) → holds f σ ≡ holds g σ) ↔ (x ≡ y)
normal-unique f g x y p q = (onto, from)
  where
    onto : ((σ : Assignment) → holds f σ ≡ holds g σ) → x ≡ y
    onto h =
        let m = from_list f x p in
        let n = from_list g y q in
        sym m.is ∙ ap disjunction (dnf-unique f g m.list n.list m.made n.made h) ∙ n.is

    from : x ≡ y → (σ : Assignment) → holds f σ ≡ holds g σ
    from e σ = sym (normal-holds f x p σ) ∙ ap (λ z. holds z σ) e ∙ normal-holds g y q σ
