-- Clauses as sets of literals.
use Prim.Native.Nat.{ℕ, zero, suc, ◌+◌, ◌*◌, ◌/◌, ◌%◌, compare}
use mathlib.Core.Path.{◌≡◌, refl, sym, ◌∙◌, ap, ap₂}
use mathlib.Core.Logic.{◌⊎◌}
use mathlib.Core.Bool.{true, false, not, true≢false, and-eq-true_iff, and-not_self}
use mathlib.Mathlib.Data.Bool.Basic.{eq-false_of_not-eq-true}
use mathlib.Core.List.Memᴰ.{head as here}
use mathlib.Core.List.Memᴰ.{tail as there}
use mathlib.Core.List.{[], ◌∷◌}
use native.Mathlib.Omega.{arith}
use lib.Dec.{eqb}
use borrow.Author.Tests.{eqb-true, eq-eqb, not-true}
use Rattle.formula.specs.Formula.{End, lo, hi, other, end_of, at}
use Rattle.clauses.specs.Normal.{numbered, literal, opposite, Clause, any, inside, properly, opposed, union}
use Rattle.clauses.proofs.Orders.{compare-orders}
use Rattle.clauses.proofs.Members.{◌∈◌, Found, found_map, any_found, found-any, entered-has, entered-first, entered-second, Strict}

-- The number of a literal tells its end and its dimension.
end-numbered : (e : End) (n : ℕ) → end_of (numbered e n % 2) ≡ e
end-numbered lo n = let p : 2 * n % 2 ≡ 0 = omega arith in rw p
end-numbered hi n = let p : (2 * n + 1) % 2 ≡ 1 = omega arith in rw p

half-numbered : (e : End) (n : ℕ) → numbered e n / 2 ≡ n
half-numbered lo n = omega arith
half-numbered hi n = omega arith

pub literal-numbered : (e : End) (n : ℕ) → literal (numbered e n) ≡ at e n
unfolding literal
literal-numbered e n = ap₂ at (end-numbered e n) (half-numbered e n)

-- And they tell the number.
pub numbered-literal : (k : ℕ) → numbered (end_of (k % 2)) (k / 2) ≡ k
numbered-literal k = go (k % 2) refl
  where
    go : (r : ℕ) → k % 2 ≡ r → numbered (end_of r) (k / 2) ≡ k
    go zero e = omega arith
    go (suc r) e = omega arith

pub opposite-numbered : (e : End) (n : ℕ) → opposite (numbered e n) ≡ numbered (other e) n
unfolding opposite
opposite-numbered e n = rw (end-numbered, half-numbered)

-- A literal is the opposite of its opposite.
other-other : (e : End) → other (other e) ≡ e
other-other lo = refl
other-other hi = refl

pub opposite-opposite : (k : ℕ) → opposite (opposite k) ≡ k
unfolding opposite
opposite-opposite k = rw (end-numbered, half-numbered, other-other) (numbered-literal k)

-- And is not its own.
other_differs : (e : End) → other e ≡ e → ⊥
other_differs lo p = let z : ◌≡◌ {A = ℕ} 0 1 = cc in omega arith
other_differs hi p = let z : ◌≡◌ {A = ℕ} 0 1 = cc in omega arith

pub opposite-differs : (k : ℕ) → opposite k ≡ k → ⊥
unfolding opposite
opposite-differs k p = let e = end_of (k % 2) in other_differs e (sym (end-numbered (other e) (k / 2)) ∙ ap (λ j. end_of (j % 2)) p)

-- A number is listed exactly if it is in the list.
pub listed : (k : ℕ) (d : Clause) → any (eqb k) d ≡ true → k ∈ d
listed k d e = let f = any_found (eqb k) d e in rw (eqb-true k f.element f.so) f.member

pub lists : {k : ℕ} {d : Clause} → k ∈ d → any (eqb k) d ≡ true
lists {k} m = found-any (eqb k) m (eq-eqb k k refl)

-- A clause is inside another exactly if its literals are in the other.
pub inside-has : (c d : Clause) → inside c d ≡ true → (k : ℕ) → k ∈ c → k ∈ d
unfolding inside
inside-has [] d e k m = elim m [ ]
inside-has (j ∷ c) d e k (here p) = rw p (listed j d ((and-eq-true_iff (any (eqb j) d) (inside c d)).0 e).0)
inside-has (j ∷ c) d e k (there m) = inside-has c d ((and-eq-true_iff (any (eqb j) d) (inside c d)).0 e).1 k m

pub has-inside : (c d : Clause) → ((k : ℕ) → k ∈ c → k ∈ d) → inside c d ≡ true
unfolding inside
has-inside [] d h = refl
has-inside (k ∷ c) d h = (and-eq-true_iff (any (eqb k) d) (inside c d)).1 (lists (h k (here refl)), has-inside c d (λ j m. h j (there m)))

pub inside-through : (b c d : Clause) → inside b c ≡ true → inside c d ≡ true → inside b d ≡ true
inside-through b c d p q = has-inside b d (λ k m. inside-has c d q k (inside-has b c p k m))

-- One that is properly inside another is inside it, and not the other in it.
pub properly-inside : (c d : Clause) → properly c d ≡ true → (inside c d ≡ true) × (inside d c ≡ false)
unfolding properly
properly-inside c d e = let p = (and-eq-true_iff (inside c d) (not (inside d c))).0 e in (p.0, not-true (inside d c) p.1)

pub inside-properly : (c d : Clause) → inside c d ≡ true → inside d c ≡ false → properly c d ≡ true
unfolding properly
inside-properly c d p q = rw (p, q)

properly-self : (c : Clause) → properly c c ≡ false
unfolding properly
properly-self c = and-not_self (inside c c)

properly-through : (b c d : Clause) → properly b c ≡ true → properly c d ≡ true → properly b d ≡ true
properly-through b c d p q =
    let m = properly-inside b c p in
    let n = properly-inside c d q in
    inside-properly b d (inside-through b c d m.0 n.0) (eq-false_of_not-eq-true (λ e. true≢false (sym (inside-through d b c e m.0) ∙ n.1)))

pub properly-strict : Strict properly
properly-strict = record { self = properly-self; through = properly-through }

-- Two clauses are opposed exactly if the opposite of a literal of the one is in the other.
pub opposed-found : (c d : Clause) → opposed c d ≡ true → Found (λ k. opposite k ∈ d) c
unfolding opposed
opposed-found c d e = found_map (λ k p. listed (opposite k) d p) (any_found (λ k. any (eqb (opposite k)) d) c e)

pub found-opposed : {k : ℕ} {c d : Clause} → k ∈ c → opposite k ∈ d → opposed c d ≡ true
unfolding opposed
found-opposed {d = d} m o = found-any (λ k. any (eqb (opposite k)) d) m (lists o)

-- The literals of a union are those of both.
pub union-has : {k : ℕ} (c d : Clause) → k ∈ union c d → (k ∈ c) ⊎ (k ∈ d)
unfolding union
union-has c d m = entered-has compare c d m

pub union-first : {k : ℕ} (c d : Clause) → k ∈ c → k ∈ union c d
unfolding union
union-first c d m = entered-first compare d m

pub union-second : {k : ℕ} (c d : Clause) → k ∈ d → k ∈ union c d
unfolding union
union-second c d m = entered-second compare-orders c m
