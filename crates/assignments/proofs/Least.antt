-- The least assignment that satisfies one face and not another: there is at most one, and one where there is any.
use Prim.Native.Nat.{ℕ, zero, suc, ◌≤◌, ◌<◌}
use mathlib.Core.Path.{◌≡◌, refl, sym, ◌∙◌, ap}
use mathlib.Core.Bool.{Bool, true, false, not, ◌&&◌, true≢false}
use mathlib.Core.List.{List, [], ◌∷◌}
use native.Mathlib.Omega.{arith}
use native.Mathlib.Decide.{dec_le}
use lib.ListN.{get_or}
use Rattle.formula.specs.Formula.{Face, holds}
use Rattle.assignments.specs.Assignments.{assigned, Assigns, determined, Before, lower, same, Refutes, Least}
use Rattle.assignments.proofs.Ordering.{Compared, earlier, equal, later, compared}

-- There is at most one least.
pub least-one : {d : ℕ} {a b : Face} {l m : List ℕ} → Least d a b l → Least d a b m → l ≡ m
least-one {l} {m} L M = go (compared l m (omega (arith, L.refutes.bytes.long, M.refutes.bytes.long)))
  where
    few : determined l ≡ determined m
    few = omega (arith, L.fewest m M.refutes, M.fewest l L.refutes)

    go : Compared l m → l ≡ m
    go (earlier b) = absurd (M.first l L.refutes few b)
    go (equal e) = e
    go (later b) = absurd (L.first m M.refutes (sym few) b)

-- The search ------------------------------------------------------------------------------------

-- A list with Q than which none with Q determines fewer dimensions, and before which none with Q that determines as few comes.
record Best (Q : List ℕ → Type 0) (l : List ℕ) : Type 0 where
  pub has : Q l
  pub fewest : (m : List ℕ) → Q m → determined l ≤ determined m
  pub first : (m : List ℕ) → Q m → determined m ≡ determined l → Before m l → ⊥

-- There is such a list, or none with Q.
data Search (Q : List ℕ → Type 0) : Type 0 where
  found : (l : List ℕ) → Best Q l → Search Q
  missing : ((m : List ℕ) → Q m → ⊥) → Search Q

-- The search depends only on which lists have Q.
search-map : {Q R : List ℕ → Type 0} → ((m : List ℕ) → Q m → R m) → ((m : List ℕ) → R m → Q m) → Search Q → Search R
search-map f g (found l B) = found l (record { has = f l B.has; fewest = λ m r. B.fewest m (g m r); first = λ m r. B.first m (g m r) })
search-map f g (missing n) = missing (λ m r. n m (g m r))

-- The byte k, and after it a list with Q.
data Led (k : ℕ) (Q : List ℕ → Type 0) : List ℕ → Type 0 where
  led : {l : List ℕ} → Q l → Led k Q (k ∷ l)

-- A list that comes before another that begins alike does so by what follows.
before-behind : {j k : ℕ} {l m : List ℕ} → Before (j ∷ l) (k ∷ m) → j ≡ k → Before l m
before-behind (lower p) e = absurd (omega arith)
before-behind (same b) e = b

before-tail : {k : ℕ} {l m : List ℕ} → Before (k ∷ l) (k ∷ m) → Before l m
before-tail b = before-behind b refl

-- The best with the byte k in front.
search-led : (k : ℕ) {Q : List ℕ → Type 0} → Search Q → Search (Led k Q)
unfolding determined
search-led k {Q} (found l B) = found (k ∷ l) (record { has = led B.has; fewest = few; first = foremost })
  where
    few : (m : List ℕ) → Led k Q m → determined (k ∷ l) ≤ determined m
    few m (led {l = n} q) = omega (arith, B.fewest n q)

    foremost : (m : List ℕ) → Led k Q m → determined m ≡ determined (k ∷ l) → Before m (k ∷ l) → ⊥
    foremost m (led {l = n} q) e b = B.first n q (omega arith) (before-tail b)
search-led k {Q} (missing n) = missing none
  where
    none : (m : List ℕ) → Led k Q m → ⊥
    none m (led {l} q) = n l q

-- One of the two.
data Either (Q R : List ℕ → Type 0) (l : List ℕ) : Type 0 where
  left : Q l → Either Q R l
  right : R l → Either Q R l

-- Of two searches of which no list of the second comes before one of the first, the one with fewer determined dimensions, the first on a tie.
search-either : {Q R : List ℕ → Type 0} → ((l m : List ℕ) → Q l → R m → Before m l → ⊥) → Search Q → Search R → Search (Either Q R)
search-either {Q} {R} apart (found l B) (found m C) = go (dec_le (determined l) (determined m))
  where
    few : determined l ≤ determined m → (n : List ℕ) → Either Q R n → determined l ≤ determined n
    few h n (left q) = B.fewest n q
    few h n (right r) = omega (arith, C.fewest n r)

    first_of : (n : List ℕ) → Either Q R n → determined n ≡ determined l → Before n l → ⊥
    first_of n (left q) e b = B.first n q e b
    first_of n (right r) e b = apart l n B.has r b

    fewer : determined m < determined l → (n : List ℕ) → Either Q R n → determined m ≤ determined n
    fewer h n (left q) = omega (arith, B.fewest n q)
    fewer h n (right r) = C.fewest n r

    first-in : determined m < determined l → (n : List ℕ) → Either Q R n → determined n ≡ determined m → Before n m → ⊥
    first-in h n (left q) e b = omega (arith, B.fewest n q)
    first-in h n (right r) e b = C.first n r e b

    go : Dec (determined l ≤ determined m) → Search (Either Q R)
    go (yes h) = found l (record { has = left B.has; fewest = few h; first = first_of })
    go (no h) = let i : determined m < determined l = omega arith in found m (record { has = right C.has; fewest = fewer i; first = first-in i })
search-either {Q} {R} apart (found l B) (missing k) = search-map (λ m q. left q) back (found l B)
  where
    back : (m : List ℕ) → Either Q R m → Q m
    back m (left q) = q
    back m (right r) = absurd (k m r)
search-either {Q} {R} apart (missing n) s = search-map (λ m r. right r) back s
  where
    back : (m : List ℕ) → Either Q R m → R m
    back m (left q) = absurd (n m q)
    back m (right r) = r

-- An assignment of d dimensions that passes a test.
record Passes (d : ℕ) (P : List ℕ → Bool) (l : List ℕ) : Type 0 where
  pub bytes : Assigns d l
  pub passes : P l ≡ true

-- Lists that begin with a higher byte do not come before.
before-higher : {j k : ℕ} {l m : List ℕ} → j < k → Before (k ∷ l) (j ∷ m) → ⊥
before-higher h (lower i) = omega arith
before-higher h (same b) = omega arith

-- So the two kinds of lists are apart.
apart-led : {j k : ℕ} {Q R : List ℕ → Type 0} → j < k → (l m : List ℕ) → Led j Q l → Led k R m → Before m l → ⊥
apart-led h l m (led p) (led q) b = before-higher h b

-- Where no list with R comes before one with Q, and none with S, none with either does.
apart-either : {Q R S : List ℕ → Type 0} → ((l m : List ℕ) → Q l → R m → Before m l → ⊥) → ((l m : List ℕ) → Q l → S m → Before m l → ⊥)
    → (l m : List ℕ) → Q l → Either R S m → Before m l → ⊥
apart-either f g l m q (left r) b = f l m q r b
apart-either f g l m q (right s) b = g l m q s b

-- Of one dimension more: a byte from 0 to 2 and a shorter assignment.
abbrev Longer : ℕ → (List ℕ → Bool) → List ℕ → Type 0
Longer d P = Either (Led 0 (Passes d (λ l. P (0 ∷ l)))) (Either (Led 1 (Passes d (λ l. P (1 ∷ l)))) (Led 2 (Passes d (λ l. P (2 ∷ l)))))

-- A byte in front of an assignment makes one.
assigns-cons : {d k : ℕ} {l : List ℕ} → k ≤ 2 → Assigns d l → Assigns (suc d) (k ∷ l)
assigns-cons {d} {k} {l} h A = record { long = ap suc A.long; each = each }
  where
    each : (n : ℕ) → get_or (k ∷ l) n 2 ≤ 2
    each zero = h
    each (suc n) = A.each n

-- These are exactly the assignments that pass.
passes-led : (d : ℕ) (P : List ℕ → Bool) {k : ℕ} → k ≤ 2 → (m : List ℕ) → Led k (Passes d (λ l. P (k ∷ l))) m → Passes (suc d) P m
passes-led d P h m (led p) = record { bytes = assigns-cons h p.bytes; passes = p.passes }

longer-passes : (d : ℕ) (P : List ℕ → Bool) (m : List ℕ) → Longer d P m → Passes (suc d) P m
longer-passes d P m (left p) = passes-led d P (omega arith) m p
longer-passes d P m (right (left p)) = passes-led d P (omega arith) m p
longer-passes d P m (right (right p)) = passes-led d P (omega arith) m p

passes-longer : (d : ℕ) (P : List ℕ → Bool) (m : List ℕ) → Passes (suc d) P m → Longer d P m
passes-longer d P [] p = absurd (omega (arith, p.bytes.long))
passes-longer d P (k ∷ m) p = go k p.passes (p.bytes.each 0)
  where
    rest : Assigns d m
    rest = record { long = omega (arith, p.bytes.long); each = λ n. p.bytes.each (suc n) }

    go : (k : ℕ) → P (k ∷ m) ≡ true → k ≤ 2 → Longer d P (k ∷ m)
    go zero e h = left (led (record { bytes = rest; passes = e }))
    go (suc zero) e h = right (left (led (record { bytes = rest; passes = e })))
    go (suc (suc zero)) e h = right (right (led (record { bytes = rest; passes = e })))
    go (suc (suc (suc k))) e h = absurd (omega arith)

-- Without dimensions there is only the empty list.
search-none : (P : List ℕ → Bool) (t : Bool) → P [] ≡ t → Search (Passes 0 P)
unfolding determined
search-none P true e = found [] (record { has = record { bytes = record { long = refl; each = λ n. omega arith }; passes = e }; fewest = few; first = foremost })
  where
    few : (m : List ℕ) → Passes 0 P m → determined [] ≤ determined m
    few m p = omega arith

    foremost : (m : List ℕ) → Passes 0 P m → determined m ≡ determined [] → Before m [] → ⊥
    foremost [] p i b = elim b [ ]
    foremost (k ∷ m) p i b = omega (arith, p.bytes.long)
search-none P false e = missing nowhere
  where
    nowhere : (m : List ℕ) → Passes 0 P m → ⊥
    nowhere [] p = true≢false (sym p.passes ∙ e)
    nowhere (k ∷ m) p = omega (arith, p.bytes.long)

-- The least of the assignments of d dimensions that pass a test, if any does.
search-passes : (d : ℕ) (P : List ℕ → Bool) → Search (Passes d P)
search-passes zero P = search-none P (P []) refl
search-passes (suc d) P =
    search-map (longer-passes d P) (passes-longer d P)
    (search-either (apart-either (apart-led (omega arith)) (apart-led (omega arith)))
    (search-led 0 (search-passes d (λ l. P (0 ∷ l))))
    (search-either (apart-led (omega arith))
    (search-led 1 (search-passes d (λ l. P (1 ∷ l))))
    (search-led 2 (search-passes d (λ l. P (2 ∷ l))))))

-- Of two faces ------------------------------------------------------------------------------------

-- The test of a list: it satisfies a and not b.
test : Face → Face → List ℕ → Bool
test a b l = holds a (assigned l) && not (holds b (assigned l))

both : (s t : Bool) → (s && not t) ≡ true → (s ≡ true) × (t ≡ false)
both true true e = absurd (true≢false (sym e))
both true false e = (refl, refl)
both false t e = absurd (true≢false (sym e))

module _ (d : ℕ) (a b : Face) where
  passes-refutes : (m : List ℕ) → Passes d (test a b) m → Refutes d a b m
  unfolding test
  passes-refutes m p =
      let e = both (holds a (assigned m)) (holds b (assigned m)) p.passes in
      record { bytes = p.bytes; satisfied = e.0; missed = e.1 }

  refutes-passes : (m : List ℕ) → Refutes d a b m → Passes d (test a b) m
  unfolding test
  refutes-passes m r = record { bytes = r.bytes; passes = rw (r.satisfied, r.missed) }

  -- There is a least, or no assignment satisfies a and not b.
  pub data Sought : Type 0 where
    least_at : (l : List ℕ) → Least d a b l → Sought
    never : ((l : List ℕ) → Refutes d a b l → ⊥) → Sought

  pub sought : Sought
  sought = go (search-map passes-refutes refutes-passes (search-passes d (test a b)))
    where
      go : Search (Refutes d a b) → Sought
      go (found l B) = least_at l (record { refutes = B.has; fewest = B.fewest; first = B.first })
      go (missing n) = never n

  -- Where an assignment satisfies a and not b, there is a least.
  pub least-exists : (l : List ℕ) → Refutes d a b l → (m : List ℕ) × Least d a b m
  least-exists l r = go sought
    where
      go : Sought → (m : List ℕ) × Least d a b m
      go (least_at m L) = (m, L)
      go (never n) = absurd (n l r)
