-- Words carry sets of literals: bits choose among ascending literal numbers.
use Prim.Native.Nat.{Ordering}
use Prim.Native.Nat.{ℕ, zero, suc, ◌+◌, ◌%◌, ◌≤◌, ◌<◌, compare}
use native.Mathlib.Nat.{suc_inj}
use native.Mathlib.Omega.{arith}
use mathlib.Core.Path.{◌≡◌, refl, sym, ap, ◌∙◌}
use mathlib.Core.Bool.{Bool, true, false, ◌&&◌, ◌||◌, not, and-true, and-false, and_comm, and_assoc, and-or_distrib_right, or-false, or_assoc, or_comm, not-not}
use mathlib.Core.List.{List, [], ◌∷◌, zip_with}
use lib.Dec.{eqb}
use lib.ListN.{length, get_or, replicate, length-append, replicate-append-replicate}
use lib.Seq.{sets}
use borrow.Author.Tests.{eqb-true, eqb-false, eq-eqb, ne_eqb}
use Rattle.formula.specs.Answers.{pick}
use Rattle.formula.proofs.Compare.{compare-lt, compare-eq, compare-gt, lt-of-compare}
use Rattle.clauses.specs.Normal.{opposite, enter, entered, lex, any, inside, properly, opposed, union, sets-of-literals}
use Rattle.clauses.specs.Shape.{Ascending, empty, one, more, All, nothing, each}
use Rattle.clauses.specs.Words.{bits, select, some, count, ands, ors, without, order_bits, below_bits, opposites_from, opposites, adjacent, order_of, below_of, against_by, words}
use Rattle.clauses.specs.declared.Clause.{Clause}
use Rattle.clauses.proofs.BitLaws.{binary, length-bits, bits-zero}
use Rattle.clauses.proofs.Carrying.{Carries}
use Rattle.clauses.proofs.WordLaws.{bits-joined}

-- All are larger than k.
abbrev Above : ℕ → List ℕ → Type 0
Above k l = All (λ j. k < j) l

above-less : {i k : ℕ} {l : List ℕ} → i ≤ k → Above k l → Above i l
above-less h nothing = nothing
above-less h (each {x = j} p a) = each {x = j} (omega arith) (above-less h a)

-- In an ascending list every later number is larger.
pub below_all : {k : ℕ} {ks : List ℕ} → Ascending compare (k ∷ ks) → All (λ j. k < j) ks
below_all one = nothing
below_all {k} (more {y = j} e a) = let h : k < j = lt-of-compare k j e in each h (above-less (omega arith) (below_all a))

tail : {k : ℕ} {ks : List ℕ} → Ascending compare (k ∷ ks) → Ascending compare ks
tail one = empty
tail (more e a) = a

-- A choice among ascending numbers.
data Chosen : List ℕ → List Bool → Type 0 where
  none : Chosen [] []
  next : {k : ℕ} {ks : List ℕ} {x : List Bool} (p : Bool) → Above k ks → Chosen ks x → Chosen (k ∷ ks) (p ∷ x)

chosen : (ks : List ℕ) (x : List Bool) → Ascending compare ks → length ks ≡ length x → Chosen ks x
chosen [] [] a e = none
chosen [] (p ∷ x) a e = absurd (omega arith)
chosen (k ∷ ks) [] a e = absurd (omega arith)
chosen (k ∷ ks) (p ∷ x) a e = next p (below_all a) (chosen ks x (tail a) (suc_inj e))

-- What holds of all holds of the chosen ones.
select-all : {P : ℕ → Type 0} {ks : List ℕ} (x : List Bool) → All P ks → All P (select ks x)
unfolding select
select-all x nothing = nothing
select-all [] (each p a) = nothing
select-all (true ∷ x) (each p a) = each p (select-all x a)
select-all (false ∷ x) (each p a) = select-all x a

-- Is there an element?
abbrev filled : List ℕ → Bool
filled [] = false
filled (k ∷ l) = true

filled-select : {ks : List ℕ} {x : List Bool} → Chosen ks x → filled (select ks x) ≡ some x
unfolding select any
filled-select none = refl
filled-select (next true a r) = refl
filled-select (next false a r) = filled-select r

-- A clause against one that begins with a smaller literal.
lex-before : {k : ℕ} {d : List ℕ} (c : List ℕ) → Above k d → lex (k ∷ c) d ≡ pick (filled d) Ordering.lt Ordering.gt
unfolding lex
lex-before c nothing = refl
lex-before {k} c (each {x = j} p a) = rw (compare-lt k j p)

lex-after : {k : ℕ} {c : List ℕ} (d : List ℕ) → Above k c → lex c (k ∷ d) ≡ pick (filled c) Ordering.gt Ordering.lt
unfolding lex
lex-after d nothing = refl
lex-after {k} d (each {x = j} p a) = rw (compare-gt j k p)

lex-chosen : {ks : List ℕ} {x y : List Bool} → Chosen ks x → Chosen ks y → lex (select ks x) (select ks y) ≡ order_bits x y
unfolding select lex order_bits
lex-chosen none none = refl
lex-chosen (next {k = k} true a r) (next true b s) = rw (compare-eq k) (lex-chosen r s)
lex-chosen (next {ks = ks} {x = x} true a r) (next {x = y} false b s) = lex-before (select ks x) (select-all y b) ∙ ap (λ (t : Bool). pick t Ordering.lt Ordering.gt) (filled-select s)
lex-chosen (next {ks = ks} {x = x} false a r) (next {x = y} true b s) = lex-after (select ks y) (select-all x a) ∙ ap (λ (t : Bool). pick t Ordering.gt Ordering.lt) (filled-select r)
lex-chosen (next false a r) (next false b s) = lex-chosen r s

-- A literal is not among larger ones.
any-above : {k : ℕ} {d : List ℕ} → Above k d → any (eqb k) d ≡ false
unfolding any
any-above nothing = refl
any-above {k} (each {x = j} p a) = rw (ne_eqb k j (λ e. omega arith)) (any-above a)

inside-above : {k : ℕ} {c : List ℕ} (d : List ℕ) → Above k c → inside c (k ∷ d) ≡ inside c d
unfolding inside any
inside-above d nothing = refl
inside-above {k} d (each {x = j} {l = c} p a) = rw (ne_eqb j k (λ e. omega arith)) (ap (λ (t : Bool). any (eqb j) d && t) (inside-above d a))

inside-chosen : {ks : List ℕ} {x y : List Bool} → Chosen ks x → Chosen ks y → inside (select ks x) (select ks y) ≡ not (some (without x y))
unfolding select inside any zip_with
inside-chosen none none = refl
inside-chosen (next {k = k} {x = x} true a r) (next true b s) = rw (eq-eqb k k refl) (inside-above _ (select-all x a) ∙ inside-chosen r s)
inside-chosen (next true a r) (next {x = y} false b s) = rw (any-above (select-all y b))
inside-chosen (next {x = x} false a r) (next true b s) = inside-above _ (select-all x a) ∙ inside-chosen r s
inside-chosen (next false a r) (next false b s) = inside-chosen r s

properly-chosen : {ks : List ℕ} {x y : List Bool} → Chosen ks x → Chosen ks y → properly (select ks x) (select ks y) ≡ below_bits x y
unfolding properly below_bits
properly-chosen r s = rw (inside-chosen r s, inside-chosen s r, not-not)

-- Literals that are all larger than the first go behind it.
entered-above : {k : ℕ} {d : List ℕ} (c : List ℕ) → Above k d → entered compare (k ∷ c) d ≡ k ∷ entered compare c d
unfolding entered enter
entered-above c nothing = refl
entered-above {k} c (each {x = j} p a) = rw (compare-gt j k p) (entered-above (enter compare j c) a)

entered-first : {k : ℕ} {d l : List ℕ} (c : List ℕ) → Above k d → entered compare c d ≡ l → entered compare (k ∷ c) d ≡ k ∷ l
entered-first {k} c a e = entered-above c a ∙ ap (λ (l : List ℕ). k ∷ l) e

enter-above : {k : ℕ} {c : List ℕ} → Above k c → enter compare k c ≡ k ∷ c
unfolding enter
enter-above nothing = refl
enter-above {k} (each {x = j} p a) = rw (compare-lt k j p)

enter-same : (k : ℕ) (c : List ℕ) → enter compare k (k ∷ c) ≡ k ∷ c
unfolding enter
enter-same k c = rw (compare-eq k)

union-chosen : {ks : List ℕ} {x y : List Bool} → Chosen ks x → Chosen ks y → union (select ks x) (select ks y) ≡ select ks (ors x y)
unfolding select union entered zip_with
union-chosen none none = refl
union-chosen (next {k = k} {ks = ks} {x = x} true a r) (next {x = y} true b s) =
    ap (λ (l : List ℕ). entered compare l (select ks y)) (enter-same k (select ks x)) ∙ entered-first (select ks x) (select-all y b) (union-chosen r s)
union-chosen (next {ks = ks} {x = x} true a r) (next {x = y} false b s) = entered-first (select ks x) (select-all y b) (union-chosen r s)
union-chosen (next {ks = ks} {x = x} false a r) (next {x = y} true b s) =
    ap (λ (l : List ℕ). entered compare l (select ks y)) (enter-above (select-all x a)) ∙ entered-first (select ks x) (select-all y b) (union-chosen r s)
union-chosen (next false a r) (next false b s) = union-chosen r s

-- An opposite is beside its literal.
opposite-even : (k : ℕ) → k % 2 ≡ 0 → opposite k ≡ k + 1
unfolding opposite
opposite-even k e = rw e (omega arith)

opposite-odd : (k : ℕ) → k % 2 ≡ 1 → opposite k + 1 ≡ k
unfolding opposite
opposite-odd k e = rw e (omega arith)

record Beside (k : ℕ) : Type 0 where
  near : opposite k ≤ suc k
  apart : opposite k ≡ k → ⊥
  back : opposite (opposite k) ≡ k

beside-it : (k : ℕ) → Beside k
beside-it k =
    binary (λ d. k % 2 ≡ d → Beside k)
    (λ e.
    let h = opposite-even k e in
    record { near = omega arith; apart = λ g. omega arith; back = rw h (let g = opposite-odd (k + 1) (omega arith) in omega arith) })
    (λ e.
    let h = opposite-odd k e in
    record { near = omega arith; apart = λ g. omega arith; back = let g = opposite-even (opposite k) (omega arith) in omega arith })
    k refl

-- The tests of two equations that follow from one another.
test_iff : (a b c d : ℕ) → (a ≡ b → c ≡ d) → (c ≡ d → a ≡ b) → eqb a b ≡ eqb c d
test_iff a b c d f g = go (eqb a b) refl
  where
    go : (t : Bool) → eqb a b ≡ t → t ≡ eqb c d
    go true e = sym (eq-eqb c d (f (eqb-true a b e)))
    go false e = sym (ne_eqb c d (λ h. eqb-false a b e (g h)))

opposite-sym : (k j : ℕ) → eqb (opposite k) j ≡ eqb (opposite j) k
opposite-sym k j = test_iff (opposite k) j (opposite j) k (turn k j) (turn j k)
  where
    turn : (k j : ℕ) → opposite k ≡ j → opposite j ≡ k
    turn k j e = ap opposite (sym e) ∙ (beside-it k).back

or_swap : (p q r s : Bool) → (p || q || (r || s)) ≡ (p || r || (q || s))
or_swap true q r s = refl
or_swap false true true s = refl
or_swap false true false s = refl
or_swap false false r s = refl

-- A literal more on the right.
opposed-more : (k : ℕ) (c d : List ℕ) → opposed c (k ∷ d) ≡ (any (eqb (opposite k)) c || opposed c d)
unfolding opposed any
opposed-more k [] d = refl
opposed-more k (j ∷ c) d =
    rw (opposed-more k c d, opposite-sym j k) (or_swap (eqb (opposite k) j) (any (eqb (opposite j)) d) (any (eqb (opposite k)) c) (opposed c d))

-- A literal that may be chosen on either side.
opposed-first : (k : ℕ) (c d : List ℕ) (p q : Bool)
    → opposed (pick p (k ∷ c) c) (pick q (k ∷ d) d) ≡ (p && any (eqb (opposite k)) d || (q && any (eqb (opposite k)) c || opposed c d))
unfolding opposed any
opposed-first k c d true true = rw (opposed-more k c d, ne_eqb (opposite k) k (beside-it k).apart)
opposed-first k c d true false = refl
opposed-first k c d false true = opposed-more k c d
opposed-first k c d false false = refl

-- Is the first of some literals the opposite of one?
abbrev leads : ℕ → List ℕ → Bool
leads k [] = false
leads k (j ∷ ks) = eqb (opposite k) j

adjacent-first : (k : ℕ) (ks : List ℕ) → adjacent (k ∷ ks) ≡ leads k ks ∷ adjacent ks
unfolding adjacent
adjacent-first k [] = refl
adjacent-first k (j ∷ ks) = refl

-- Of larger literals only the first can be the opposite.
any-opposite : {k : ℕ} {ks : List ℕ} {x : List Bool} → Above k ks → Chosen ks x → any (eqb (opposite k)) (select ks x) ≡ (leads k ks && get_or x 0 false)
unfolding any select
any-opposite nothing none = refl
any-opposite {k} (each p b) (next {k = j} {ks = ks} {x = x} t a r) = go t
  where
    rest : any (eqb (opposite k)) (select ks x) ≡ false
    rest = any-above (above-less (let h = (beside-it k).near in omega arith) (select-all x a))

    go : (t : Bool) → any (eqb (opposite k)) (pick t (j ∷ select ks x) (select ks x)) ≡ (eqb (opposite k) j && t)
    go true = rw (rest, or-false, and-true)
    go false = rw (rest, and-false)

-- low: a chosen literal before these has the first of them as its opposite.
opposed-from : {ks : List ℕ} {x y : List Bool} (low : Bool) → Chosen ks x → Chosen ks y
    → some (ands (opposites_from low (adjacent ks) x false) y) ≡ (low && get_or y 0 false || opposed (select ks x) (select ks y))
unfolding select opposed any zip_with opposites_from adjacent
opposed-from low none none = simp and-false
opposed-from low (next {k = k} {ks = ks} {x = x} p a r) (next {x = y} q b s) =
    rw (adjacent-first k ks, opposed-from (leads k ks && p) r s, opposed-first k (select ks x) (select ks y) p q, any-opposite a r, any-opposite b s)
    (arrange low (leads k ks) p q (get_or x 0 false) (get_or y 0 false) (opposed (select ks x) (select ks y)))
  where
    arrange : (low m p q u v o : Bool) → ((m && u || low) && q || (m && p && v || o)) ≡ (low && q || (p && (m && v) || (q && (m && u) || o)))
    arrange low m p q u v o =
        rw (and-or_distrib_right (m && u) low q, and_comm (m && u) q, and_comm m p, and_assoc p m v)
        (ap (λ (t : Bool). t || (p && (m && v) || o)) (or_comm (q && (m && u)) (low && q))
        ∙ or_swap (low && q) (q && (m && u)) (p && (m && v)) o ∙ or_assoc (low && q) (p && (m && v)) (q && (m && u) || o))

-- A clause has 256 bits, none of them set where the words are 0.
pub bits-length : (c : Clause) → length (bits c) ≡ 256
unfolding bits
bits-length c =
    simp length-append (omega (arith, length-bits 64 c.w0, length-bits 64 c.w1, length-bits 64 c.w2, length-bits 64 c.w3))

pub bits_none : bits (record { w0 = 0; w1 = 0; w2 = 0; w3 = 0 }) ≡ replicate 256 false
unfolding bits
bits_none = simp (bits-zero, replicate-append-replicate)

-- The handling of sets of literals, for choices among ascending numbers.
module _ (ks : List ℕ) (x y : List Bool) (a : Ascending compare ks) (e : length ks ≡ length x) (f : length ks ≡ length y) where
  pub lex-select : lex (select ks x) (select ks y) ≡ order_bits x y
  lex-select = lex-chosen (chosen ks x a e) (chosen ks y a f)

  pub properly-select : properly (select ks x) (select ks y) ≡ below_bits x y
  properly-select = properly-chosen (chosen ks x a e) (chosen ks y a f)

  pub opposed-select : opposed (select ks x) (select ks y) ≡ some (ands (opposites (adjacent ks) x) y)
  opposed-select = sym (opposed-from false (chosen ks x a e) (chosen ks y a f))

  pub union-select : union (select ks x) (select ks y) ≡ select ks (ors x y)
  union-select = union-chosen (chosen ks x a e) (chosen ks y a f)

-- Clauses as words are handled as the sets of literals that they select.
pub words-carry : {ks : List ℕ} (mask : Clause) → Ascending compare ks → length ks ≡ 256 → bits mask ≡ adjacent ks → Carries (words mask) sets-of-literals (λ c. select ks (bits c))
unfolding order_of below_of against_by
words-carry {ks} mask a e m =
    record {
      order = λ c d. lex-select ks (bits c) (bits d) a (size c) (size d);
      below = λ c d. properly-select ks (bits c) (bits d) a (size c) (size d);
      against = λ c d. rw m (opposed-select ks (bits c) (bits d) a (size c) (size d));
      joined = λ c d. union-select ks (bits c) (bits d) a (size c) (size d) ∙ ap (select ks) (sym (bits-joined c d));
    }
  where
    size : (c : Clause) → length ks ≡ length (bits c)
    size c = e ∙ sym (bits-length c)

-- As many literals as bits.
pub select-count : {A : Type 0} (ks : List A) (x : List Bool) → length ks ≡ length x → length (select ks x) ≡ count x
unfolding select count
select-count [] [] e = refl
select-count [] (p ∷ x) e = absurd (omega arith)
select-count (k ∷ ks) [] e = absurd (omega arith)
select-count (k ∷ ks) (true ∷ x) e = omega (arith, select-count ks x (suc_inj e))
select-count (k ∷ ks) (false ∷ x) e = omega (arith, select-count ks x (suc_inj e))

-- No bit selects nothing, one bit one literal.
pub select-none : {A : Type 0} (ks : List A) (n : ℕ) → select ks (replicate n false) ≡ []
unfolding select
select-none [] n = refl
select-none (k ∷ ks) zero = refl
select-none (k ∷ ks) (suc n) = select-none ks n

pub select-single : {A : Type 0} (ks : List A) (n r : ℕ) (z : A) → length ks ≡ n → r < n → select ks (sets (replicate n false) r (true ∷ [])) ≡ get_or ks r z ∷ []
unfolding select
select-single [] n r z e h = absurd (omega arith)
select-single (k ∷ ks) zero r z e h = absurd (omega arith)
select-single (k ∷ ks) (suc n) zero z e h = ap (λ (l : List _). k ∷ l) (select-none ks n)
select-single (k ∷ ks) (suc n) (suc r) z e h = select-single ks n r z (suc_inj e) (omega arith)
