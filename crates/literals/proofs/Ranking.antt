-- Each literal of a face within the limits has its rank among 256 ascending numbers.
use Prim.Native.Nat.{ℕ, zero, suc, ◌+◌, ◌-◌, ◌*◌, ◌≤◌, ◌<◌, compare, Ordering}
use native.Mathlib.Nat.{add-zero, sub-zero}
use native.Mathlib.Omega.{arith}
use native.Mathlib.Decide.{ℕ_discrete}
use mathlib.Core.Path.{◌≡◌, refl, sym, ap, ap₂, ◌∙◌}
use mathlib.Core.Logic.{⊎_elim}
use mathlib.Core.List.Memᴰ.{append_cases}
use mathlib.Core.List.Memᴰ.{append_left}
use mathlib.Core.List.Memᴰ.{append_right}
use mathlib.Core.List.Memᴰ.{head as here}
use mathlib.Core.List.Memᴰ.{not-nil as none_here}
use mathlib.Core.List.Memᴰ.{tail as there}
use mathlib.Core.List.{List, [], ◌∷◌, ◌++◌, append-nil}
use lib.ListN.{length, get_or, drop, length-append, length-drop}
use Rattle.formula.specs.Formula.{End, lo, hi, Face, ff, ft, at, fand, for}
use Rattle.formula.specs.Bytes.{encode_face, nodes_face, bound_face, max_nodes, max_bound}
use Rattle.formula.specs.Answers.{dim_space}
use Rattle.formula.proofs.Compare.{compare-lt}
use Rattle.clauses.specs.Normal.{numbered, entered}
use Rattle.clauses.specs.Shape.{Ascending, empty, one, more}
use Rattle.clauses.proofs.Carrying.{AllLiterals, all-literals}
use Rattle.clauses.proofs.Lengths.{entered-length}
use Rattle.clauses.proofs.Members.{◌∈◌, entered-has, entered-second}
use Rattle.clauses.proofs.Orders.{compare-orders}
use Rattle.clauses.proofs.Shaping.{entered-ascending}
use Rattle.clauses.specs.Lists.{over}
use Rattle.literals.specs.Numbers.{numbers_of, blanks_from, blanks, position}
use Rattle.literals.specs.Collecting.{Asks, Collects}
use Rattle.literals.proofs.RowLaws.{position_here, position-behind}

-- The numbers of the literals of a face, ascending and each once, with such numbers behind them.
unfoldable pub ranked : Face → List ℕ
ranked t = over (entered compare [] (numbers_of t)) blanks

-- ---- the numbers of a face

-- There is one for each literal, and literals are leaves.
numbers-few : (t : Face) → 2 * length (numbers_of t) ≤ nodes_face t + 1
unfolding numbers_of nodes_face
numbers-few ff = omega arith
numbers-few ft = omega arith
numbers-few (at e n) = omega arith
numbers-few (fand a b) = omega (arith, numbers-few a, numbers-few b, length-append (numbers_of a) (numbers_of b))
numbers-few (for a b) = omega (arith, numbers-few a, numbers-few b, length-append (numbers_of a) (numbers_of b))

pub numbers_fit : (t : Face) → nodes_face t ≤ max_nodes → length (numbers_of t) ≤ 256
numbers_fit t h = omega (arith, numbers-few t)

-- Each literal's number is there, and nothing else.
literals-there : (t : Face) → AllLiterals (λ e n. numbered e n ∈ numbers_of t) t
unfolding numbers_of
literals-there ff = tt
literals-there ft = tt
literals-there (at e n) = here refl
literals-there (fand a b) = (all-literals (λ e n. append_left (numbers_of b)) a (literals-there a), all-literals (λ e n. append_right (numbers_of a)) b (literals-there b))
literals-there (for a b) = (all-literals (λ e n. append_left (numbers_of b)) a (literals-there a), all-literals (λ e n. append_right (numbers_of a)) b (literals-there b))

numbers-so : (P : ℕ → Type 0) (t : Face) → AllLiterals (λ e n. P (numbered e n)) t → (k : ℕ) → k ∈ numbers_of t → P k
unfolding numbers_of
numbers-so P ff p k m = absurd (none_here m)
numbers-so P ft p k m = absurd (none_here m)
numbers-so P (at e n) p k (here q) = rw q p
numbers-so P (at e n) p k (there m) = absurd (none_here m)
numbers-so P (fand a b) p k m = ⊎_elim (numbers-so P a p.0 k) (numbers-so P b p.1 k) (append_cases (numbers_of a) m)
numbers-so P (for a b) p k m = ⊎_elim (numbers-so P a p.0 k) (numbers-so P b p.1 k) (append_cases (numbers_of a) m)

-- A bound of the dimensions bounds the numbers.
numbered_below : {b : ℕ} (e : End) (n : ℕ) → n < b → numbered e n < 2 * b
numbered_below lo n h = omega (arith, h)
numbered_below hi n h = omega (arith, h)

literals-below : (b : ℕ) (t : Face) → bound_face t ≤ b → AllLiterals (λ e n. numbered e n < 2 * b) t
unfolding bound_face
literals-below b ff h = tt
literals-below b ft h = tt
literals-below b (at e n) h = numbered_below e n h
literals-below b (fand x y) h = (literals-below b x (omega (arith, h)), literals-below b y (omega (arith, h)))
literals-below b (for x y) h = (literals-below b x (omega (arith, h)), literals-below b y (omega (arith, h)))

-- ---- the numbers that no literal has

blanks-length : (i n : ℕ) → length (blanks_from i n) ≡ n
unfolding blanks_from
blanks-length i zero = refl
blanks-length i (suc n) = ap suc (blanks-length (suc i) n)

blanks-drop : (j i n : ℕ) → drop j (blanks_from i n) ≡ blanks_from (i + j) (n - j)
unfolding blanks_from
blanks-drop zero i n = ap₂ blanks_from (sym (add-zero i)) (sym (sub-zero n))
blanks-drop (suc j) i zero = let e : 0 - suc j ≡ 0 = omega arith in sym (ap (blanks_from (i + suc j)) e)
blanks-drop (suc j) i (suc n) =
    let p : suc i + j ≡ i + suc j = omega arith in
    let q : n - j ≡ suc n - suc j = omega arith in
    blanks-drop j (suc i) n ∙ ap₂ blanks_from p q

blanks-high : (i n : ℕ) (a : ℕ) → a ∈ blanks_from i n → 65536 + 2 * i ≤ a
unfolding blanks_from
blanks-high i zero a m = absurd (none_here m)
blanks-high i (suc n) a (here e) = omega (arith, e)
blanks-high i (suc n) a (there m) = omega (arith, blanks-high (suc i) n a m)

-- ---- ascending lists, one behind the other

ascending-front : {A : Type 0} {order : A → A → Ordering} (x : A) {l : List A} → ((a : A) → a ∈ l → order x a ≡ Ordering.lt) → Ascending order l → Ascending order (x ∷ l)
ascending-front x h empty = one
ascending-front x h (one {x = y}) = more (h y (here refl)) one
ascending-front x h (more {x = y} e s) = more (h y (here refl)) (more e s)

ascending-append : {A : Type 0} {order : A → A → Ordering} {x y : List A} → Ascending order x → Ascending order y → ((a b : A) → a ∈ x → b ∈ y → order a b ≡ Ordering.lt) → Ascending order (x ++ y)
ascending-append empty t h = t
ascending-append (one {x = a}) t h = ascending-front a (λ b m. h a b (here refl) m) t
ascending-append (more e s) t h = more e (ascending-append s t (λ a b m. h a b (there m)))

blanks-ascending : (i n : ℕ) → Ascending compare (blanks_from i n)
unfolding blanks_from
blanks-ascending i zero = empty
blanks-ascending i (suc n) = ascending-front (65536 + 2 * i) (λ a m. compare-lt (65536 + 2 * i) a (omega (arith, blanks-high (suc i) n a m))) (blanks-ascending (suc i) n)

-- ---- the first place of a number

-- A number stands at its place.
record Standing (k : ℕ) (l : List ℕ) : Type 0 where
  inside : position k l < length l
  stands : get_or l (position k l) 0 ≡ k

standing_here : {k j : ℕ} (l : List ℕ) → k ≡ j → Standing k (j ∷ l)
standing_here {k} {j} l e = let p = position_here l e in record { inside = omega (arith, p); stands = ap (λ n. get_or (j ∷ l) n 0) p ∙ sym e }

standing-behind : {k j : ℕ} {l : List ℕ} → (k ≡ j → ⊥) → Standing k l → Standing k (j ∷ l)
standing-behind {k} {j} {l} e s = let p = position-behind l e in record { inside = omega (arith, p, s.inside); stands = ap (λ n. get_or (j ∷ l) n 0) p ∙ s.stands }

member-standing : {k : ℕ} {l : List ℕ} → k ∈ l → Standing k l
member-standing (here {xs = l} e) = standing_here l e
member-standing {k} (there {x = j} {xs = l} m) = by (ℕ_discrete k j) (member-standing m)
  where
    by : Dec (k ≡ j) → Standing k l → Standing k (j ∷ l)
    by (yes e) s = standing_here l e
    by (no e) s = standing-behind e s

-- ---- the row of a face

-- Among 256 ascending numbers each literal of a face has its rank, at which its number stands.
pub record Ranks (t : Face) (ks : List ℕ) : Type 0 where
  pub sorted : Ascending compare ks
  pub many : length ks ≡ 256
  pub below : AllLiterals (λ e n. position (numbered e n) ks < 256) t
  pub stands : AllLiterals (λ e n. get_or ks (position (numbered e n) ks) 0 ≡ numbered e n) t

module _ (t : Face) where
  -- The numbers of the literals in it.
  abbrev own : List ℕ
  own = entered compare [] (numbers_of t)

  own-few : nodes_face t ≤ max_nodes → length own ≤ 256
  own-few h = omega (arith, numbers_fit t h, entered-length compare [] (numbers_of t))

  own_below : bound_face t ≤ max_bound → (k : ℕ) → k ∈ own → k < 2 * max_bound
  own_below h k m = ⊎_elim (λ n. absurd (none_here n)) (numbers-so (λ k. k < 2 * max_bound) t (literals-below max_bound t h) k) (entered-has compare [] (numbers_of t) m)

  ranked-many : nodes_face t ≤ max_nodes → length (ranked t) ≡ 256
  unfolding ranked
  ranked-many h = omega (arith, length-append own (drop (length own) blanks), length-drop (length own) blanks, blanks-length 0 256, own-few h)

  ranked-sorted : bound_face t ≤ max_bound → Ascending compare (ranked t)
  unfolding ranked
  ranked-sorted h =
      rw (blanks-drop (length own) 0 256)
      (ascending-append (entered-ascending compare-orders [] (numbers_of t) empty) (blanks-ascending (0 + length own) (256 - length own)) (λ a b m n. compare-lt a b (omega (arith, own_below h a m, blanks-high (0 + length own) (256 - length own) b n))))

  ranked-standing : AllLiterals (λ e n. Standing (numbered e n) (ranked t)) t
  unfolding ranked
  ranked-standing = all-literals (λ e n m. member-standing (append_left (drop (length own) blanks) (entered-second compare-orders [] m))) t (literals-there t)

  -- Theorem: so it is of the row that is made of a face within the limits.
  pub ranking : nodes_face t ≤ max_nodes → bound_face t ≤ max_bound → Ranks t (ranked t)
  ranking h k =
      let long = ranked-many h in
      record {
        sorted = ranked-sorted k;
        many = long;
        below = all-literals (λ e n s. omega (arith, s.inside, long)) t ranked-standing;
        stands = all-literals (λ e n s. s.stands) t ranked-standing;
      }

  -- Theorem: every number of such a face is below twice as many as there are dimensions.
  pub numbers-small : bound_face t ≤ max_bound → AllLiterals (λ e n. numbered e n < 2 * dim_space) t
  numbers-small h = literals-below dim_space t (omega (arith, h))

  -- The row is what collecting from the face's bytes leaves of the numbers that no literal has.
  module _ (f : List ℕ) (e : f ≡ encode_face t) (l : List ℕ) where
    bytes : drop 0 f ≡ encode_face t ++ []
    bytes = e ∙ sym (append-nil (encode_face t))

    pub ranking-asks : nodes_face t ≤ max_nodes → length l ≡ 256 → Asks f 0 l 0
    ranking-asks h k = record { face = t; rest = []; bytes = bytes; room = omega (arith, numbers_fit t h, k) }

    pub ranking-made : l ≡ blanks → {j m : ℕ} {l' : List ℕ} → Collects f 0 l 0 j m l' → l' ≡ ranked t
    unfolding ranked
    ranking-made p c = (c.it t [] bytes).leads.all ∙ ap (over own) p
