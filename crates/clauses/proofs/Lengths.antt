-- How long the lists of a normal form get: 256 at most, and 32 for each leaf.
use Prim.Native.Nat.{ℕ, suc, ◌+◌, ◌*◌, ◌^◌, ◌≤◌, Ordering}
use mathlib.Core.Path.{◌≡◌, refl}
use mathlib.Core.Bool.{Bool, true, false}
use mathlib.Core.Option.{some}
use mathlib.Core.List.{List, [], ◌∷◌, ◌++◌}
use native.Mathlib.Omega.{arith}
use native.Mathlib.Decide.{dec_le}
use native.Mathlib.Nat.{mul-le-mul, mul-le-mul_left, mul-le-mul_right}
use lib.ListN.{length, length-append}
use lib.Pow.{pow-add, pow_mono}
use Rattle.formula.specs.Formula.{Face, ff, ft, at, fand, for, beside}
use Rattle.formula.specs.Bytes.{nodes_face}
use Rattle.formula.specs.Answers.{pick}
use Rattle.clauses.specs.Normal.{Handling, LeafCases, enter, entered, any, minimal, prune, pairs_with, pairs, max_clauses, clauses}
use Rattle.clauses.proofs.Keeping.{Kept, clauses-kept, clauses-fand, clauses-for}

-- The leaves of a face. -----------------------------------------------------------

unfoldable pub leaves : Face → ℕ
leaves ff = 1
leaves ft = 1
leaves (at e n) = 1
leaves (fand a b) = leaves a + leaves b
leaves (for a b) = leaves a + leaves b

pub leaves-nodes : (f : Face) → nodes_face f + 1 ≡ 2 * leaves f
unfolding leaves nodes_face
leaves-nodes ff = refl
leaves-nodes ft = refl
leaves-nodes (at e n) = refl
leaves-nodes (fand a b) = omega (arith, leaves-nodes a, leaves-nodes b)
leaves-nodes (for a b) = omega (arith, leaves-nodes a, leaves-nodes b)

pub leaves-some : (f : Face) → 1 ≤ leaves f
unfolding leaves
leaves-some ff = omega arith
leaves-some ft = omega arith
leaves-some (at e n) = omega arith
leaves-some (fand a b) = omega (arith, leaves-some a)
leaves-some (for a b) = omega (arith, leaves-some a)

-- Nothing that makes a list makes it longer. --------------------------------------

module _ {A : Type 0} where
  pub enter-length : (order : A → A → Ordering) (x : A) (l : List A) → length (enter order x l) ≤ suc (length l)
  unfolding enter
  enter-length order x [] = omega arith
  enter-length order x (y ∷ l) = go (order x y) (enter-length order x l)
    where
      go : (o : Ordering) → length (enter order x l) ≤ suc (length l) → length (beside o (x ∷ y ∷ l) (y ∷ l) (y ∷ enter order x l)) ≤ suc (suc (length l))
      go Ordering.lt h = omega arith
      go Ordering.eq h = omega arith
      go Ordering.gt h = omega arith

  pub entered-length : (order : A → A → Ordering) (l m : List A) → length (entered order l m) ≤ length l + length m
  unfolding entered
  entered-length order l [] = omega arith
  entered-length order l (x ∷ m) = omega (arith, entered-length order (enter order x l) m, enter-length order x l)

  pick-length : (t : Bool) (x : A) (l : List A) (n : ℕ) → length l ≤ n → length (pick t l (x ∷ l)) ≤ suc n
  pick-length true x l n h = omega arith
  pick-length false x l n h = omega arith

  minimal-length : (below : A → A → Bool) (all l : List A) → length (minimal below all l) ≤ length l
  unfolding minimal
  minimal-length below all [] = omega arith
  minimal-length below all (c ∷ l) = pick-length (any (λ d. below d c) all) c (minimal below all l) (length l) (minimal-length below all l)

  pub prune-length : (H : Handling A) (l : List A) → length (prune H l) ≤ length l
  unfolding prune
  prune-length H l =
      let all = entered H.order [] l in
      omega (arith, minimal-length H.below all all, entered-length H.order [] l)

  pairs_with-length : (H : Handling A) (c : A) (y : List A) → length (pairs_with H c y) ≤ length y
  unfolding pairs_with
  pairs_with-length H c [] = omega arith
  pairs_with-length H c (d ∷ y) = pick-length (H.against c d) (H.joined c d) (pairs_with H c y) (length y) (pairs_with-length H c y)

  pub pairs-length : (H : Handling A) (x y : List A) → length (pairs H x y) ≤ length x * length y
  unfolding pairs
  pairs-length H [] y = omega arith
  pairs-length H (c ∷ x) y = omega (arith, length-append (pairs_with H c y) (pairs H x y), pairs_with-length H c y, pairs-length H x y)

-- The lists of faces. -------------------------------------------------------------

-- At most 256, and at most half of two to the number of leaves.
record Short {A : Type 0} (f : Face) (l : List A) : Type 0 where
  few : length l ≤ max_clauses
  halved : 2 * length l ≤ 2 ^ leaves f

-- Both bounds together: below the line for one leaf, for two to seven, and from eight on.
short-room : (n m : ℕ) → 1 ≤ n → m ≤ max_clauses → 2 * m ≤ 2 ^ n → m ≤ 32 * n
short-room n m p h k = go (dec_le n 1) (dec_le n 7)
  where
    go : Dec (n ≤ 1) → Dec (n ≤ 7) → m ≤ 32 * n
    go (yes l) d = omega (arith, pow_mono l)
    go (no g) (yes l) = omega (arith, pow_mono l)
    go (no g) (no l) = omega arith

-- A product and a sum of halves.
half_product : (m n x y : ℕ) → 2 * x ≤ 2 ^ m → 2 * y ≤ 2 ^ n → 2 * (x * y) ≤ 2 ^ (m + n)
half_product m n x y p q = rw pow-add (omega (arith, mul-le-mul p q))

half-sum : (m n x y : ℕ) → 1 ≤ m → 1 ≤ n → 2 * x ≤ 2 ^ m → 2 * y ≤ 2 ^ n → 2 * (x + y) ≤ 2 ^ (m + n)
half-sum m n x y u v p q = rw pow-add (omega (arith, mul-le-mul_left (2 ^ m) (pow_mono v), mul-le-mul_right (2 ^ n) (pow_mono u)))

module _ {A : Type 0} (H : Handling A) (L : LeafCases A) where
  short : Kept H L Short
  unfolding leaves
  short = record {
    never = record { few = omega arith; halved = omega arith };
    always = record { few = omega arith; halved = omega arith };
    single = λ e n. record { few = omega arith; halved = omega arith };
    conjoined = λ a b x y p q h. record { few = omega (arith, prune-length H (pairs H x y)); halved = omega (arith, prune-length H (pairs H x y), pairs-length H x y, half_product (leaves a) (leaves b) (length x) (length y) p.halved q.halved) };
    disjoined = λ a b x y p q h. record { few = omega (arith, prune-length H (x ++ y)); halved = omega (arith, prune-length H (x ++ y), length-append x y, half-sum (leaves a) (leaves b) (length x) (length y) (leaves-some a) (leaves-some b) p.halved q.halved) };
  }

  pub clauses-few : (f : Face) (l : List A) → clauses H L f ≡ some l → length l ≤ max_clauses
  clauses-few f l e = (clauses-kept H L Short short f l e).few

  pub clauses-room : (f : Face) (l : List A) → clauses H L f ≡ some l → length l ≤ 32 * leaves f
  clauses-room f l e =
      let s = clauses-kept H L Short short f l e in
      short-room (leaves f) (length l) (leaves-some f) s.few s.halved

  -- The same of a node whose parts have these lists.
  pub fand-room : (a b : Face) (x y : List A) → clauses H L a ≡ some x → clauses H L b ≡ some y → length (pairs H x y) ≤ max_clauses →
      length (prune H (pairs H x y)) ≤ 32 * (leaves a + leaves b)
  unfolding leaves
  fand-room a b x y p q h = clauses-room (fand a b) (prune H (pairs H x y)) (clauses-fand H L a b x y p q h)

  pub for-room : (a b : Face) (x y : List A) → clauses H L a ≡ some x → clauses H L b ≡ some y → length (x ++ y) ≤ max_clauses →
      length (prune H (x ++ y)) ≤ 32 * (leaves a + leaves b)
  unfolding leaves
  for-room a b x y p q h = clauses-room (for a b) (prune H (x ++ y)) (clauses-for H L a b x y p q h)
