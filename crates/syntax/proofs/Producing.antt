-- What is answered is what the producer's own check says, and that check never meets its count of 10,000 nodes.
use Rattle.std.specs.Prelude.{Ok}
use Prim.Native.Nat.{ℕ, suc, ◌+◌, ◌≤◌, ◌<◌, max}
use native.Mathlib.Omega.{arith}
use native.Mathlib.Decide.{dec_le}
use mathlib.Core.Path.{◌≡◌, refl, ap, ◌∙◌, subst}
use mathlib.Core.Bool.{and-false}
use mathlib.Core.List.{List}
use borrow.Author.Tests.{le-leb, lt-leb}
use Rattle.refusals.specs.Refusals.{of_one}
use Rattle.formula.specs.Bytes.{Tree, Node, leaf, lit, one, two, bad, node_of, nodes, bound}
use Rattle.formula.specs.Answers.{operand}
use Rattle.formula.specs.declared.Sort.{Sort}
use Rattle.formula.specs.declared.Sort.TheVariants.{Faces, Intervals}
use Rattle.formula.proofs.Nodes.{made_as, each-node, tree-ind}
use Rattle.formula.proofs.Operands.{opened, opened-limits}
use Rattle.syntax.specs.Syntax.{depth, limited, counted}
use Rattle.syntax.specs.Producer.{Check, count, too-deep, too_many, too_large, next, limits, index, check_face, check_interval, check, answered}
use Rattle.syntax.proofs.DepthLaws.{depth-as}

-- The check of a formula by its node.
abbrev CheckAt : (s : Sort) → ℕ → Node (Tree s) → Type 0
CheckAt s b (leaf t) = (d n : ℕ) → check s t d n ≡ limits d n
CheckAt s b (lit g) = (i d n : ℕ) → check s (g i) d n ≡ next (limits d n) (index i)
CheckAt s b (one u) = (x : Tree s) (d n : ℕ) → check s (u x) d n ≡ next (limits d n) (check s x (suc d))
CheckAt s b (two v) = (x y : Tree s) (d n : ℕ) → check s (v x y) d n ≡ next (limits d n) (λ m. next (check s x (suc d) m) (check s y (suc d)))
CheckAt s b bad = Unit {0}

check-at : (s : Sort) (b : ℕ) → CheckAt s b (node_of s b)
unfolding check_face check_interval
check-at Faces b =
    each-node Faces (CheckAt Faces)
    (record {
      at0 = λ d n. refl;
      at1 = λ d n. refl;
      at2 = λ i d n. refl;
      at3 = λ i d n. refl;
      at4 = λ x y d n. refl;
      at5 = λ x y d n. refl;
      none = λ c. tt;
    })
    b
check-at Intervals b =
    each-node Intervals (CheckAt Intervals)
    (record {
      at0 = λ d n. refl;
      at1 = λ d n. refl;
      at2 = λ i d n. refl;
      at3 = λ x d n. refl;
      at4 = λ x y d n. refl;
      at5 = λ x y d n. refl;
      none = λ c. tt;
    })
    b

check-as : (s : Sort) (b : ℕ) (k : Node (Tree s)) → node_of s b ≡ k → CheckAt s b k
check-as s b k e = subst (CheckAt s b) e (check-at s b)

-- What a check of a formula of so many nodes, so deep and with such a bound comes to: it counts all nodes, or finds what is
-- beyond a limit. It is never the count.
data Comes (size deep top d n : ℕ) : Check → Type 0 where
  counts : d + deep ≤ 32 → top ≤ 33 → {m : ℕ} → m ≡ n + size → Comes size deep top d n (count m)
  deeper : 32 < d + deep → Comes size deep top d n too-deep
  larger : 33 < top → Comes size deep top d n too_large

comes-limits : (d n : ℕ) → n < 10000 → Comes 1 0 0 d n (limits d n)
comes-limits d n h = go (dec_le d 32)
  where
    go : Dec (d ≤ 32) → Comes 1 0 0 d n (limits d n)
    go (yes g) = rw (le-leb d 32 g, le-leb (suc n) 10000 h) (counts (omega arith) (omega arith) {m = suc n} (omega arith))
    go (no g) = rw (lt-leb d 32 (omega arith)) (deeper (omega arith))

comes-index : {d n : ℕ} (i : ℕ) {c : Check} → Comes 1 0 0 d n c → Comes 1 0 (suc i) d n (next c (index i))
comes-index {d} {n} i (counts h g {m} e) = go (dec_le i 32)
  where
    go : Dec (i ≤ 32) → Comes 1 0 (suc i) d n (index i m)
    go (yes k) = rw (le-leb i 32 k) (counts h (omega arith) e)
    go (no k) = rw (lt-leb i 32 (omega arith)) (larger (omega arith))
comes-index i (deeper h) = deeper h
comes-index i (larger h) = absurd (omega arith)

-- What stands below a node, one level deeper and counted behind it.
comes-below : {size deep top d n m : ℕ} → m ≡ n + 1 → {c : Check} → Comes size deep top (suc d) m c → Comes (suc size) (suc deep) top d n c
comes-below e (counts g k {m = q} i) = counts (omega arith) k {m = q} (omega arith)
comes-below e (deeper g) = deeper (omega arith)
comes-below e (larger g) = larger g

comes-node : {size deep top d n : ℕ} (k : ℕ → Check) → ((m : ℕ) → m ≡ n + 1 → Comes size deep top (suc d) m (k m)) → {c : Check} → Comes 1 0 0 d n c → Comes (suc size) (suc deep) top d n (next c k)
comes-node k h (counts f g {m} e) = comes-below e (h m e)
comes-node k h (deeper f) = deeper (omega arith)
comes-node k h (larger f) = absurd (omega arith)

module _ (s : Sort) where
  abbrev Checks : Tree s → Type 0
  Checks t = (d n : ℕ) → n + nodes s t ≤ 10000 → Comes (nodes s t) (depth s t) (bound s t) d n (check s t d n)

  -- The second of two parts behind the first.
  comes-both : {d n : ℕ} (x y : Tree s) → n + (nodes s x + nodes s y) ≤ 10000 → Checks y → {c : Check} → Comes (nodes s x) (depth s x) (bound s x) d n c
      → Comes (nodes s x + nodes s y) (max (depth s x) (depth s y)) (max (bound s x) (bound s y)) d n (next c (check s y d))
  comes-both {d} {n} x y f h (counts g k {m} e) = go (h d m (omega arith))
    where
      go : {c : Check} → Comes (nodes s y) (depth s y) (bound s y) d m c → Comes (nodes s x + nodes s y) (max (depth s x) (depth s y)) (max (bound s x) (bound s y)) d n c
      go (counts a b {m = q} i) = counts (omega arith) (omega arith) {m = q} (omega arith)
      go (deeper a) = deeper (omega arith)
      go (larger a) = larger (omega arith)
  comes-both x y f h (deeper g) = deeper (omega arith)
  comes-both x y f h (larger g) = larger (omega arith)

  -- A formula by its size, depth and bound.
  comes-as : {size deep top d n : ℕ} (t : Tree s) {c : Check} → nodes s t ≡ size → depth s t ≡ deep → bound s t ≡ top → check s t d n ≡ c → Comes size deep top d n c
      → Comes (nodes s t) (depth s t) (bound s t) d n (check s t d n)
  comes-as t p q r e h = rw (p, q, r, e) h

  checks : (t : Tree s) → Checks t
  checks =
      tree-ind s Checks
      (record {
        at_leaf = λ b t e d n f.
            let k = made_as s b (leaf t) e in
            comes-as t k.count (depth-as s b (leaf t) e) k.top (check-as s b (leaf t) e d n) (comes-limits d n (omega (arith, k.count)));
        at-lit = λ b i g e d n f.
            let k = made_as s b (lit g) e i in
            comes-as (g i) k.count (depth-as s b (lit g) e i) k.top (check-as s b (lit g) e i d n) (comes-index i (comes-limits d n (omega (arith, k.count))));
        at_one = λ b u x e h d n f.
            let k = made_as s b (one u) e x in
            comes-as (u x) k.count (depth-as s b (one u) e x) k.top (check-as s b (one u) e x d n) (comes-node (check s x (suc d)) (λ m j. h (suc d) m (omega (arith, k.count))) (comes-limits d n (omega (arith, k.count))));
        at-two = λ b v x y e h i d n f.
            let k = made_as s b (two v) e x y in
            comes-as (v x y) k.count (depth-as s b (two v) e x y) k.top (check-as s b (two v) e x y d n) (comes-node (λ m. next (check s x (suc d) m) (check s y (suc d))) (λ m j. comes-both x y (omega (arith, k.count)) i (h (suc d) m (omega (arith, k.count)))) (comes-limits d n (omega (arith, k.count))));
      })

-- The check of an operand that keeps questions 2, 3 and 4, from the root.
module _ (s : Sort) (l : List ℕ) (t : Tree s) (e : operand s l ≡ Ok t) where
  few : nodes s t ≤ 511
  few = (opened-limits s (opened s l t e)).0

  rooted : Comes (nodes s t) (depth s t) (bound s t) 0 0 (check s t 0 0)
  rooted = checks s t 0 0 (omega (arith, few))

  -- The count of 10,000 nodes is never met.
  pub never-many : check s t 0 0 ≡ too_many → ⊥
  never-many i = go rooted i
    where
      go : {c : Check} → Comes (nodes s t) (depth s t) (bound s t) 0 0 c → c ≡ too_many → ⊥
      go (counts a b j) i = let z : ◌≡◌ {A = ℕ} 0 1 = cc in omega arith
      go (deeper a) i = let z : ◌≡◌ {A = ℕ} 0 1 = cc in omega arith
      go (larger a) i = let z : ◌≡◌ {A = ℕ} 0 1 = cc in omega arith

  limited-answered : {c : Check} → Comes (nodes s t) (depth s t) (bound s t) 0 0 c → limited s t ≡ answered c
  limited-answered (counts a b j) = rw (le-leb (bound s t) 33 b, le-leb (depth s t) 32 (omega arith)) (ap Ok (omega arith))
  limited-answered (deeper a) = rw (lt-leb (depth s t) 32 (omega arith), and-false)
  limited-answered (larger a) = rw (lt-leb (bound s t) 33 a)

  -- What is answered is what the producer's check comes to.
  pub counted-check : counted s l ≡ answered (check s t 0 0)
  counted-check = ap (of_one (limited s)) e ∙ limited-answered rooted
