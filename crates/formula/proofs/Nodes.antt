-- What a kind byte says of the formulas that begin with it, and induction over the formulas of a sort by their kind bytes.
use Prim.Native.Nat.{ℕ, zero, suc, ◌+◌, ◌-◌, ◌*◌, ◌≤◌, max}
use native.Mathlib.Omega.{arith}
use mathlib.Core.Path.{◌≡◌, refl, sym, subst, ap}
use mathlib.Core.Bool.{Bool, true, false}
use mathlib.Core.List.{List, [], ◌∷◌, ◌++◌}
use lib.Dec.{ltb}
use lib.ListN.{length, length-append}
use borrow.Author.Tests.{ltb-false}
use Rattle.formula.specs.Formula.{lo, hi, end_of, Face, ff, ft, at, fand, for, Interval, i0, i1, dim, neg, meet, join}
use Rattle.formula.specs.Bytes.{Tree, dim_bytes, encode, encode_face, encode_interval, Node, leaf, lit, one, two, bad, face_node, from16, interval_node, node_of, nodes, nodes_face, nodes_interval, bound, bound_face, bound_interval}
use Rattle.formula.specs.declared.Sort.{Sort}
use Rattle.formula.specs.declared.Sort.TheVariants.{Faces, Intervals}

-- 2 plus the side is the kind byte of a literal.
pub literal-kind : {side b : ℕ} → side ≤ 1 → b ≡ 2 + side → (n : ℕ) → encode_face (at (end_of side) n) ≡ b ∷ dim_bytes n
unfolding encode_face
literal-kind {side = zero} h e n = ap (λ (k : ℕ). k ∷ dim_bytes n) (sym e)
literal-kind {side = suc zero} h e n = ap (λ (k : ℕ). k ∷ dim_bytes n) (sym e)
literal-kind {side = suc (suc s)} h e n = absurd (omega arith)

-- The bytes, the node count and the bound of a formula that begins with the byte b.
pub record Made (s : Sort) (t : Tree s) (l : List ℕ) (n d : ℕ) : Type 0 where
  pub bytes : encode s t ≡ l
  pub count : nodes s t ≡ n
  pub top : bound s t ≡ d

abbrev pub Makes : (s : Sort) → ℕ → Node (Tree s) → Type 0
Makes s b (leaf t) = Made s t (b ∷ []) 1 0
Makes s b (lit g) = (n : ℕ) → Made s (g n) (b ∷ dim_bytes n) 1 (suc n)
Makes s b (one u) = (x : Tree s) → Made s (u x) (b ∷ encode s x) (suc (nodes s x)) (bound s x)
Makes s b (two v) = (x y : Tree s) → Made s (v x y) (b ∷ encode s x ++ encode s y) (suc (nodes s x + nodes s y)) (max (bound s x) (bound s y))
Makes s b bad = Unit {0}

-- What holds at the six kind bytes of a sort, and wherever there is no node, holds at every byte.
pub record Each (s : Sort) (P : ℕ → Node (Tree s) → Type 0) (base : ℕ) (n0 n1 n2 n3 n4 n5 : Node (Tree s)) : Type 0 where
  pub at0 : P base n0
  pub at1 : P (base + 1) n1
  pub at2 : P (base + 2) n2
  pub at3 : P (base + 3) n3
  pub at4 : P (base + 4) n4
  pub at5 : P (base + 5) n5
  pub none : (b : ℕ) → P b bad

abbrev pub EachNode : (s : Sort) → (ℕ → Node (Tree s) → Type 0) → Type 0
EachNode Faces P = Each Faces P 0 (leaf ff) (leaf ft) (lit (at lo)) (lit (at hi)) (two fand) (two for)
EachNode Intervals P = Each Intervals P 16 (leaf i0) (leaf i1) (lit dim) (one neg) (two meet) (two join)

each-face : (P : ℕ → Node Face → Type 0) → EachNode Faces P → (b : ℕ) → P b (face_node b)
each-face P h zero = h.at0
each-face P h (suc zero) = h.at1
each-face P h (suc (suc zero)) = h.at2
each-face P h (suc (suc (suc zero))) = h.at3
each-face P h (suc (suc (suc (suc zero)))) = h.at4
each-face P h (suc (suc (suc (suc (suc zero))))) = h.at5
each-face P h (suc (suc (suc (suc (suc (suc n)))))) = h.none (suc (suc (suc (suc (suc (suc n))))))

each-interval : (P : ℕ → Node Interval → Type 0) → EachNode Intervals P → (j : ℕ) → P (16 + j) (interval_node j)
each-interval P h zero = h.at0
each-interval P h (suc zero) = h.at1
each-interval P h (suc (suc zero)) = h.at2
each-interval P h (suc (suc (suc zero))) = h.at3
each-interval P h (suc (suc (suc (suc zero)))) = h.at4
each-interval P h (suc (suc (suc (suc (suc zero))))) = h.at5
each-interval P h (suc (suc (suc (suc (suc (suc n)))))) = h.none (16 + suc (suc (suc (suc (suc (suc n))))))

each-from16 : (P : ℕ → Node Interval → Type 0) → EachNode Intervals P → (b : ℕ) (t : Bool) → ltb b 16 ≡ t → P b (from16 t b)
each-from16 P h b true e = h.none b
each-from16 P h b false e =
    let g = ltb-false b 16 e in
    let p : 16 + (b - 16) ≡ b = omega arith in
    subst (λ (x : ℕ). P x (interval_node (b - 16))) p (each-interval P h (b - 16))

pub each-node : (s : Sort) (P : ℕ → Node (Tree s) → Type 0) → EachNode s P → (b : ℕ) → P b (node_of s b)
unfolding node_of
each-node Faces P h b = each-face P h b
each-node Intervals P h b = each-from16 P h b (ltb b 16) refl

made-face : EachNode Faces (Makes Faces)
unfolding encode_face nodes_face bound_face
made-face =
    record {
      at0 = record { bytes = refl; count = refl; top = refl };
      at1 = record { bytes = refl; count = refl; top = refl };
      at2 = λ n. record { bytes = refl; count = refl; top = refl };
      at3 = λ n. record { bytes = refl; count = refl; top = refl };
      at4 = λ x y. record { bytes = refl; count = refl; top = refl };
      at5 = λ x y. record { bytes = refl; count = refl; top = refl };
      none = λ b. tt;
    }

made-interval : EachNode Intervals (Makes Intervals)
unfolding encode_interval nodes_interval bound_interval
made-interval =
    record {
      at0 = record { bytes = refl; count = refl; top = refl };
      at1 = record { bytes = refl; count = refl; top = refl };
      at2 = λ n. record { bytes = refl; count = refl; top = refl };
      at3 = λ x. record { bytes = refl; count = refl; top = refl };
      at4 = λ x y. record { bytes = refl; count = refl; top = refl };
      at5 = λ x y. record { bytes = refl; count = refl; top = refl };
      none = λ b. tt;
    }

pub made : (s : Sort) (b : ℕ) → Makes s b (node_of s b)
made Faces b = each-node Faces (Makes Faces) made-face b
made Intervals b = each-node Intervals (Makes Intervals) made-interval b

-- the same, where the node is known
pub made_as : (s : Sort) (b : ℕ) (k : Node (Tree s)) → node_of s b ≡ k → Makes s b k
made_as s b k e = subst (Makes s b) e (made s b)

-- Induction over the formulas of a sort.
pub record Steps (s : Sort) (P : Tree s → Type 0) : Type 0 where
  pub at_leaf : (b : ℕ) (t : Tree s) → node_of s b ≡ leaf t → P t
  pub at-lit : (b n : ℕ) (g : ℕ → Tree s) → node_of s b ≡ lit g → P (g n)
  pub at_one : (b : ℕ) (u : Tree s → Tree s) (x : Tree s) → node_of s b ≡ one u → P x → P (u x)
  pub at-two : (b : ℕ) (v : Tree s → Tree s → Tree s) (x y : Tree s) → node_of s b ≡ two v → P x → P y → P (v x y)

face-ind : (P : Face → Type 0) → Steps Faces P → (f : Face) → P f
unfolding node_of
face-ind P h ff = h.at_leaf 0 ff refl
face-ind P h ft = h.at_leaf 1 ft refl
face-ind P h (at lo n) = h.at-lit 2 n (at lo) refl
face-ind P h (at hi n) = h.at-lit 3 n (at hi) refl
face-ind P h (fand a b) = h.at-two 4 fand a b refl (face-ind P h a) (face-ind P h b)
face-ind P h (for a b) = h.at-two 5 for a b refl (face-ind P h a) (face-ind P h b)

interval-ind : (P : Interval → Type 0) → Steps Intervals P → (r : Interval) → P r
unfolding node_of
interval-ind P h i0 = h.at_leaf 16 i0 refl
interval-ind P h i1 = h.at_leaf 17 i1 refl
interval-ind P h (dim n) = h.at-lit 18 n dim refl
interval-ind P h (neg r) = h.at_one 19 neg r refl (interval-ind P h r)
interval-ind P h (meet r s) = h.at-two 20 meet r s refl (interval-ind P h r) (interval-ind P h s)
interval-ind P h (join r s) = h.at-two 21 join r s refl (interval-ind P h r) (interval-ind P h s)

pub tree-ind : (s : Sort) (P : Tree s → Type 0) → Steps s P → (t : Tree s) → P t
tree-ind Faces P h t = face-ind P h t
tree-ind Intervals P h t = interval-ind P h t

-- A formula has at most two bytes a node.
pub len_short : (s : Sort) (t : Tree s) → length (encode s t) ≤ 2 * nodes s t
len_short s =
    tree-ind s (λ t. length (encode s t) ≤ 2 * nodes s t)
    (record {
      at_leaf = λ b t e. let k = made_as s b (leaf t) e in omega (arith, ap length k.bytes, k.count);
      at-lit = λ b n g e. let k = made_as s b (lit g) e n in omega (arith, ap length k.bytes, k.count);
      at_one = λ b u x e h. let k = made_as s b (one u) e x in omega (arith, ap length k.bytes, k.count);
      at-two = λ b v x y e h i. let k = made_as s b (two v) e x y in omega (arith, ap length k.bytes, length-append (encode s x) (encode s y), k.count);
    })
