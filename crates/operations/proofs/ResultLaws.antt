-- The results of the operations by the tokens of their operands: their sizes and their bytes.
use Rattle.std.specs.Prelude.{Option, Some, None}
use Prim.Native.Nat.{ℕ, pred, ◌≤◌, compare, Ordering}
use native.Mathlib.Omega.{arith}
use mathlib.Core.Path.{◌≡◌, refl, sym, ap, ap₂, ◌∙◌, subst}
use mathlib.Core.List.{List, [], ◌∷◌, ◌++◌, append-nil}
use lib.Dec.{eqb}
use lib.ListN.{length, length-append}
use Rattle.formula.specs.Formula.{End, lo, hi, ff, at, fand, for, Interval, i0, i1, dim, neg, meet, join, beside}
use Rattle.formula.specs.Operations.{boundary, forall, Op, shift, subst as substitute, dim_to, itransform, ftransform, transform}
use Rattle.formula.specs.Bytes.{Tree, encode, encode_face, Node, leaf, lit, one, two, bad, node_of, nodes_face, nodes_interval, bound_face, bound_interval}
use Rattle.formula.specs.Answers.{pick, size_of, kind_of}
use Rattle.passes.specs.Rewriting.{Token, plain, literal, tokens, tokens_interval, moved_to, ◌⊕◌, zero_size, plain_size, weighs, plain_weight, moved_weight, weight_of, spell, moved_bytes, image_of, AllTokens, Fielded, FieldedAt}
use Rattle.formula.specs.declared.Sort.{Sort}
use Rattle.formula.specs.declared.Sort.TheVariants.{Faces, Intervals}
use Rattle.formula.specs.declared.Size.{Size}
use Rattle.formula.specs.declared.Kind.{Kind}
use Rattle.passes.specs.declared.Rule.{Rule}
use Rattle.passes.specs.declared.Rule.TheVariants.{Up, Down, Ends}
use Rattle.formula.proofs.Nodes.{made_as, EachNode, each-node, tree-ind}
use Rattle.passes.proofs.TokenLaws.{tokens-as, spell-append}
use Rattle.passes.proofs.PassLaws.{size-eq, sum-assoc}

-- sizes by nodes
module _ (s : Sort) (b : ℕ) where
  size-leaf : (t : Tree s) → node_of s b ≡ leaf t → size_of s t ≡ plain_size
  size-leaf t e = let k = made_as s b (leaf t) e in size-eq (ap length k.bytes) k.count k.top

  size_lit : (g : ℕ → Tree s) → node_of s b ≡ lit g → (n : ℕ) → size_of s (g n) ≡ moved_weight (Some n) zero_size
  size_lit g e n = let k = made_as s b (lit g) e n in size-eq (ap length k.bytes) k.count (omega (arith, k.top))

  size-one : (u : Tree s → Tree s) → node_of s b ≡ one u → (x : Tree s) → size_of s (u x) ≡ plain_size ⊕ size_of s x
  size-one u e x = let k = made_as s b (one u) e x in size-eq (omega (arith, ap length k.bytes)) (omega (arith, k.count)) (omega (arith, k.top))

  size-two : (v : Tree s → Tree s → Tree s) → node_of s b ≡ two v → (x y : Tree s) → size_of s (v x y) ≡ plain_size ⊕ size_of s x ⊕ size_of s y
  size-two v e x y =
      let k = made_as s b (two v) e x y in
      size-eq (omega (arith, ap length k.bytes, length-append (encode s x) (encode s y))) (omega (arith, k.count)) (omega (arith, k.top))

weighs-append : (f : Token → Size) (ts us : List Token) → weighs f (ts ++ us) ≡ weighs f ts ⊕ weighs f us
unfolding weighs
weighs-append f [] us = size-eq (omega arith) (omega arith) (omega arith)
weighs-append f (t ∷ ts) us = ap (λ (z : Size). f t ⊕ z) (weighs-append f ts us) ∙ sym (sum-assoc (f t) (weighs f ts) (weighs f us))

-- the formula that a literal becomes
abbrev pub moved_tree : {A : Type 0} → (ℕ → A) → Option ℕ → A → A
moved_tree g (Some m) h = g m
moved_tree g None h = h

-- An operation that keeps every node but the literals, and moves or replaces those by the rule.
abbrev pub PassAt : (s : Sort) → (Tree s → Tree s) → Rule → (ℕ → Tree s) → ℕ → Node (Tree s) → Type 0
PassAt s m rule hits b (leaf t) = m t ≡ t
PassAt s m rule hits b (lit g) = (n : ℕ) → m (g n) ≡ moved_tree g (moved_to rule n) (hits b)
PassAt s m rule hits b (one u) = (x : Tree s) → m (u x) ≡ u (m x)
PassAt s m rule hits b (two v) = (x y : Tree s) → m (v x y) ≡ v (m x) (m y)
PassAt s m rule hits b bad = Unit {0}

pub record Pass (s : Sort) (m : Tree s → Tree s) (rule : Rule) (hits : ℕ → Tree s) : Type 0 where
  pub each : EachNode s (PassAt s m rule hits)
  pub plains : (k : Kind) → plain_weight rule k ≡ plain_size

module _ (s : Sort) (m : Tree s → Tree s) (rule : Rule) (hits : ℕ → Tree s) (p : Pass s m rule hits) where
  pass-as : (b : ℕ) (k : Node (Tree s)) → node_of s b ≡ k → PassAt s m rule hits b k
  pass-as b k e = subst (PassAt s m rule hits b) e (each-node s (PassAt s m rule hits) p.each b)

  module _ (hit : Size) (sized : (b : ℕ) → size_of s (hits b) ≡ hit) where
    abbrev f : Token → Size
    f = weight_of s rule hit

    moved-size : (b : ℕ) (g : ℕ → Tree s) → node_of s b ≡ lit g → (x : Option ℕ) → size_of s (moved_tree g x (hits b)) ≡ moved_weight x hit
    moved-size b g e (Some n) = size_lit s b g e n
    moved-size b g e None = sized b

    abbrev Weighs : Tree s → Type 0
    Weighs t = size_of s (m t) ≡ weighs f (tokens s t)

    -- the size of the result is what the operand's tokens weigh
    pub pass-size : (t : Tree s) → Weighs t
    unfolding weighs
    pass-size =
        tree-ind s Weighs
        (record {
          at_leaf = λ b t e.
              rw ((tokens-as s b (leaf t) e).listed, p.plains (kind_of s b), pass-as b (leaf t) e, size-leaf s b t e)
              (size-eq (omega arith) (omega arith) (omega arith));
          at-lit = λ b n g e.
              rw ((tokens-as s b (lit g) e n).listed, pass-as b (lit g) e n, moved-size b g e (moved_to rule n))
              (size-eq (omega arith) (omega arith) (omega arith));
          at_one = λ b u x e h.
              rw ((tokens-as s b (one u) e x).listed, p.plains (kind_of s b), pass-as b (one u) e x, size-one s b u e (m x))
              (ap (λ (z : Size). plain_size ⊕ z) h);
          at-two = λ b v x y e h i.
              rw ((tokens-as s b (two v) e x y).listed, p.plains (kind_of s b), pass-as b (two v) e x y, size-two s b v e (m x) (m y), weighs-append f (tokens s x) (tokens s y))
              (ap₂ (λ (z w : Size). plain_size ⊕ z ⊕ w) h i);
        })

  module _ (x y : List ℕ) (bytes : (b : ℕ) → encode s (hits b) ≡ pick (eqb b 3) y x) where
    abbrev img : Token → List ℕ
    img = image_of rule x y

    moved-bytes : (b : ℕ) (g : ℕ → Tree s) → node_of s b ≡ lit g → (z : Option ℕ) → encode s (moved_tree g z (hits b)) ≡ moved_bytes b z x y
    moved-bytes b g e (Some n) = (made_as s b (lit g) e n).bytes
    moved-bytes b g e None = bytes b

    abbrev Spells : Tree s → Type 0
    Spells t = encode s (m t) ≡ spell img (tokens s t)

    -- the bytes of the result are what the operand's tokens become
    pub pass-bytes : (t : Tree s) → Spells t
    unfolding spell
    pass-bytes =
        tree-ind s Spells
        (record {
          at_leaf = λ b t e. rw ((tokens-as s b (leaf t) e).listed, pass-as b (leaf t) e) (made_as s b (leaf t) e).bytes;
          at-lit = λ b n g e.
              rw ((tokens-as s b (lit g) e n).listed, pass-as b (lit g) e n) (moved-bytes b g e (moved_to rule n) ∙ sym (append-nil (moved_bytes b (moved_to rule n) x y)));
          at_one = λ b u r e h. rw ((tokens-as s b (one u) e r).listed, pass-as b (one u) e r) ((made_as s b (one u) e (m r)).bytes ∙ ap (λ (l : List ℕ). b ∷ l) h);
          at-two = λ b v r q e h i.
              rw ((tokens-as s b (two v) e r q).listed, pass-as b (two v) e r q, spell-append img (tokens s r) (tokens s q))
              ((made_as s b (two v) e (m r) (m q)).bytes ∙ ap₂ (λ (l k : List ℕ). b ∷ l ++ k) h i);
        })

-- a rule for the literals of an operation on dimensions
abbrev pub rule_of : Op → Rule
rule_of (shift k) = Up k
rule_of (substitute k r) = Down k

abbrev pub replacement : Op → Interval
replacement (shift k) = i0
replacement (substitute k r) = r

abbrev pub side_of : ℕ → End
side_of b = pick (eqb b 3) hi lo

abbrev pub hits_of : (s : Sort) → Interval → ℕ → Tree s
hits_of Faces r b = boundary (side_of b) r
hits_of Intervals r b = r

rule-plains : (o : Op) (k : Kind) → plain_weight (rule_of o) k ≡ plain_size
rule-plains (shift n) k = refl
rule-plains (substitute n r) k = refl

forall-lit : (k : ℕ) (e : End) (n : ℕ) → forall k (at e n) ≡ moved_tree (at e) (moved_to (Down k) n) ff
unfolding forall
forall-lit k e n = go (compare n k)
  where
    go : (o : Ordering) → beside o (at e n) ff (at e (pred n)) ≡ moved_tree (at e) (beside o (Some n) None (Some (pred n))) ff
    go Ordering.lt = refl
    go Ordering.eq = refl
    go Ordering.gt = refl

dim-lit : (o : Op) (n : ℕ) → dim_to o n ≡ moved_tree dim (moved_to (rule_of o) n) (replacement o)
dim-lit (shift k) n = refl
dim-lit (substitute k r) n = go (compare n k)
  where
    go : (o : Ordering) → beside o (dim n) r (dim (pred n)) ≡ moved_tree dim (beside o (Some n) None (Some (pred n))) r
    go Ordering.lt = refl
    go Ordering.eq = refl
    go Ordering.gt = refl

boundary-moved : (e : End) (x : Option ℕ) (r : Interval) → boundary e (moved_tree dim x r) ≡ moved_tree (at e) x (boundary e r)
unfolding boundary
boundary-moved e (Some n) r = refl
boundary-moved e None r = refl

-- ∀k passes over its operand, each literal on k becoming ff.
pub forall-pass : (k : ℕ) → Pass Faces (forall k) (Down k) (λ b. ff)
unfolding forall
forall-pass k =
    record {
      each =
          record {
            at0 = refl;
            at1 = refl;
            at2 = forall-lit k lo;
            at3 = forall-lit k hi;
            at4 = λ x y. refl;
            at5 = λ x y. refl;
            none = λ b. tt;
          };
      plains = λ x. refl;
    }

-- So do shift and substitution, each literal on k becoming the replacement, or its boundary.
pub transform-pass : (s : Sort) (o : Op) → Pass s (transform s o) (rule_of o) (hits_of s (replacement o))
unfolding ftransform itransform
transform-pass Faces o =
    record {
      each =
          record {
            at0 = refl;
            at1 = refl;
            at2 = λ n. ap (boundary lo) (dim-lit o n) ∙ boundary-moved lo (moved_to (rule_of o) n) (replacement o);
            at3 = λ n. ap (boundary hi) (dim-lit o n) ∙ boundary-moved hi (moved_to (rule_of o) n) (replacement o);
            at4 = λ x y. refl;
            at5 = λ x y. refl;
            none = λ b. tt;
          };
      plains = rule-plains o;
    }
transform-pass Intervals o =
    record {
      each =
          record {
            at0 = refl;
            at1 = refl;
            at2 = dim-lit o;
            at3 = λ x. refl;
            at4 = λ x y. refl;
            at5 = λ x y. refl;
            none = λ b. tt;
          };
      plains = rule-plains o;
    }

-- The boundary of an expression weighs what its tokens do, whichever the end.
abbrev ends_of : Token → Size
ends_of = weight_of Intervals Ends zero_size

ends-pair : (r s : Interval) (z w : Size) → z ≡ weighs ends_of (tokens_interval r) → w ≡ weighs ends_of (tokens_interval s) → plain_size ⊕ z ⊕ w ≡ plain_size ⊕ weighs ends_of (tokens_interval r ++ tokens_interval s)
ends-pair r s z w p q = ap (λ (x : Size). plain_size ⊕ x) (ap₂ ◌⊕◌ p q ∙ sym (weighs-append ends_of (tokens_interval r) (tokens_interval s)))

pub boundary-weighs : (e : End) (r : Interval) → size_of Faces (boundary e r) ≡ weighs ends_of (tokens_interval r)
unfolding boundary tokens_interval weighs kind_of node_of encode_face nodes_face bound_face
boundary-weighs lo i0 = refl
boundary-weighs hi i0 = refl
boundary-weighs lo i1 = refl
boundary-weighs hi i1 = refl
boundary-weighs lo (dim n) = size-eq refl refl (omega arith)
boundary-weighs hi (dim n) = size-eq refl refl (omega arith)
boundary-weighs lo (neg r) = boundary-weighs hi r ∙ size-eq (omega arith) (omega arith) (omega arith)
boundary-weighs hi (neg r) = boundary-weighs lo r ∙ size-eq (omega arith) (omega arith) (omega arith)
boundary-weighs lo (meet r s) = size-two Faces 5 for refl (boundary lo r) (boundary lo s) ∙ ends-pair r s (size_of Faces (boundary lo r)) (size_of Faces (boundary lo s)) (boundary-weighs lo r) (boundary-weighs lo s)
boundary-weighs hi (meet r s) = size-two Faces 4 fand refl (boundary hi r) (boundary hi s) ∙ ends-pair r s (size_of Faces (boundary hi r)) (size_of Faces (boundary hi s)) (boundary-weighs hi r) (boundary-weighs hi s)
boundary-weighs lo (join r s) = size-two Faces 4 fand refl (boundary lo r) (boundary lo s) ∙ ends-pair r s (size_of Faces (boundary lo r)) (size_of Faces (boundary lo s)) (boundary-weighs lo r) (boundary-weighs lo s)
boundary-weighs hi (join r s) = size-two Faces 5 for refl (boundary hi r) (boundary hi s) ∙ ends-pair r s (size_of Faces (boundary hi r)) (size_of Faces (boundary hi s)) (boundary-weighs hi r) (boundary-weighs hi s)

-- The two faces of a boundary are of one size.
pub boundary-sizes : (e d : End) (r : Interval) → size_of Faces (boundary e r) ≡ size_of Faces (boundary d r)
boundary-sizes e d r = boundary-weighs e r ∙ sym (boundary-weighs d r)

-- A boundary is no larger than its expression, so it keeps the limits where the expression does.
pub record Smaller (z w : Size) : Type 0 where
  pub nodes : z.nodes ≤ w.nodes
  pub bound : z.bound ≤ w.bound

pub boundary-smaller : (e : End) (r : Interval) → Smaller (size_of Faces (boundary e r)) (size_of Intervals r)
unfolding boundary nodes_face nodes_interval bound_face bound_interval
boundary-smaller lo i0 = record { nodes = omega arith; bound = omega arith }
boundary-smaller hi i0 = record { nodes = omega arith; bound = omega arith }
boundary-smaller lo i1 = record { nodes = omega arith; bound = omega arith }
boundary-smaller hi i1 = record { nodes = omega arith; bound = omega arith }
boundary-smaller e (dim n) = record { nodes = omega arith; bound = omega arith }
boundary-smaller lo (neg r) = let h = boundary-smaller hi r in record { nodes = omega arith; bound = h.bound }
boundary-smaller hi (neg r) = let h = boundary-smaller lo r in record { nodes = omega arith; bound = h.bound }
boundary-smaller lo (meet r s) = let h = boundary-smaller lo r in let g = boundary-smaller lo s in record { nodes = omega arith; bound = omega arith }
boundary-smaller hi (meet r s) = let h = boundary-smaller hi r in let g = boundary-smaller hi s in record { nodes = omega arith; bound = omega arith }
boundary-smaller lo (join r s) = let h = boundary-smaller lo r in let g = boundary-smaller lo s in record { nodes = omega arith; bound = omega arith }
boundary-smaller hi (join r s) = let h = boundary-smaller hi r in let g = boundary-smaller hi s in record { nodes = omega arith; bound = omega arith }

-- Where a result's bound is within the limits, every dimension of it has a field.
pub bound-fields : (s : Sort) (rule : Rule) (hit : Size) (ts : List Token) → (weighs (weight_of s rule hit) ts).bound ≤ 255 → AllTokens (FieldedAt rule) ts
unfolding weighs
bound-fields s rule hit [] h = tt
bound-fields s rule hit (plain b ∷ ts) h = (tt, bound-fields s rule hit ts (omega arith))
bound-fields s rule hit (literal b n ∷ ts) h = (go (moved_to rule n) (omega arith), bound-fields s rule hit ts (omega arith))
  where
    go : (x : Option ℕ) → (moved_weight x hit).bound ≤ 255 → Fielded x
    go (Some m) g = omega arith
    go None g = tt
