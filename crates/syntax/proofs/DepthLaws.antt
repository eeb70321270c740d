-- The depth of a formula by a pass over its tokens.
use Prim.Native.Nat.{ℕ, suc, ◌+◌, ◌≤◌, ◌<◌, max}
use native.Mathlib.Omega.{arith}
use native.Mathlib.Nat.{zero-add}
use mathlib.Core.Path.{◌≡◌, refl, sym, ap, ap₂, ◌∙◌, subst}
use mathlib.Core.Bool.{Bool, true, false, ◌&&◌, and-true, and-false}
use mathlib.Core.List.{List, [], ◌∷◌, ◌++◌, append_assoc, append-nil}
use lib.Dec.{leb}
use lib.ListN.{length, get_or}
use borrow.Author.Tests.{leb-true, leb-false, le-leb, lt-leb}
use Rattle.formula.specs.Bytes.{Tree, Node, leaf, lit, one, two, bad, node_of, nodes}
use Rattle.formula.specs.Answers.{kind_of, tree_of, step_of}
use Rattle.formula.specs.declared.Sort.{Sort}
use Rattle.formula.specs.declared.Sort.TheVariants.{Faces, Intervals}
use Rattle.formula.specs.declared.Kind.{Kind}
use Rattle.formula.specs.declared.Kind.TheVariants.{Nullary, Literal, Unary, Binary, Unknown}
use Rattle.formula.specs.declared.Place.{Place}
use Rattle.formula.specs.declared.Advance.{Advance}
use Rattle.formula.specs.declared.Advance.TheVariants.{Leaf, Lit, One, Two, Stuck}
use Rattle.formula.proofs.Nodes.{each-node, tree-ind, made_as}
use Rattle.passes.specs.Rewriting.{Whole, Token, plain, literal, tokens, tokens_of}
use Rattle.passes.specs.Stepping.{kind_over, token_over, place_by, pending_by}
use Rattle.passes.proofs.TokenLaws.{tokens-as, row_tokens, Rest, Stepped, rest-start, row-start, rest_end, rest-step}
use Rattle.syntax.specs.Syntax.{depth, depth_face, depth_interval, max_depth}
use Rattle.syntax.specs.Depths.{onward, word, waiting, Above, Held, ended, next, Onward}
use Rattle.syntax.proofs.WordLaws.{few_bits, many-bits}

-- The depth of a formula by its node.
abbrev pub DepthAt : (s : Sort) → ℕ → Node (Tree s) → Type 0
DepthAt s b (leaf t) = depth s t ≡ 0
DepthAt s b (lit g) = (n : ℕ) → depth s (g n) ≡ 0
DepthAt s b (one u) = (x : Tree s) → depth s (u x) ≡ suc (depth s x)
DepthAt s b (two v) = (x y : Tree s) → depth s (v x y) ≡ suc (max (depth s x) (depth s y))
DepthAt s b bad = Unit {0}

depth-at : (s : Sort) (b : ℕ) → DepthAt s b (node_of s b)
unfolding depth_face depth_interval
depth-at Faces b = each-node Faces (DepthAt Faces) (record { at0 = refl; at1 = refl; at2 = λ n. refl; at3 = λ n. refl; at4 = λ x y. refl; at5 = λ x y. refl; none = λ c. tt }) b
depth-at Intervals b = each-node Intervals (DepthAt Intervals) (record { at0 = refl; at1 = refl; at2 = λ n. refl; at3 = λ x. refl; at4 = λ x y. refl; at5 = λ x y. refl; none = λ c. tt }) b

pub depth-as : (s : Sort) (b : ℕ) (k : Node (Tree s)) → node_of s b ≡ k → DepthAt s b k
depth-as s b k e = subst (DepthAt s b) e (depth-at s b)

-- Above its deepest node a formula has other nodes only.
pub depth_low : (s : Sort) (t : Tree s) → depth s t < nodes s t
depth_low s =
    tree-ind s (λ t. depth s t < nodes s t)
    (record {
      at_leaf = λ b t e. omega (arith, depth-as s b (leaf t) e, (made_as s b (leaf t) e).count);
      at-lit = λ b n g e. omega (arith, depth-as s b (lit g) e n, (made_as s b (lit g) e n).count);
      at_one = λ b u x e h. omega (arith, depth-as s b (one u) e x, (made_as s b (one u) e x).count);
      at-two = λ b v x y e h i. omega (arith, depth-as s b (two v) e x y, (made_as s b (two v) e x y).count);
    })

-- A node is within a limit where its parts, one level deeper, are.
limit-one : (m d x : ℕ) (r : Bool) → (leb d m && (leb (suc d + x) m && r)) ≡ (leb (d + suc x) m && r)
limit-one m d x r = go (leb (suc d + x) m) refl
  where
    go : (t : Bool) → leb (suc d + x) m ≡ t → (leb d m && (t && r)) ≡ (leb (d + suc x) m && r)
    go true e = let h = leb-true (suc d + x) m e in rw (le-leb d m (omega arith), le-leb (d + suc x) m (omega arith))
    go false e = let h = leb-false (suc d + x) m e in rw (lt-leb (d + suc x) m (omega arith)) (and-false (leb d m))

limit-both : (m d x y : ℕ) (r : Bool) → (leb (d + x) m && (leb (d + y) m && r)) ≡ (leb (d + max x y) m && r)
limit-both m d x y r = go (leb (d + x) m) (leb (d + y) m) refl refl
  where
    go : (t u : Bool) → leb (d + x) m ≡ t → leb (d + y) m ≡ u → (t && (u && r)) ≡ (leb (d + max x y) m && r)
    go true true e f = let h = leb-true (d + x) m e in let g = leb-true (d + y) m f in rw (le-leb (d + max x y) m (omega arith))
    go true false e f = let g = leb-false (d + y) m f in rw (lt-leb (d + max x y) m (omega arith))
    go false u e f = let h = leb-false (d + x) m e in rw (lt-leb (d + max x y) m (omega arith))

-- The kind of a token.
abbrev pub kind_at : Sort → Token → Kind
kind_at s (plain b) = kind_of s b
kind_at s (literal b n) = Literal

-- Is no node deeper than the limit, of formulas at these depths?
pub shallow_at : Sort → List Token → List ℕ → Bool
shallow_at s [] ds = true
shallow_at s (t ∷ ts) [] = true
shallow_at s (t ∷ ts) (d ∷ ds) = leb d max_depth && shallow_at s ts (onward (kind_at s t) d ds)

module _ (s : Sort) where
  -- A formula at depth d in front of others.
  abbrev Shallow : Tree s → Type 0
  Shallow t = (ts : List Token) (d : ℕ) (ds : List ℕ) → shallow_at s (tokens s t ++ ts) (d ∷ ds) ≡ (leb (d + depth s t) max_depth && shallow_at s ts ds)

  -- its first token, whose kind is known
  first : (t : Tree s) (b : ℕ) (k : Kind) (us : List Token) → tokens s t ≡ plain b ∷ us → kind_of s b ≡ k → (ts : List Token) (d : ℕ) (ds : List ℕ)
      → shallow_at s (tokens s t ++ ts) (d ∷ ds) ≡ (leb d max_depth && shallow_at s (us ++ ts) (onward k d ds))
  unfolding shallow_at
  first t b k us e f ts d ds = ap (λ (x : List Token). shallow_at s (x ++ ts) (d ∷ ds)) e ∙ ap (λ (j : Kind). leb d max_depth && shallow_at s (us ++ ts) (onward j d ds)) f

  at_top : (t : Tree s) → depth s t ≡ 0 → (d : ℕ) (r : Bool) → (leb d max_depth && r) ≡ (leb (d + depth s t) max_depth && r)
  at_top t e d r = let h : d ≡ d + depth s t = omega (arith, e) in ap (λ (n : ℕ). leb n max_depth && r) h

  shallow-tokens : (t : Tree s) → Shallow t
  unfolding shallow_at
  shallow-tokens =
      tree-ind s Shallow
      (record {
        at_leaf = λ b t e ts d ds.
            let k = tokens-as s b (leaf t) e in
            first t b Nullary [] k.listed k.kind ts d ds ∙ at_top t (depth-as s b (leaf t) e) d (shallow_at s ts ds);
        at-lit = λ b n g e ts d ds.
            let k = tokens-as s b (lit g) e n in
            ap (λ (x : List Token). shallow_at s (x ++ ts) (d ∷ ds)) k.listed ∙ at_top (g n) (depth-as s b (lit g) e n) d (shallow_at s ts ds);
        at_one = λ b u x e h ts d ds.
            let k = tokens-as s b (one u) e x in
            first (u x) b Unary (tokens s x) k.listed k.kind ts d ds
            ∙ ap (λ (z : Bool). leb d max_depth && z) (h ts (suc d) ds)
            ∙ limit-one max_depth d (depth s x) (shallow_at s ts ds)
            ∙ ap (λ (n : ℕ). leb (d + n) max_depth && shallow_at s ts ds) (sym (depth-as s b (one u) e x));
        at-two = λ b v x y e h i ts d ds.
            let k = tokens-as s b (two v) e x y in
            first (v x y) b Binary (tokens s x ++ tokens s y) k.listed k.kind ts d ds
            ∙ ap (λ (us : List Token). leb d max_depth && shallow_at s us (suc d ∷ suc d ∷ ds)) (append_assoc (tokens s x) (tokens s y) ts)
            ∙ ap (λ (z : Bool). leb d max_depth && z) (h (tokens s y ++ ts) (suc d) (suc d ∷ ds) ∙ ap (λ (z : Bool). leb (suc d + depth s x) max_depth && z) (i ts (suc d) ds) ∙ limit-both max_depth (suc d) (depth s x) (depth s y) (shallow_at s ts ds))
            ∙ limit-one max_depth d (max (depth s x) (depth s y)) (shallow_at s ts ds)
            ∙ ap (λ (n : ℕ). leb (d + n) max_depth && shallow_at s ts ds) (sym (depth-as s b (two v) e x y));
      })

-- The kind of a token is that of the step over it.
kind-over : (s : Sort) (b : ℕ) (x : Advance) → kind_of s b ≡ kind_over x → kind_at s (token_over b x) ≡ kind_over x
kind-over s b (Leaf q) e = e
kind-over s b (Lit q n) e = refl
kind-over s b (One q) e = e
kind-over s b (Two q) e = e
kind-over s b Stuck e = e

-- As many depths are to come as formulas.
count-onward : (k : Kind) (d : ℕ) (ds : List ℕ) → pending_by k (suc (length ds)) ≡ length (onward k d ds)
count-onward Nullary d ds = omega arith
count-onward Literal d ds = omega arith
count-onward Unary d ds = refl
count-onward Binary d ds = omega arith
count-onward Unknown d ds = omega arith

-- The pass up to a place, w having the nodes above: what is left is as shallow as the whole.
pub record Deepening (s : Sort) (l : List ℕ) (p : Place) (w : ℕ) : Type 0 where
  pub row : List (Tree s)
  pub rest : Rest s l p row
  pub depths : List ℕ
  pub held : Held depths w
  pub count : p.pending ≡ length depths
  pub left : shallow_at s (row_tokens s row) depths ≡ leb (depth s (tree_of s l)) max_depth

pub deepening-start : (s : Sort) (l : List ℕ) → Whole s l → (p : Place) → p.at ≡ 0 → p.pending ≡ 1 → Deepening s l p 1
unfolding shallow_at word waiting
deepening-start s l w p e h =
    let t = tree_of s l in
    record {
      row = t ∷ [];
      rest = rest-start s l w p e h;
      depths = 0 ∷ [];
      held = next [] refl refl refl;
      count = h;
      left =
          ap (λ (ts : List Token). shallow_at s ts (0 ∷ [])) (row-start s l ∙ sym (append-nil (tokens_of s l)))
          ∙ shallow-tokens s t [] 0 []
          ∙ and-true (leb (0 + depth s t) max_depth)
          ∙ ap (λ (n : ℕ). leb n max_depth) (zero-add (depth s t));
    }

-- The next formula and those behind it.
record Next (ds : List ℕ) (w : ℕ) : Type 0 where
  bits : List Bool
  is : w ≡ word bits
  depths : ds ≡ length bits ∷ waiting bits

next_of : {ds : List ℕ} {w : ℕ} → Held ds w → 0 < length ds → Next ds w
next_of ended g = absurd (omega arith)
next_of (next bs e f h) g = record { bits = bs; is = e; depths = ap₂ ◌∷◌ f h }

module _ {s : Sort} {l : List ℕ} {p : Place} {w : ℕ} (u : Deepening s l p w) where
  pub deepening-end : p.pending ≤ 0 → true ≡ leb (depth s (tree_of s l)) max_depth
  unfolding shallow_at
  deepening-end h = ap (λ (ts : List Token). shallow_at s ts u.depths) (sym (rest_end s l p u.row u.rest (omega arith))) ∙ u.left

  module _ (h : 0 < p.pending) where
    now : Next u.depths w
    now = next_of u.held (omega (arith, u.count))

    abbrev here : ℕ
    here = length now.bits

    pub deepening-above : w < 8589934592 → Above w
    deepening-above g = record { bits = now.bits; is = now.is; few = few_bits now.bits (omega (arith, now.is)) }

    module _ {x : Advance} (e : x ≡ step_of s l p.at p.pending) where
      abbrev pub deepening-turn : Stepped s l p u.row x
      deepening-turn = rest-step s l p u.row u.rest h x e

      abbrev later : List ℕ
      later = onward (kind_over x) here (waiting now.bits)

      turned : (leb here max_depth && shallow_at s (row_tokens s deepening-turn.rest) later) ≡ leb (depth s (tree_of s l)) max_depth
      unfolding shallow_at
      turned =
          ap (λ (k : Kind). leb here max_depth && shallow_at s (row_tokens s deepening-turn.rest) (onward k here (waiting now.bits)))
          (sym (kind-over s (get_or l p.at 0) x deepening-turn.kind))
          ∙ ap₂ (shallow_at s) (sym deepening-turn.head) (sym now.depths)
          ∙ u.left

      pub deepening-more : w < 8589934592 → {r : ℕ} → Onward (kind_over x) w r → {q : Place} → q ≡ place_by x → Deepening s l q r
      deepening-more g o {q} i =
          let few = few_bits now.bits (omega (arith, now.is)) in
          record {
            row = deepening-turn.rest;
            rest = subst (λ (y : Place). Rest s l y deepening-turn.rest) (sym i) deepening-turn.after;
            depths = later;
            held = o.holds now.bits now.is few;
            count =
                ap (λ (y : Place). y.pending) i ∙ deepening-turn.pending
                ∙ ap (pending_by (kind_over x)) (u.count ∙ ap length now.depths)
                ∙ count-onward (kind_over x) here (waiting now.bits);
            left = ap (λ (t : Bool). t && shallow_at s (row_tokens s deepening-turn.rest) later) (sym (le-leb here max_depth few)) ∙ turned;
          }

    -- A node beyond the limit settles it.
    pub deepening-over : 8589934592 ≤ w → false ≡ leb (depth s (tree_of s l)) max_depth
    deepening-over g =
        let many = many-bits now.bits (omega (arith, now.is)) in
        ap (λ (t : Bool). t && shallow_at s (row_tokens s (deepening-turn refl).rest) (later refl)) (sym (lt-leb here max_depth many)) ∙ turned refl
