-- The tokens of a formula, and how a pass steps over them one after another.
use Prim.Native.Nat.{ℕ, suc, ◌+◌, ◌-◌, ◌≤◌, ◌<◌}
use native.Mathlib.Omega.{arith}
use native.Mathlib.Numerals.{add-one}
use mathlib.Core.Path.{◌≡◌, refl, sym, ap, ap₂, ◌∙◌, subst}
use mathlib.Core.List.{List, [], ◌∷◌, ◌++◌, append_assoc, append-nil}
use lib.ListN.{length, get_or, drop, length-append, length-drop}
use lib.Seq.{drop-cons}
use borrow.Author.Tests.{le-leb}
use Rattle.formula.specs.Bytes.{Tree, dim_width, dim_bytes, dim_at, encode, Node, leaf, lit, one, two, bad, node_of}
use Rattle.formula.specs.Answers.{dim_space, kind_of, tree_of, step_by, step_of}
use Rattle.passes.specs.Rewriting.{Whole, Token, plain, literal, tokens, tokens_face, tokens_interval, tokens_of, spell}
use Rattle.passes.specs.Stepping.{kind_over, token_over, DimOver, place_by, pending_by}
use Rattle.formula.specs.declared.Sort.{Sort}
use Rattle.formula.specs.declared.Sort.TheVariants.{Faces, Intervals}
use Rattle.formula.specs.declared.Kind.{Kind}
use Rattle.formula.specs.declared.Kind.TheVariants.{Nullary, Literal, Unary, Binary}
use Rattle.formula.specs.declared.Place.{Place}
use Rattle.formula.specs.declared.Advance.{Advance}
use Rattle.formula.specs.declared.Advance.TheVariants.{Leaf, Lit, One, Two}
use Rattle.formula.proofs.Nodes.{made_as, EachNode, each-node, tree-ind, len_short}
use Rattle.formula.proofs.Operands.{Opened, opened-limits}
use Rattle.formula.proofs.Reading.{encode-pos}

-- An operand that was kept is a formula within the limits.
pub opened-whole : (s : Sort) (l : List ℕ) (t : Tree s) → Opened s l t → Whole s l
opened-whole s l t o = record { bytes = ap (encode s) o.tree ∙ sym o.bytes; short = omega (arith, len_short s t, (opened-limits s o).0, ap length o.bytes) }

-- the bytes of tokens, one list after another
pub spell-append : (f : Token → List ℕ) (ts us : List Token) → spell f (ts ++ us) ≡ spell f ts ++ spell f us
unfolding spell
spell-append f [] us = refl
spell-append f (t ∷ ts) us = ap (λ (l : List ℕ). f t ++ l) (spell-append f ts us) ∙ sym (append_assoc (f t) (spell f ts) (spell f us))

-- the tokens of a formula by its node, and the kind of the byte that it begins with
pub record Tokens (s : Sort) (t : Tree s) (ts : List Token) (k : Kind) (b : ℕ) : Type 0 where
  pub listed : tokens s t ≡ ts
  pub kind : kind_of s b ≡ k

abbrev TokensAt : (s : Sort) → ℕ → Node (Tree s) → Type 0
TokensAt s b (leaf t) = Tokens s t (plain b ∷ []) Nullary b
TokensAt s b (lit g) = (n : ℕ) → Tokens s (g n) (literal b n ∷ []) Literal b
TokensAt s b (one u) = (x : Tree s) → Tokens s (u x) (plain b ∷ tokens s x) Unary b
TokensAt s b (two v) = (x y : Tree s) → Tokens s (v x y) (plain b ∷ tokens s x ++ tokens s y) Binary b
TokensAt s b bad = Unit {0}

tokens-face : EachNode Faces (TokensAt Faces)
unfolding kind_of node_of tokens_face
tokens-face =
    record {
      at0 = record { listed = refl; kind = refl };
      at1 = record { listed = refl; kind = refl };
      at2 = λ n. record { listed = refl; kind = refl };
      at3 = λ n. record { listed = refl; kind = refl };
      at4 = λ x y. record { listed = refl; kind = refl };
      at5 = λ x y. record { listed = refl; kind = refl };
      none = λ b. tt;
    }

tokens-interval : EachNode Intervals (TokensAt Intervals)
unfolding kind_of node_of tokens_interval
tokens-interval =
    record {
      at0 = record { listed = refl; kind = refl };
      at1 = record { listed = refl; kind = refl };
      at2 = λ n. record { listed = refl; kind = refl };
      at3 = λ x. record { listed = refl; kind = refl };
      at4 = λ x y. record { listed = refl; kind = refl };
      at5 = λ x y. record { listed = refl; kind = refl };
      none = λ b. tt;
    }

tokens-at : (s : Sort) (b : ℕ) → TokensAt s b (node_of s b)
tokens-at Faces b = each-node Faces (TokensAt Faces) tokens-face b
tokens-at Intervals b = each-node Intervals (TokensAt Intervals) tokens-interval b

pub tokens-as : (s : Sort) (b : ℕ) (k : Node (Tree s)) → node_of s b ≡ k → TokensAt s b k
tokens-as s b k e = subst (TokensAt s b) e (tokens-at s b)

-- a byte in front of a list's rest
drop-next : (l : List ℕ) (i b : ℕ) (m : List ℕ) → drop i l ≡ b ∷ m → (i < length l) × (get_or l i 0 ≡ b) × (drop (i + 1) l ≡ m)
drop-next l i b m e =
    let h : i < length l = omega (arith, length-drop i l, ap length e) in
    let c : get_or l i 0 ∷ drop (suc i) l ≡ b ∷ m = sym (drop-cons l i 0 h) ∙ e in
    (h, cons_head c, ap (λ (n : ℕ). drop n l) (add-one i) ∙ cons_tail c)
  where
    cons_head : {a b : ℕ} {l m : List ℕ} → a ∷ l ≡ b ∷ m → a ≡ b
    cons_head e = cc

    cons_tail : {a b : ℕ} {l m : List ℕ} → a ∷ l ≡ b ∷ m → l ≡ m
    cons_tail e = cc

-- the field of a dimension in front of a list's rest
dim-next : (l : List ℕ) (i n : ℕ) (m : List ℕ) → drop i l ≡ dim_bytes n ++ m → (i + dim_width ≤ length l) × (dim_at l i ≡ n) × (drop (i + dim_width) l ≡ m)
dim-next l i n m e = let h = drop-next l i n m e in (omega (arith, h.0), h.1, h.2)

-- The bytes and the tokens of a row of formulas.
unfoldable pub row_bytes : (s : Sort) → List (Tree s) → List ℕ
row_bytes s [] = []
row_bytes s (t ∷ ts) = encode s t ++ row_bytes s ts

unfoldable pub row_tokens : (s : Sort) → List (Tree s) → List Token
row_tokens s [] = []
row_tokens s (t ∷ ts) = tokens s t ++ row_tokens s ts

row-few : (s : Sort) (row : List (Tree s)) → length row ≤ length (row_bytes s row)
unfolding row_bytes
row-few s [] = omega arith
row-few s (t ∷ ts) = omega (arith, length-append (encode s t) (row_bytes s ts), encode-pos s t, row-few s ts)

-- From a place on the list is the row of the formulas that are pending there.
pub record Rest (s : Sort) (l : List ℕ) (p : Place) (row : List (Tree s)) : Type 0 where
  pub bytes : drop p.at l ≡ row_bytes s row
  pub count : p.pending ≡ length row

-- The step goes over the first token of the row, to where the others come.
pub record Stepped (s : Sort) (l : List ℕ) (p : Place) (row : List (Tree s)) (x : Advance) : Type 0 where
  pub rest : List (Tree s)
  pub head : row_tokens s row ≡ token_over (get_or l p.at 0) x ∷ row_tokens s rest
  pub kind : kind_of s (get_or l p.at 0) ≡ kind_over x
  pub field : ((i : ℕ) → get_or l i 0 < dim_space) → DimOver x
  pub after : Rest s l (place_by x) rest
  pub forward : p.at < (place_by x).at
  pub inside : (place_by x).at ≤ length l
  pub pending : (place_by x).pending ≡ pending_by (kind_over x) p.pending

pub stepped-on : {s : Sort} {l : List ℕ} {p : Place} {row : List (Tree s)} {x : Advance} → Stepped s l p row x → {q : Place} → q ≡ place_by x → (p.at < q.at) × (q.at ≤ length l)
stepped-on t i = let h = ap (λ (q : Place). q.at) i in (omega (arith, t.forward), omega (arith, t.inside))

pub rest-start : (s : Sort) (l : List ℕ) → Whole s l → (p : Place) → p.at ≡ 0 → p.pending ≡ 1 → Rest s l p (tree_of s l ∷ [])
unfolding row_bytes
rest-start s l w p e h = record { bytes = ap (λ (i : ℕ). drop i l) e ∙ sym (append-nil (encode s (tree_of s l)) ∙ w.bytes); count = h }

pub row-start : (s : Sort) (l : List ℕ) → row_tokens s (tree_of s l ∷ []) ≡ tokens_of s l
unfolding row_tokens
row-start s l = append-nil (tokens_of s l)

pub rest_end : (s : Sort) (l : List ℕ) (p : Place) (row : List (Tree s)) → Rest s l p row → p.pending ≡ 0 → row_tokens s row ≡ []
unfolding row_tokens
rest_end s l p [] r e = refl
rest_end s l p (t ∷ ts) r e = absurd (omega (arith, r.count))

-- A step over a node that is no literal.
record Plain {A : Type 0} (l : List ℕ) (p : Place) (k : Node A) (x : Advance) : Type 0 where
  step : step_by k l p.at p.pending ≡ x
  token : (b : ℕ) → token_over b x ≡ plain b
  field : DimOver x
  place : place_by x ≡ record { at = p.at + 1; pending = pending_by (kind_over x) p.pending }

module _ (s : Sort) (l : List ℕ) (p : Place) where
  -- each pending formula takes a byte or more
  pub rest-few : (row : List (Tree s)) → Rest s l p row → p.pending ≤ length l - p.at
  rest-few row r = omega (arith, r.count, row-few s row, ap length r.bytes, length-drop p.at l)

  module _ (t : Tree s) (ts : List (Tree s)) (r : Rest s l p (t ∷ ts)) (b : ℕ) (k : Node (Tree s)) (e : node_of s b ≡ k) where
    step-at : get_or l p.at 0 ≡ b → step_of s l p.at p.pending ≡ step_by k l p.at p.pending
    step-at i =
        let h : 1 ≤ p.pending = omega (arith, r.count) in
        simp (le-leb 1 p.pending h, le-leb p.pending (length l - p.at) (rest-few (t ∷ ts) r))
        (ap (λ (x : Node (Tree s)). step_by x l p.at p.pending) (ap (node_of s) i ∙ e))

    over_plain : (x : Advance) → Plain l p k x → kind_of s b ≡ kind_over x → (us : List (Tree s)) → encode s t ++ row_bytes s ts ≡ b ∷ row_bytes s us → tokens s t ++ row_tokens s ts ≡ plain b ∷ row_tokens s us
        → pending_by (kind_over x) p.pending ≡ length us → Stepped s l p (t ∷ ts) (step_of s l p.at p.pending)
    unfolding row_bytes row_tokens
    over_plain x n kind us bytes listed count =
        let d = drop-next l p.at b (row_bytes s us) (r.bytes ∙ bytes) in
        let q = n.place in
        subst (Stepped s l p (t ∷ ts)) (sym (step-at d.1 ∙ n.step))
        (record {
          rest = us;
          head = listed ∙ ap (λ (y : Token). y ∷ row_tokens s us) (ap plain (sym d.1) ∙ sym (n.token (get_or l p.at 0)));
          kind = ap (kind_of s) d.1 ∙ kind;
          field = λ h. n.field;
          after = subst (λ (y : Place). Rest s l y us) (sym q) (record { bytes = d.2; count = count });
          forward = omega (arith, ap (λ (y : Place). y.at) q);
          inside = omega (arith, ap (λ (y : Place). y.at) q, d.0);
          pending = ap (λ (y : Place). y.pending) q;
        })

  over-literal : (t : Tree s) (ts : List (Tree s)) → Rest s l p (t ∷ ts) → (b n : ℕ) (g : ℕ → Tree s) → node_of s b ≡ lit g → encode s t ≡ b ∷ dim_bytes n → tokens s t ≡ literal b n ∷ [] → kind_of s b ≡ Literal
      → Stepped s l p (t ∷ ts) (step_of s l p.at p.pending)
  unfolding row_bytes row_tokens
  over-literal t ts r b n g e bytes listed kind =
      let d = drop-next l p.at b (dim_bytes n ++ row_bytes s ts) (r.bytes ∙ ap (λ (m : List ℕ). m ++ row_bytes s ts) bytes) in
      let f = dim-next l (p.at + 1) n (row_bytes s ts) d.2 in
      let h : dim_width ≤ length l - (p.at + 1) = omega (arith, f.0) in
      let x = Lit (record { at = p.at + 1 + dim_width; pending = p.pending - 1 }) (dim_at l (p.at + 1)) in
      let i : step_by (lit g) l p.at p.pending ≡ x = simp (le-leb dim_width (length l - (p.at + 1)) h) in
      subst (Stepped s l p (t ∷ ts)) (sym (step-at t ts r b (lit g) e d.1 ∙ i))
      (record {
        rest = ts;
        head = ap (λ (us : List Token). us ++ row_tokens s ts) listed ∙ ap₂ (λ (c m : ℕ). literal c m ∷ row_tokens s ts) (sym d.1) (sym f.1);
        kind = ap (kind_of s) d.1 ∙ kind;
        field = λ j. j (p.at + 1);
        after = record { bytes = f.2; count = omega (arith, r.count) };
        forward = omega arith;
        inside = f.0;
        pending = refl;
      })

  step_from : (t : Tree s) (ts : List (Tree s)) → Rest s l p (t ∷ ts) → Stepped s l p (t ∷ ts) (step_of s l p.at p.pending)
  unfolding row_bytes row_tokens
  step_from =
      tree-ind s (λ t. (ts : List (Tree s)) → Rest s l p (t ∷ ts) → Stepped s l p (t ∷ ts) (step_of s l p.at p.pending))
      (record {
        at_leaf = λ b t e ts r.
            let k = tokens-as s b (leaf t) e in
            over_plain t ts r b (leaf t) e (Leaf (record { at = p.at + 1; pending = p.pending - 1 })) (record { step = refl; token = λ c. refl; field = tt; place = refl }) k.kind ts
            (ap (λ (m : List ℕ). m ++ row_bytes s ts) (made_as s b (leaf t) e).bytes) (ap (λ (us : List Token). us ++ row_tokens s ts) k.listed) (omega (arith, r.count));
        at-lit = λ b n g e ts r.
            let k = tokens-as s b (lit g) e n in
            over-literal (g n) ts r b n g e (made_as s b (lit g) e n).bytes k.listed k.kind;
        at_one = λ b u y e h ts r.
            let k = tokens-as s b (one u) e y in
            over_plain (u y) ts r b (one u) e (One (record { at = p.at + 1; pending = p.pending })) (record { step = refl; token = λ c. refl; field = tt; place = refl }) k.kind (y ∷ ts)
            (ap (λ (m : List ℕ). m ++ row_bytes s ts) (made_as s b (one u) e y).bytes) (ap (λ (us : List Token). us ++ row_tokens s ts) k.listed) r.count;
        at-two = λ b v y z e h i ts r.
            let k = tokens-as s b (two v) e y z in
            over_plain (v y z) ts r b (two v) e (Two (record { at = p.at + 1; pending = p.pending + 1 })) (record { step = refl; token = λ c. refl; field = tt; place = refl }) k.kind (y ∷ z ∷ ts)
            (ap (λ (m : List ℕ). m ++ row_bytes s ts) (made_as s b (two v) e y z).bytes ∙ ap (λ (m : List ℕ). b ∷ m) (append_assoc (encode s y) (encode s z) (row_bytes s ts)))
            (ap (λ (us : List Token). us ++ row_tokens s ts) k.listed ∙ ap (λ (us : List Token). plain b ∷ us) (append_assoc (tokens s y) (tokens s z) (row_tokens s ts)))
            (omega (arith, r.count));
      })

  -- where formulas are pending, a step is not stuck
  pub rest-step : (row : List (Tree s)) → Rest s l p row → 0 < p.pending → (x : Advance) → x ≡ step_of s l p.at p.pending → Stepped s l p row x
  rest-step [] r h x e = absurd (omega (arith, r.count))
  rest-step (t ∷ ts) r h x e = subst (Stepped s l p (t ∷ ts)) (sym e) (step_from t ts r)
