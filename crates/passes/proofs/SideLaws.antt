-- The pass that writes one side of a boundary, with its stack of ends.
use Prim.Native.Nat.{ℕ, zero, suc, ◌+◌, ◌-◌, ◌≤◌, ◌<◌}
use native.Mathlib.Omega.{arith}
use native.Mathlib.Numerals.{add-one}
use native.Mathlib.Decide.{ℕ_discrete}
use mathlib.Core.Path.{◌≡◌, refl, sym, ap, ap₂, ◌∙◌, subst}
use mathlib.Core.List.{List, [], ◌∷◌, ◌++◌, append_assoc, append-nil}
use lib.ListN.{length, get_or, set, length-set, replicate}
use lib.Seq.{get_or-set_same, get_or-set_other}
use Rattle.formula.specs.Formula.{End, lo, hi, other, end_of, Interval, i0, i1, dim, neg, meet, join}
use Rattle.formula.specs.Operations.{boundary}
use Rattle.formula.specs.Bytes.{dim_bytes, encode_face, node_of}
use Rattle.formula.specs.Answers.{dim_space, kind_of, tree_of, step_of}
use Rattle.passes.specs.Rewriting.{Whole, Token, plain, tokens_interval, tokens_of, Wrote, bit, plain_side, side_bytes, push_kind, pushed, sides, Sided}
use Rattle.passes.specs.Stepping.{kind_over, token_over, DimOver, place_by, stack_of, Bits, pending_by, Pushed}
use Rattle.formula.specs.declared.Sort.TheVariants.{Intervals}
use Rattle.formula.specs.declared.Kind.{Kind}
use Rattle.formula.specs.declared.Kind.TheVariants.{Nullary, Literal, Unary, Binary, Unknown}
use Rattle.formula.specs.declared.Place.{Place}
use Rattle.formula.specs.declared.Advance.{Advance}
use Rattle.formula.specs.declared.Advance.TheVariants.{Leaf, Lit, One, Two, Stuck}
use Rattle.formula.proofs.Nodes.{literal-kind}
use Rattle.passes.proofs.TokenLaws.{row_tokens, Rest, Stepped, rest-start, row-start, rest_end, rest-few, rest-step}
use Rattle.passes.proofs.PassLaws.{Writing, writing_start, writing-length, writing-room, writing_more, writing-end}

-- a store above a stack's top leaves the stack
stack-below : (l : List ℕ) (i v n : ℕ) → n ≤ i → stack_of (set l i v) n ≡ stack_of l n
unfolding stack_of
stack-below l i v zero h = refl
stack-below l i v (suc n) h = ap₂ (λ (x : ℕ) (es : List End). end_of x ∷ es) (get_or-set_other l i n v 0 (omega arith)) (stack-below l i v n (omega arith))

bits-set : (l : List ℕ) (i v : ℕ) → i < length l → v ≤ 1 → Bits l → Bits (set l i v)
bits-set l i v h g b j = go (ℕ_discrete j i)
  where
    go : Dec (j ≡ i) → get_or (set l i v) j 0 ≤ 1
    go (yes e) = rw (e, get_or-set_same l i v 0 h) g
    go (no e) = rw (get_or-set_other l i j v 0 e) (b j)

end-other : (e : ℕ) → e ≤ 1 → end_of (1 - e) ≡ other (end_of e)
end-other zero h = refl
end-other (suc zero) h = refl
end-other (suc (suc e)) h = absurd (omega arith)

pub bit-end : (e : ℕ) → e ≤ 1 → bit (end_of e) ≡ e
bit-end zero h = refl
bit-end (suc zero) h = refl
bit-end (suc (suc e)) h = absurd (omega arith)

module _ (l : List ℕ) (top e : ℕ) (h : e ≤ 1) (in_array : top + 1 < length l) (here : get_or l top 0 ≡ e) where
  pub pushed-unary : Pushed Unary e l top (set l top (1 - e))
  unfolding stack_of
  pushed-unary =
      record {
        stack =
            ap (stack_of (set l top (1 - e))) (add-one top)
            ∙ ap₂ (λ (x : ℕ) (es : List End). end_of x ∷ es) (get_or-set_same l top (1 - e) 0 (omega arith)) (stack-below l top (1 - e) top (omega arith))
            ∙ ap (λ (x : End). x ∷ stack_of l top) (end-other e h);
        bits = bits-set l top (1 - e) (omega arith) (omega arith);
        size = length-set l top (1 - e);
      }

  pub pushed-binary : Pushed Binary e l top (set l (top + 1) e)
  unfolding stack_of
  pushed-binary =
      let height : top + 1 + 1 ≡ suc (suc top) = omega arith in
      record {
        stack =
            ap (stack_of (set l (top + 1) e)) height
            ∙ ap₂ (λ (x : ℕ) (es : List End). end_of x ∷ es)
            (ap (get_or (set l (top + 1) e) (suc top)) refl ∙ ap (λ (n : ℕ). get_or (set l (top + 1) e) n 0) (sym (add-one top)) ∙ get_or-set_same l (top + 1) e 0 in_array)
            (ap₂ (λ (x : ℕ) (es : List End). end_of x ∷ es) (get_or-set_other l (top + 1) top e 0 (omega arith) ∙ here) (stack-below l (top + 1) e top (omega arith)));
        bits = bits-set l (top + 1) e in_array h;
        size = length-set l (top + 1) e;
      }

-- a node that ends an expression takes its end off the stack
abbrev Ends : Kind → Type 0
Ends Nullary = Unit {0}
Ends Literal = Unit {0}
Ends Unary = ⊥
Ends Binary = ⊥
Ends Unknown = Unit {0}

pub pushed-ends : (k : Kind) → Ends k → (e : ℕ) (l : List ℕ) (top : ℕ) → Pushed k e l top l
pushed-ends Nullary t e l top = record { stack = ap (stack_of l) (omega arith); bits = λ b. b; size = refl }
pushed-ends Literal t e l top = record { stack = ap (stack_of l) (omega arith); bits = λ b. b; size = refl }
pushed-ends Unary t e l top = absurd t
pushed-ends Binary t e l top = absurd t
pushed-ends Unknown t e l top = record { stack = ap (stack_of l) (omega arith); bits = λ b. b; size = refl }

pub pushed-as : {k k' : Kind} {e : ℕ} {l : List ℕ} {top : ℕ} {l' : List ℕ} → k ≡ k' → Pushed k e l top l' → Pushed k' e l top l'
pushed-as {e = e} {l = l} {top = top} {l' = l'} i p = subst (λ (x : Kind). Pushed x e l top l') i p

-- two expressions one after another, with the same end
pair-sides : (b : ℕ) (e : End) (x y : List Token) (f g : List ℕ) → ((us : List Token) (es : List End) → sides (x ++ us) (e ∷ es) ≡ f ++ sides us es)
    → ((us : List Token) (es : List End) → sides (y ++ us) (e ∷ es) ≡ g ++ sides us es) → (ts : List Token) (es : List End)
    → b ∷ sides ((x ++ y) ++ ts) (e ∷ e ∷ es) ≡ (b ∷ f ++ g) ++ sides ts es
pair-sides b e x y f g p q ts es =
    ap (λ (l : List ℕ). b ∷ l)
    (ap (λ (us : List Token). sides us (e ∷ e ∷ es)) (append_assoc x y ts) ∙ p (y ++ ts) (e ∷ es)
    ∙ ap (λ (l : List ℕ). f ++ l) (q ts es)
    ∙ sym (append_assoc f g (sides ts es)))

-- The tokens of an expression with its end on the stack become the face of that end.
pub sides-tokens : (r : Interval) (e : End) (ts : List Token) (es : List End) → sides (tokens_interval r ++ ts) (e ∷ es) ≡ encode_face (boundary e r) ++ sides ts es
unfolding sides tokens_interval kind_of node_of encode_face boundary
sides-tokens i0 lo ts es = refl
sides-tokens i0 hi ts es = refl
sides-tokens i1 lo ts es = refl
sides-tokens i1 hi ts es = refl
sides-tokens (dim n) lo ts es = refl
sides-tokens (dim n) hi ts es = refl
sides-tokens (neg r) lo ts es = sides-tokens r hi ts es
sides-tokens (neg r) hi ts es = sides-tokens r lo ts es
sides-tokens (meet r s) lo ts es = pair-sides 5 lo (tokens_interval r) (tokens_interval s) (encode_face (boundary lo r)) (encode_face (boundary lo s)) (sides-tokens r lo) (sides-tokens s lo) ts es
sides-tokens (meet r s) hi ts es = pair-sides 4 hi (tokens_interval r) (tokens_interval s) (encode_face (boundary hi r)) (encode_face (boundary hi s)) (sides-tokens r hi) (sides-tokens s hi) ts es
sides-tokens (join r s) lo ts es = pair-sides 4 lo (tokens_interval r) (tokens_interval s) (encode_face (boundary lo r)) (encode_face (boundary lo s)) (sides-tokens r lo) (sides-tokens s lo) ts es
sides-tokens (join r s) hi ts es = pair-sides 5 hi (tokens_interval r) (tokens_interval s) (encode_face (boundary hi r)) (encode_face (boundary hi s)) (sides-tokens r hi) (sides-tokens s hi) ts es

pub sides-whole : (r : Interval) (e : End) → sides (tokens_interval r) (e ∷ []) ≡ encode_face (boundary e r)
unfolding sides
sides-whole r e =
    ap (λ (ts : List Token). sides ts (e ∷ [])) (sym (append-nil (tokens_interval r))) ∙ sides-tokens r e [] [] ∙ append-nil (encode_face (boundary e r))

-- what a token becomes, where the step over it is known
pub side-plain : (e b : ℕ) {x y : Advance} → x ≡ y → token_over b y ≡ plain b → kind_of Intervals b ≡ kind_over x → side_bytes e (token_over b x) ≡ plain_side e (kind_over y) b
side-plain e b i t k = ap (λ (z : Advance). side_bytes e (token_over b z)) i ∙ ap (side_bytes e) t ∙ ap (λ (z : Kind). plain_side e z b) (k ∙ ap kind_over i)

pub side-literal : (e b : ℕ) {x : Advance} {q : Place} {n k : ℕ} → x ≡ Lit q n → e ≤ 1 → k ≡ 2 + e → side_bytes e (token_over b x) ≡ k ∷ dim_bytes n
side-literal e b {n = n} i h j = ap (λ (z : Advance). side_bytes e (token_over b z)) i ∙ literal-kind h j n

-- what a token does to the stack is what its kind does
pushed-over : (b : ℕ) (x : Advance) → kind_of Intervals b ≡ kind_over x → (e : End) (es : List End) → pushed (token_over b x) e es ≡ push_kind (kind_over x) e es
pushed-over b (Leaf q) i e es = rw i
pushed-over b (Lit q n) i e es = refl
pushed-over b (One q) i e es = rw i
pushed-over b (Two q) i e es = rw i
pushed-over b Stuck i e es = rw i

-- The pass up to a place of the expression and o of the face, with its stack.
pub record Siding (goal l d₀ d ends : List ℕ) (p : Place) (o : ℕ) : Type 0 where
  pub row : List Interval
  pub rest : Rest Intervals l p row
  pub bits : Bits ends
  pub size : length ends ≡ 1024
  pub writing : Writing goal d₀ d o (sides (row_tokens Intervals row) (stack_of ends p.pending))

stack_top : (l : List ℕ) (p : ℕ) → 0 < p → stack_of l p ≡ end_of (get_or l (p - 1) 0) ∷ stack_of l (p - 1)
unfolding stack_of
stack_top l zero h = absurd (omega arith)
stack_top l (suc p) h = ap (λ (n : ℕ). end_of (get_or l n 0) ∷ stack_of l n) (omega arith)

abbrev pub side_goal : List ℕ → ℕ → List ℕ
side_goal l e = sides (tokens_of Intervals l) (end_of e ∷ [])

pub siding-start : (l d z : List ℕ) (e : ℕ) → Sided l e (length d) → length z ≡ 1024 → Bits z → (p : Place) → p.at ≡ 0 → p.pending ≡ 1 → Siding (side_goal l e) l d d (set z 0 e) p 0
unfolding stack_of
siding-start l d z e h k b p i j =
    let es : end_of e ∷ [] ≡ stack_of (set z 0 e) p.pending = sym (ap (stack_of (set z 0 e)) j ∙ ap (λ (x : ℕ). end_of x ∷ []) (get_or-set_same z 0 e 0 (omega arith))) in
    record {
      row = tree_of Intervals l ∷ [];
      rest = rest-start Intervals l h.whole p i j;
      bits = bits-set z 0 e (omega arith) h.end b;
      size = length-set z 0 e ∙ k;
      writing = subst (Writing (side_goal l e) d d 0) (ap₂ sides (sym (row-start Intervals l)) es) (writing_start (side_goal l e) d);
    }

module _ {goal l d₀ d ends : List ℕ} {p : Place} {o : ℕ} (w : Siding goal l d₀ d ends p o) where
  abbrev left : List ℕ
  left = sides (row_tokens Intervals w.row) (stack_of ends p.pending)

  pub siding-length : length d ≡ length d₀
  siding-length = writing-length goal d₀ d o left w.writing

  pub siding-end : p.pending ≤ 0 → Wrote d₀ 0 goal o d
  unfolding sides
  siding-end h = writing-end goal d₀ d o left w.writing (ap (λ (ts : List Token). sides ts (stack_of ends p.pending)) (rest_end Intervals l p w.row w.rest (omega arith)))

  pub siding-few : Whole Intervals l → p.pending ≤ 1022
  siding-few h = omega (arith, rest-few Intervals l p w.row w.rest, h.short)

  module _ (h : 0 < p.pending) {x : Advance} (e : x ≡ step_of Intervals l p.at p.pending) where
    abbrev pub siding-turn : Stepped Intervals l p w.row x
    siding-turn = rest-step Intervals l p w.row w.rest h x e

    abbrev byte : ℕ
    byte = get_or l p.at 0

    abbrev top : ℕ
    top = p.pending - 1

    abbrev here : ℕ
    here = get_or ends top 0

    abbrev bytes : List ℕ
    bytes = side_bytes here (token_over byte x)

    abbrev later : List ℕ
    later = sides (row_tokens Intervals siding-turn.rest) (push_kind (kind_over x) (end_of here) (stack_of ends top))

    image : left ≡ bytes ++ later
    unfolding sides
    image =
        ap₂ sides siding-turn.head (stack_top ends p.pending h)
        ∙ ap₂ (λ (n : ℕ) (es : List End). side_bytes n (token_over byte x) ++ sides (row_tokens Intervals siding-turn.rest) es) (bit-end here (w.bits top)) (pushed-over byte x siding-turn.kind (end_of here) (stack_of ends top))

    pub siding-room : ((i : ℕ) → get_or l i 0 < dim_space) → length goal ≤ length d₀ → (here ≤ 1) × (kind_of Intervals byte ≡ kind_over x) × DimOver x × (o + length bytes ≤ length d)
    siding-room i g = (w.bits top, siding-turn.kind, siding-turn.field i, writing-room goal d₀ d o left w.writing bytes later image g)

    pub siding-more : {q : Place} → q ≡ place_by x → {o' : ℕ} {d' : List ℕ} → Wrote d o bytes o' d' → {ends' : List ℕ} → Pushed (kind_over x) here ends top ends' → Siding goal l d₀ d' ends' q o'
    siding-more {q} i {o'} {d'} y {ends'} z =
        let height : q.pending ≡ pending_by (kind_over x) (top + 1) = ap (λ (a : Place). a.pending) i ∙ siding-turn.pending ∙ ap (pending_by (kind_over x)) (omega arith) in
        record {
          row = siding-turn.rest;
          rest = subst (λ (a : Place). Rest Intervals l a siding-turn.rest) (sym i) siding-turn.after;
          bits = z.bits w.bits;
          size = z.size ∙ w.size;
          writing =
              subst (λ (es : List End). Writing goal d₀ d' o' (sides (row_tokens Intervals siding-turn.rest) es)) (sym (ap (stack_of ends') height ∙ z.stack))
              (writing_more goal d₀ d o left w.writing bytes later image o' d' y);
        }

pub bits-zeros : (n : ℕ) → Bits (replicate n 0)
bits-zeros zero i = omega arith
bits-zeros (suc n) zero = omega arith
bits-zeros (suc n) (suc i) = bits-zeros n i
