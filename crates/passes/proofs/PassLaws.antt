-- The passes over a formula's tokens: what has been summed or written, with what is still to come, is the whole.
use Rattle.std.specs.Prelude.{Option, Some, None}
use Prim.Native.Nat.{ℕ, suc, pred, ◌+◌, ◌-◌, ◌*◌, ◌≤◌, ◌<◌, max, compare, Ordering}
use native.Mathlib.Omega.{arith}
use native.Mathlib.Nat.{zero-add}
use native.Mathlib.Numerals.{add-one}
use mathlib.Core.Path.{◌≡◌, refl, sym, ap, ap₂, ◌∙◌, subst}
use mathlib.Core.List.{List, [], ◌∷◌, ◌++◌, append_assoc, append-nil}
use lib.ListN.{length, get_or, set, length-append}
use lib.Seq.{sets, length-sets}
use borrow.Author.Tests.{eq-eqb, ne_eqb}
use Rattle.formula.specs.Formula.{beside}
use Rattle.formula.specs.Bytes.{Tree}
use Rattle.formula.specs.Answers.{dim_space, kind_of, tree_of, step_of}
use Rattle.passes.specs.Rewriting.{Token, plain, literal, tokens_of, Whole, moved_to, ◌⊕◌, zero_size, weighs, plain_weight, moved_weight, weight_of, Small, spell, AllTokens, FieldedAt, Wrote, moved_bytes, image_of, Rewritable}
use Rattle.passes.specs.Stepping.{kind_over, token_over, DimOver, place_by, weight_over}
use Rattle.formula.specs.declared.Sort.{Sort}
use Rattle.formula.specs.declared.Size.{Size}
use Rattle.formula.specs.declared.Kind.{Kind}
use Rattle.formula.specs.declared.Kind.TheVariants.{Nullary, Literal, Unary, Binary, Unknown}
use Rattle.formula.specs.declared.Place.{Place}
use Rattle.formula.specs.declared.Advance.{Advance}
use Rattle.formula.specs.declared.Advance.TheVariants.{Leaf, Lit, One, Two, Stuck}
use Rattle.passes.specs.declared.Rule.{Rule}
use Rattle.passes.specs.declared.Rule.TheVariants.{Up, Down, Ends}
use Rattle.formula.proofs.Compare.{compare-lt, compare-eq, compare-gt, Compares, stands}
use Rattle.passes.proofs.TokenLaws.{row_tokens, Rest, Stepped, stepped-on, rest-start, row-start, rest_end, rest-step}

-- where a dimension goes, by the tests of the code
pub up-below : (k n : ℕ) → n < k → moved_to (Up k) n ≡ Some n
up-below k n h = rw compare-lt

pub up_from : (k n : ℕ) → k ≤ n → moved_to (Up k) n ≡ Some (n + 1)
up_from k n h = go (compare n k) (stands n k)
  where
    go : (o : Ordering) → Compares o n k → Some (beside o n (suc n) (suc n)) ≡ Some (n + 1)
    go Ordering.lt g = absurd (omega arith)
    go Ordering.eq g = ap Some (sym (add-one n))
    go Ordering.gt g = ap Some (sym (add-one n))

pub down-below : (k n : ℕ) → n < k → moved_to (Down k) n ≡ Some n
down-below k n h = rw compare-lt

pub down-hit : (k n : ℕ) → n ≡ k → moved_to (Down k) n ≡ None
down-hit k n e = rw (e, compare-eq k)

pub down-above : (k n : ℕ) → k ≤ n → (n ≡ k → ⊥) → moved_to (Down k) n ≡ Some (n - 1)
down-above k n h g = rw (compare-gt n k (omega arith)) (ap Some (omega arith))

-- no dimension goes further up than by one
abbrev pub Near : ℕ → Option ℕ → Type 0
Near n (Some m) = m ≤ n + 1
Near n None = Unit {0}

pub near : (rule : Rule) (n : ℕ) → Near n (moved_to rule n)
near (Up k) n = go (compare n k)
  where
    go : (o : Ordering) → Near n (Some (beside o n (suc n) (suc n)))
    go Ordering.lt = omega arith
    go Ordering.eq = omega arith
    go Ordering.gt = omega arith
near (Down k) n = go (compare n k)
  where
    go : (o : Ordering) → Near n (beside o (Some n) None (Some (pred n)))
    go Ordering.lt = omega arith
    go Ordering.eq = tt
    go Ordering.gt = omega arith
near Ends n = omega arith

-- sizes
pub size-eq : {a b n m x y : ℕ} → a ≡ b → n ≡ m → x ≡ y → ◌≡◌ {A = Size} (record { len = a; nodes = n; bound = x }) (record { len = b; nodes = m; bound = y })
size-eq e f g i = record { len = e i; nodes = f i; bound = g i }

pub sum-zero : (z : Size) → z ⊕ zero_size ≡ z
sum-zero z = size-eq (omega arith) (omega arith) (omega arith)

pub sum-assoc : (x y z : Size) → (x ⊕ y) ⊕ z ≡ x ⊕ y ⊕ z
sum-assoc x y z = size-eq (omega arith) (omega arith) (omega arith)

small-moved : (m : Option ℕ) (hit : Size) → Small hit → Small (moved_weight m hit)
small-moved (Some n) hit h = record { len = omega arith; nodes = omega arith }
small-moved None hit h = h

small_plain : (rule : Rule) (k : Kind) → Small (plain_weight rule k)
small_plain (Up n) k = record { len = omega arith; nodes = omega arith }
small_plain (Down n) k = record { len = omega arith; nodes = omega arith }
small_plain Ends Nullary = record { len = omega arith; nodes = omega arith }
small_plain Ends Literal = record { len = omega arith; nodes = omega arith }
small_plain Ends Unary = record { len = omega arith; nodes = omega arith }
small_plain Ends Binary = record { len = omega arith; nodes = omega arith }
small_plain Ends Unknown = record { len = omega arith; nodes = omega arith }

pub small-weight : (s : Sort) (rule : Rule) (hit : Size) → Small hit → (t : Token) → Small (weight_of s rule hit t)
small-weight s rule hit h (plain b) = small_plain rule (kind_of s b)
small-weight s rule hit h (literal b n) = small-moved (moved_to rule n) hit h

-- a step over no literal
pub plain_over : (b : ℕ) (x : Advance) → ((q : Place) (n : ℕ) → x ≡ Lit q n → ⊥) → token_over b x ≡ plain b
plain_over b (Leaf q) h = refl
plain_over b (Lit q n) h = absurd (h q n refl)
plain_over b (One q) h = refl
plain_over b (Two q) h = refl
plain_over b Stuck h = refl

-- what a token weighs is what the step over it says
pub weight-over : (s : Sort) (rule : Rule) (hit : Size) (b : ℕ) (x : Advance) → kind_of s b ≡ kind_over x → weight_over rule hit x ≡ weight_of s rule hit (token_over b x)
weight-over s rule hit b (Leaf q) e = ap (plain_weight rule) (sym e)
weight-over s rule hit b (Lit q n) e = refl
weight-over s rule hit b (One q) e = ap (plain_weight rule) (sym e)
weight-over s rule hit b (Two q) e = ap (plain_weight rule) (sym e)
weight-over s rule hit b Stuck e = ap (plain_weight rule) (sym e)

-- The pass that sums: what it has summed up to a place.
pub record Summed (s : Sort) (rule : Rule) (hit : Size) (l : List ℕ) (p : Place) (len nodes bound : ℕ) : Type 0 where
  pub row : List (Tree s)
  pub rest : Rest s l p row
  pub sum : record { len = len; nodes = nodes; bound = bound } ⊕ weighs (weight_of s rule hit) (row_tokens s row) ≡ weighs (weight_of s rule hit) (tokens_of s l)
  pub inside : p.at ≤ length l
  pub len-small : len ≤ 1022 * p.at
  pub nodes-small : nodes ≤ 511 * p.at

pub summed-start : (s : Sort) (rule : Rule) (hit : Size) (l : List ℕ) → Whole s l → (p : Place) → p.at ≡ 0 → p.pending ≡ 1 → Summed s rule hit l p 0 0 0
summed-start s rule hit l w p e h =
    record {
      row = tree_of s l ∷ [];
      rest = rest-start s l w p e h;
      sum = size-eq (omega arith) (omega arith) (omega arith) ∙ ap (weighs (weight_of s rule hit)) (row-start s l);
      inside = omega arith;
      len-small = omega arith;
      nodes-small = omega arith;
    }

module _ {s : Sort} {rule : Rule} {hit : Size} {l : List ℕ} {p : Place} {len nodes bound : ℕ} (u : Summed s rule hit l p len nodes bound) where
  abbrev weighed : List (Tree s) → Size
  weighed row = weighs (weight_of s rule hit) (row_tokens s row)

  pub summed-end : p.pending ≤ 0 → record { len = len; nodes = nodes; bound = bound } ≡ weighs (weight_of s rule hit) (tokens_of s l)
  unfolding weighs
  summed-end h =
      sym (sum-zero (record { len = len; nodes = nodes; bound = bound }))
      ∙ ap (λ (ts : List Token). record { len = len; nodes = nodes; bound = bound } ⊕ weighs (weight_of s rule hit) ts) (sym (rest_end s l p u.row u.rest (omega arith)))
      ∙ u.sum

  module _ (h : 0 < p.pending) {x : Advance} (e : x ≡ step_of s l p.at p.pending) where
    abbrev pub summed_turn : Stepped s l p u.row x
    summed_turn = rest-step s l p u.row u.rest h x e

    module _ (small : Small hit) {z : Size} (i : z ≡ weight_over rule hit x) where
      weight-here : z ≡ weight_of s rule hit (token_over (get_or l p.at 0) x)
      weight-here = i ∙ weight-over s rule hit (get_or l p.at 0) x summed_turn.kind

      pub summed-small : Small z
      summed-small = subst Small (sym weight-here) (small-weight s rule hit small (token_over (get_or l p.at 0) x))

      pub summed-more : {q : Place} → q ≡ place_by x → {a b m : ℕ} → a ≡ len + z.len → b ≡ nodes + z.nodes → m ≡ max bound z.bound → Summed s rule hit l q a b m
      unfolding weighs
      summed-more {q} j {a} {b} {m} ea eb em =
          let k = summed-small in
          let g = stepped-on summed_turn j in
          let before : Size = record { len = len; nodes = nodes; bound = bound } in
          let rest = summed_turn.rest in
          record {
            row = rest;
            rest = subst (λ (y : Place). Rest s l y summed_turn.rest) (sym j) summed_turn.after;
            sum =
                ap (λ (w : Size). w ⊕ weighed rest) (size-eq ea eb em)
                ∙ sum-assoc before z (weighed rest)
                ∙ ap (λ (w : Size). before ⊕ w ⊕ weighed rest) weight-here
                ∙ ap (λ (ts : List Token). before ⊕ weighs (weight_of s rule hit) ts) (sym summed_turn.head)
                ∙ u.sum;
            inside = g.1;
            len-small = omega (arith, g.0, u.len-small, k.len);
            nodes-small = omega (arith, g.0, u.nodes-small, k.nodes);
          }

-- a run of stores after another
pub sets-append : (d : List ℕ) (i : ℕ) (l m : List ℕ) → sets (sets d i l) (i + length l) m ≡ sets d i (l ++ m)
sets-append d i [] m = ap (λ (n : ℕ). sets d n m) (omega arith)
sets-append d i (a ∷ l) m = ap (λ (n : ℕ). sets (sets (set d i a) (suc i) l) n m) (omega arith) ∙ sets-append (set d i a) (suc i) l m

-- A pass that writes: the bytes up to o are done, and with those still to come they are the goal.
pub record Writing (goal d₀ d : List ℕ) (o : ℕ) (left : List ℕ) : Type 0 where
  pub done : List ℕ
  pub stored : d ≡ sets d₀ 0 done
  pub next : o ≡ length done
  pub whole : done ++ left ≡ goal

pub writing_start : (goal d : List ℕ) → Writing goal d d 0 goal
writing_start goal d = record { done = []; stored = refl; next = refl; whole = refl }

module _ (goal d₀ d : List ℕ) (o : ℕ) (left : List ℕ) (w : Writing goal d₀ d o left) where
  pub writing-length : length d ≡ length d₀
  writing-length = ap length w.stored ∙ length-sets d₀ 0 w.done

  pub writing-room : (b m : List ℕ) → left ≡ b ++ m → length goal ≤ length d₀ → o + length b ≤ length d
  writing-room b m e h =
      let g = simp length-append at (ap length w.whole) in
      let k = simp length-append at (ap length e) in
      omega (arith, writing-length, w.next)

  pub writing_more : (b m : List ℕ) → left ≡ b ++ m → (o' : ℕ) (d' : List ℕ) → Wrote d o b o' d' → Writing goal d₀ d' o' m
  writing_more b m e o' d' x =
      record {
        done = w.done ++ b;
        stored = x.stored ∙ ap₂ (λ (y : List ℕ) (n : ℕ). sets y n b) w.stored (w.next ∙ sym (zero-add (length w.done))) ∙ sets-append d₀ 0 w.done b;
        next = x.next ∙ ap (λ (n : ℕ). n + length b) w.next ∙ sym (length-append w.done b);
        whole = append_assoc w.done b m ∙ ap (λ (y : List ℕ). w.done ++ y) (sym e) ∙ w.whole;
      }

  pub writing-end : left ≡ [] → Wrote d₀ 0 goal o d
  writing-end e =
      let g : w.done ≡ goal = sym (append-nil w.done) ∙ ap (λ (y : List ℕ). w.done ++ y) (sym e) ∙ w.whole in
      record { next = omega (arith, w.next, ap length g); stored = w.stored ∙ ap (sets d₀ 0) g }

pub wrote_as : {d : List ℕ} {o : ℕ} {b b' : List ℕ} {r : ℕ} {d' : List ℕ} → b ≡ b' → Wrote d o b r d' → Wrote d o b' r d'
wrote_as {d} {o} {r = r} {d' = d'} e w = subst (λ (x : List ℕ). Wrote d o x r d') e w

pub wrote-byte : (d : List ℕ) (o b : ℕ) → Wrote d o (b ∷ []) (o + 1) (set d o b)
wrote-byte d o b = record { next = refl; stored = refl }

pub wrote_none : (d : List ℕ) (o : ℕ) → Wrote d o [] o d
wrote_none d o = record { next = omega arith; stored = refl }

-- the formula that replaces a literal, by its side
pub hit-one : (b : ℕ) (u v : List ℕ) → b ≡ 3 → moved_bytes b None u v ≡ v
hit-one b u v e = rw (eq-eqb b 3 e)

pub hit-zero : (b : ℕ) (u v : List ℕ) → (b ≡ 3 → ⊥) → moved_bytes b None u v ≡ u
hit-zero b u v e = rw (ne_eqb b 3 e)

-- The pass that moves and replaces literals, up to a place of the operand and o of the result.
pub record Rewriting (s : Sort) (rule : Rule) (u v l d₀ d : List ℕ) (p : Place) (o : ℕ) : Type 0 where
  pub row : List (Tree s)
  pub rest : Rest s l p row
  pub fields : AllTokens (FieldedAt rule) (row_tokens s row)
  pub writing : Writing (spell (image_of rule u v) (tokens_of s l)) d₀ d o (spell (image_of rule u v) (row_tokens s row))

pub rewriting-start : (s : Sort) (rule : Rule) (u v l d : List ℕ) → Rewritable s rule l u v (length d) → (p : Place) → p.at ≡ 0 → p.pending ≡ 1 → Rewriting s rule u v l d d p 0
rewriting-start s rule u v l d h p i j =
    let f = image_of rule u v in
    record {
      row = tree_of s l ∷ [];
      rest = rest-start s l h.whole p i j;
      fields = subst (AllTokens (FieldedAt rule)) (sym (row-start s l)) h.fields;
      writing = subst (λ (ts : List Token). Writing (spell f (tokens_of s l)) d d 0 (spell f ts)) (sym (row-start s l)) (writing_start (spell f (tokens_of s l)) d);
    }

module _ {s : Sort} {rule : Rule} {u v l d₀ d : List ℕ} {p : Place} {o : ℕ} (w : Rewriting s rule u v l d₀ d p o) where
  abbrev image : Token → List ℕ
  image = image_of rule u v

  pub rewriting-length : length d ≡ length d₀
  rewriting-length = writing-length (spell image (tokens_of s l)) d₀ d o (spell image (row_tokens s w.row)) w.writing

  pub rewriting-end : p.pending ≤ 0 → Wrote d₀ 0 (spell image (tokens_of s l)) o d
  unfolding spell
  rewriting-end h = writing-end (spell image (tokens_of s l)) d₀ d o (spell image (row_tokens s w.row)) w.writing (ap (spell image) (rest_end s l p w.row w.rest (omega arith)))

  module _ (h : 0 < p.pending) {x : Advance} (e : x ≡ step_of s l p.at p.pending) where
    abbrev pub rewriting-turn : Stepped s l p w.row x
    rewriting-turn = rest-step s l p w.row w.rest h x e

    abbrev token : Token
    token = token_over (get_or l p.at 0) x

    image-here : spell image (row_tokens s w.row) ≡ image token ++ spell image (row_tokens s rewriting-turn.rest)
    unfolding spell
    image-here = ap (spell image) rewriting-turn.head

    fields-here : AllTokens (FieldedAt rule) (token ∷ row_tokens s rewriting-turn.rest)
    fields-here = subst (AllTokens (FieldedAt rule)) rewriting-turn.head w.fields

    pub rewriting-room : ((i : ℕ) → get_or l i 0 < dim_space) → length (spell image (tokens_of s l)) ≤ length d₀ → DimOver x × FieldedAt rule token × (o + length (image token) ≤ length d)
    rewriting-room i g = (
      rewriting-turn.field i,
      fields-here.0,
      writing-room (spell image (tokens_of s l)) d₀ d o (spell image (row_tokens s w.row)) w.writing (image token) (spell image (row_tokens s rewriting-turn.rest)) image-here g,
    )

    pub rewriting-more : {q : Place} → q ≡ place_by x → {o' : ℕ} {d' : List ℕ} → Wrote d o (image token) o' d' → Rewriting s rule u v l d₀ d' q o'
    rewriting-more i {o'} {d'} y =
        record {
          row = rewriting-turn.rest;
          rest = subst (λ (z : Place). Rest s l z rewriting-turn.rest) (sym i) rewriting-turn.after;
          fields = fields-here.1;
          writing = writing_more (spell image (tokens_of s l)) d₀ d o (spell image (row_tokens s w.row)) w.writing (image token) (spell image (row_tokens s rewriting-turn.rest)) image-here o' d' y;
        }
