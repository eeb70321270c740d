-- The reader of formulas, from a place of a text on.
use Prim.Native.Nat.{ℕ, zero, suc, ◌+◌, ◌-◌, ◌≤◌}
use native.Mathlib.Omega.{arith}
use mathlib.Core.Path.{◌≡◌, refl, sym, ap, ap₂, ◌∙◌, subst}
use mathlib.Core.List.{List, ◌∷◌, ◌++◌}
use lib.ListN.{length, drop, set, length-append}
use lib.Seq.{sets, length-sets}
use native.Mathlib.Nat.{add-zero}
use Rattle.formula.specs.declared.Sort.{Sort}
use Rattle.formula.specs.declared.Kind.{Kind}
use Rattle.formula.specs.declared.Kind.TheVariants.{Nullary, Literal, Unary, Binary, Unknown}
use Rattle.formula.specs.Bytes.{Tree, dim_bytes, encode, Node, leaf, lit, one, two, bad, node_of}
use Rattle.formula.specs.Answers.{kind_by, kind_of}
use Rattle.formula.proofs.Nodes.{Made, made_as}
use Rattle.formula.proofs.Nodes.{len_short}
use Rattle.refusals.specs.declared.Refusal.{Refusal}
use Rattle.refusals.specs.declared.Refusal.TheVariants.{TooManyNodes, NotAccepted}
use Rattle.refusals.specs.Refusals.{map}
use Rattle.std.specs.Prelude.{Result, Ok, Err, Option, Some, None, option_map, unwrap_or, position, [], ◌<◌}
use Rattle.std.proofs.lemmas.List.Quantifiers.{position-Some}
use Rattle.formula.specs.declared.Sort.TheVariants.{Faces, Intervals}
use Rattle.formula.specs.Answers.{same_bytes}
use Rattle.text.specs.Tokens.{Token, tokens}
use Rattle.text.specs.Words.{names, first_kind, kind_named, node_if, node_named}
use Rattle.text.specs.Reading.{Item, part, part_list, number, close, Reader, counted, bare_node, list_node, max_dim, run}
use Rattle.text.specs.Scanning.{between, Lexes, Closes, number_at, Numerals}
use Rattle.text.specs.Parsing.{headed, Heads, Shape, single, double, dimension, Thing, bytes_in, nodes_in, bound_in, Ready, ShapeReader, from, part_at, part_list_at, last_at, both_at, literal_at, bare_at, node_at, Found, Parses, Ends}
use Rattle.text.specs.declared.Token.{Token as Answered}
use Rattle.text.specs.declared.Token.TheVariants.{Open, Close, Word, End}
use Rattle.text.specs.declared.Numeral.{Numeral}
use Rattle.text.specs.declared.Cursor.{Cursor}
use Rattle.text.proofs.ReadLaws.{map-map}

-- A run of stores after another.
pub sets-append : (xs ys d : List ℕ) (i : ℕ) → sets (sets d i xs) (i + length xs) ys ≡ sets d i (xs ++ ys)
sets-append [] ys d i = ap (λ (n : ℕ). sets d n ys) (add-zero i)
sets-append (x ∷ xs) ys d i = ap (λ (n : ℕ). sets (sets (set d i x) (suc i) xs) n ys) (omega arith) ∙ sets-append xs ys (set d i x) (suc i)

-- The cursor at another place.
abbrev pub moved : Cursor → ℕ → Cursor
moved c e = record { at = e; to = c.to; left = c.left }

-- Another reader that goes the same way, from a place before.
pub parses-moved : {x : Shape} {F G : ShapeReader x} {l out out' : List ℕ} {c : Cursor} {e : ℕ} {r : Result Cursor Refusal} → ((K : List Item) → F K ≡ G K) → c.at ≤ e → Parses x G l (moved c e) out r out' → Parses x F l c out r out'
parses-moved {r = Ok d} p q h = let k = h.it in record { it = record { thing = k.thing; reads = λ K. p K ∙ k.reads K; ahead = omega (arith, q, k.ahead); inside = k.inside; wrote = k.wrote; upto = k.upto; count = k.count; low = k.low } }
parses-moved {r = Err y} p q h = record { it = λ K. p K ∙ h.it K }

-- An expression by its first token.
module _ {s : Sort} {l out out' : List ℕ} {c : Cursor} {r : Result Cursor Refusal} where
  pub part-open : {e : ℕ} → Lexes l c.at (Open e) → Parses (single s) (part_list_at s l (moved c e)) l (moved c e) out r out' → Parses (single s) (part_at s l c) l c out r out'
  unfolding run
  part-open {e} h k = parses-moved {F = part_at s l c} {G = part_list_at s l (moved c e)} (λ K. ap (λ (ts : List Token). run ts c.left (part s ∷ K)) h.it.0) (omega (arith, h.it.1)) k

  pub part-word : {b e : ℕ} → Lexes l c.at (Word b e) → Parses (single s) (bare_at s l b (moved c e)) l (moved c e) out r out' → Parses (single s) (part_at s l c) l c out r out'
  unfolding run
  part-word {b} {e} h k = parses-moved {F = part_at s l c} {G = bare_at s l b (moved c e)} (λ K. ap (λ (ts : List Token). run ts c.left (part s ∷ K)) h.it.0) (omega (arith, h.it.1, h.it.2)) k

  pub list-word : {b e : ℕ} → Lexes l c.at (Word b e) → Parses (single s) (node_at s l b (moved c e)) l (moved c e) out r out' → Parses (single s) (part_list_at s l c) l c out r out'
  unfolding run
  list-word {b} {e} h k = parses-moved {F = part_list_at s l c} {G = node_at s l b (moved c e)} (λ K. ap (λ (ts : List Token). run ts c.left (part_list s ∷ K)) h.it.0) (omega (arith, h.it.1, h.it.2)) k

-- Where no such token stands.
pub part-not : {s : Sort} {l out : List ℕ} {c : Cursor} (t : Answered) → Lexes l c.at t → ((e : ℕ) → t ≡ Open e → ⊥) → ((b e : ℕ) → t ≡ Word b e → ⊥) → Parses (single s) (part_at s l c) l c out (Err NotAccepted) out
unfolding run
part-not (Open e) h f g = absurd (f e refl)
part-not {s} {c = c} (Close e) h f g = record { it = λ K. ap (λ (ts : List Token). run ts c.left (part s ∷ K)) h.it.0 }
part-not (Word b e) h f g = absurd (g b e refl)
part-not {s} {c = c} End h f g = record { it = λ K. ap (λ (ts : List Token). run ts c.left (part s ∷ K)) h.it }

pub list-not : {s : Sort} {l out : List ℕ} {c : Cursor} (t : Answered) → Lexes l c.at t → ((b e : ℕ) → t ≡ Word b e → ⊥) → Parses (single s) (part_list_at s l c) l c out (Err NotAccepted) out
unfolding run
list-not {s} {c = c} (Open e) h f = record { it = λ K. ap (λ (ts : List Token). run ts c.left (part_list s ∷ K)) h.it.0 }
list-not {s} {c = c} (Close e) h f = record { it = λ K. ap (λ (ts : List Token). run ts c.left (part_list s ∷ K)) h.it.0 }
list-not (Word b e) h f = absurd (f b e refl)
list-not {s} {c = c} End h f = record { it = λ K. ap (λ (ts : List Token). run ts c.left (part_list s ∷ K)) h.it }

-- The end of a list.
pub ends_read : {l : List ℕ} {c : Cursor} {e : ℕ} → Closes l c.at (Ok e) → Ends l c (Ok (moved c e))
ends_read {c = c} h = record { it = record { reads = λ K. h.it.0 c.left K; ahead = h.it.1; inside = h.it.2; same-to = refl; same_left = refl } }

pub ends-missing : {l : List ℕ} {c : Cursor} {q : Refusal} → Closes l c.at (Err q) → Ends l c (Err q)
ends-missing {c = c} h = record { it = λ K. h.it c.left K }

-- The last part and the end, both parts, and the dimension.
pub last-parses : {s : Sort} {l out out₁ : List ℕ} {c d : Cursor} {r : Result Cursor Refusal} → Found (single s) (part_at s l c) l c out d out₁ → Ends l d r → Parses (single s) (last_at s l c) l c out r out₁
last-parses {r = Ok e} f h =
    let k = h.it in
    record {
      it = record {
        thing = f.thing;
        reads = λ K. f.reads (close ∷ K) ∙ ap (map (λ v. (f.thing, v))) (k.reads K);
        ahead = omega (arith, f.ahead, k.ahead);
        inside = k.inside;
        wrote = f.wrote;
        upto = k.same-to ∙ f.upto;
        count = omega (arith, k.same_left, f.count);
        low = f.low;
      };
    }
last-parses {r = Err y} f h = record { it = λ K. f.reads (close ∷ K) ∙ ap (map (λ v. (f.thing, v))) (h.it K) }

pub both-parses : {s : Sort} {l out out₁ out₂ : List ℕ} {c d : Cursor} {r : Result Cursor Refusal} → Found (single s) (part_at s l c) l c out d out₁ → Parses (single s) (last_at s l d) l d out₁ r out₂ → Parses (double s) (both_at s l c) l c out r out₂
both-parses {s} {l} {out} {out₁} {c = c} {d} {r = Ok e} f h =
    let k = h.it in
    let la = length-append (encode s f.thing) (encode s k.thing) in
    record {
      it = record {
        thing = (f.thing, k.thing);
        reads = λ K. ap (map (λ v. ((v.0, v.1.0), v.1.1))) (f.reads (part s ∷ close ∷ K) ∙ ap (map (λ v. (f.thing, v))) (k.reads K) ∙ map-map (λ v. (f.thing, v)) (λ v. (k.thing, v)) (from l e K)) ∙ map-map (λ v. ((v.0, v.1.0), v.1.1)) (λ v. (f.thing, (k.thing, v))) (from l e K);
        ahead = omega (arith, f.ahead, k.ahead);
        inside = k.inside;
        wrote = k.wrote ∙ ap₂ (λ (o : List ℕ) (n : ℕ). sets o n (encode s k.thing)) f.wrote f.upto ∙ sets-append (encode s f.thing) (encode s k.thing) out c.to;
        upto = omega (arith, k.upto, f.upto, la);
        count = omega (arith, k.count, f.count);
        low = omega (arith, f.low, k.low);
      };
    }
both-parses {s} {r = Err y} f h = record { it = λ K. ap (map (λ v. ((v.0, v.1.0), v.1.1))) (f.reads (part s ∷ close ∷ K) ∙ ap (map (λ v. (f.thing, v))) (h.it K)) }

pub literal-parses : {l out out₁ : List ℕ} {c : Cursor} {m : Numeral} {r : Result Cursor Refusal} → out₁ ≡ sets out c.to (dim_bytes m.n) → Numerals (number_at l c.at max_dim) l c.at max_dim (Ok m)
    → Ends l (record { at = m.end; to = c.to + 1; left = c.left }) r → Parses dimension (literal_at l c) l c out r out₁
literal-parses {c = c} {m} {r = Ok d} w g h =
    let f = g.it in
    let k = h.it in
    record {
      it = record {
        thing = m.n;
        reads = λ K. f.reads c.left (close ∷ K) ∙ ap (map (λ v. (m.n, v))) (k.reads K);
        ahead = omega (arith, f.ahead, k.ahead);
        inside = k.inside;
        wrote = w;
        upto = k.same-to;
        count = omega (arith, k.same_left);
        low = omega (arith, f.low);
      };
    }
literal-parses {c = c} {m} {r = Err y} w f h = record { it = λ K. f.it.reads c.left (close ∷ K) ∙ ap (map (λ v. (m.n, v))) (h.it K) }

pub literal-refused : {l out : List ℕ} {c : Cursor} {q : Refusal} → Numerals (number_at l c.at max_dim) l c.at max_dim (Err q) → Parses dimension (literal_at l c) l c out (Err q) out
literal-refused {c = c} h = record { it = λ K. h.it c.left (close ∷ K) }

-- Room goes on where the output is as long, and is left by the nodes that were read.
pub ready-behind : {s : Sort} {F : ShapeReader (single s)} {l out out₁ : List ℕ} {c d : Cursor} → Ready c l out → Found (single s) F l c out d out₁ → Ready d l out₁
ready-behind {s} {out = out} {c = c} h f =
    let a = ap length f.wrote ∙ length-sets out c.to (encode s f.thing) in
    record { inside = f.inside; room = omega (arith, h.room, f.upto, f.count, len_short s f.thing, a) }

-- Nodes by their kinds ---------------------------------------------------------------------------------

bare-other : {A : Type 0} (x : Node A) (n : ℕ) (K : List Item) (go : Reader) → (kind_by x ≡ Nullary → ⊥) → bare_node x n K go ≡ Err NotAccepted
bare-other (leaf t) n K go e = absurd (e refl)
bare-other (lit g) n K go e = refl
bare-other (one g) n K go e = refl
bare-other (two g) n K go e = refl
bare-other bad n K go e = refl

bare-full : {A : Type 0} (x : Node A) (n : ℕ) (K : List Item) (go : Reader) → kind_by x ≡ Nullary → n ≡ 0 → bare_node x n K go ≡ Err TooManyNodes
bare-full (leaf t) n K go e z = ap (λ (n : ℕ). counted n (λ m. map (λ v. (t, v)) (go m K))) z
bare-full (lit g) n K go e z = cc
bare-full (one g) n K go e z = cc
bare-full (two g) n K go e z = cc
bare-full bad n K go e z = cc

list_full : (s : Sort) (x : Node (Tree s)) (n : ℕ) (K : List Item) (go : Reader) → (kind_by x ≡ Unknown → ⊥) → n ≡ 0 → list_node s x n K go ≡ Err TooManyNodes
list_full s (leaf t) n K go e z = ap (λ (n : ℕ). list_node s (leaf t) n K go) z
list_full s (lit g) n K go e z = ap (λ (n : ℕ). list_node s (lit g) n K go) z
list_full s (one g) n K go e z = ap (λ (n : ℕ). list_node s (one g) n K go) z
list_full s (two g) n K go e z = ap (λ (n : ℕ). list_node s (two g) n K go) z
list_full s bad n K go e z = absurd (e refl)

-- One node less is left.
one_less : {A : Type 0} (n : ℕ) (k : ℕ → Result A Refusal) → (n ≡ 0 → ⊥) → counted n k ≡ k (n - 1)
one_less zero k z = absurd (z refl)
one_less (suc m) k z = let p : m ≡ suc m - 1 = omega arith in ap k p

-- A bare constant.
bare-found : {s : Sort} {l out : List ℕ} {c : Cursor} (k : ℕ) (x : Node (Tree s)) → node_of s k ≡ x → kind_by x ≡ Nullary → (c.left ≡ 0 → ⊥) → c.at ≤ length l
    → Found (single s) (λ K. bare_node x c.left K (run (tokens (drop c.at l)))) l c out (headed c) (set out c.to k)
bare-found {s} {l} {out} {c} k (leaf t) i e z h =
    let m = made_as s k (leaf t) i in
    record {
      thing = t;
      reads = λ K. one_less c.left (λ n. map (λ v. (t, v)) (run (tokens (drop c.at l)) n K)) z;
      ahead = omega arith;
      inside = h;
      wrote = ap (sets out c.to) (sym m.bytes);
      upto = let p = ap length m.bytes in omega (arith, p);
      count = omega (arith, z, m.count);
      low = omega (arith, m.top);
    }
bare-found k (lit g) i e z h = cc
bare-found k (one g) i e z h = cc
bare-found k (two g) i e z h = cc
bare-found k bad i e z h = cc

-- A node over what its list holds: by the shape of that, and how the node is made of it.
node_over : {s : Sort} {y : Shape} {F : ShapeReader (single s)} {G : ShapeReader y} {l out out₂ : List ℕ} {k : ℕ} {c : Cursor} {r : Result Cursor Refusal} (over : Thing y → Tree s)
    → ((K : List Item) → F K ≡ map (λ v. (over v.0, v.1)) (G K))
    → ((t : Thing y) → Made s (over t) (k ∷ bytes_in y t) (suc (nodes_in y t)) (bound_in y t))
    → (c.left ≡ 0 → ⊥) → Parses y G l (headed c) (set out c.to k) r out₂ → Parses (single s) F l c out r out₂
node_over {s} {y} {F} {G} {l} {out} {k = k} {c} {r = Ok d} over p made z g =
    let h = g.it in
    let m = made h.thing in
    let q : suc c.to ≡ c.to + 1 = omega arith in
    record {
      it = record {
        thing = over h.thing;
        reads = λ K. p K ∙ ap (map (λ v. (over v.0, v.1))) (h.reads K) ∙ map-map (λ v. (over v.0, v.1)) (λ v. (h.thing, v)) (from l d K);
        ahead = h.ahead;
        inside = h.inside;
        wrote = h.wrote ∙ ap (λ (n : ℕ). sets (set out c.to k) n (bytes_in y h.thing)) (sym q) ∙ ap (sets out c.to) (sym m.bytes);
        upto = let p = ap length m.bytes in omega (arith, h.upto, p);
        count = omega (arith, z, h.count, m.count);
        low = omega (arith, h.low, m.top);
      };
    }
node_over {r = Err e} over p made z h = record { it = λ K. p K ∙ ap (map (λ v. (over v.0, v.1))) (h.it K) }

-- What follows the first word of a list.
abbrev pub Listed : (s : Sort) → List ℕ → Cursor → Node (Tree s) → ShapeReader (single s)
Listed s l c x K = list_node s x c.left K (run (tokens (drop c.at l)))

-- A constant alone in its list.
leaf-over : {s : Sort} {l out : List ℕ} {c : Cursor} {r : Result Cursor Refusal} (k : ℕ) (t : Tree s) → node_of s k ≡ leaf t → (c.left ≡ 0 → ⊥) → Ends l (headed c) r → Parses (single s) (Listed s l c (leaf t)) l c out r (set out c.to k)
leaf-over {s} {l} {out} {c} {r = Ok d} k t i z h =
    let m = made_as s k (leaf t) i in
    let e = h.it in
    record {
      it = record {
        thing = t;
        reads = λ K. one_less c.left (λ n. map (λ v. (t, v)) (run (tokens (drop c.at l)) n (close ∷ K))) z ∙ ap (map (λ v. (t, v))) (e.reads K);
        ahead = omega (arith, e.ahead);
        inside = e.inside;
        wrote = ap (sets out c.to) (sym m.bytes);
        upto = let p = ap length m.bytes in omega (arith, e.same-to, p);
        count = omega (arith, z, e.same_left, m.count);
        low = omega (arith, m.top);
      };
    }
leaf-over {l = l} {c = c} {r = Err q} k t i z h = record { it = λ K. one_less c.left (λ n. map (λ v. (t, v)) (run (tokens (drop c.at l)) n (close ∷ K))) z ∙ ap (map (λ v. (t, v))) (h.it K) }

module _ (s : Sort) {l out : List ℕ} (k : ℕ) {c : Cursor} {r : Result Cursor Refusal} (z : c.left ≡ 0 → ⊥) where
  pub list-nullary : (x : Node (Tree s)) → node_of s k ≡ x → kind_by x ≡ Nullary → Ends l (headed c) r → Parses (single s) (Listed s l c x) l c out r (set out c.to k)
  list-nullary (leaf t) i e h = leaf-over k t i z h
  list-nullary (lit g) i e h = cc
  list-nullary (one g) i e h = cc
  list-nullary (two g) i e h = cc
  list-nullary bad i e h = cc

  pub list-literal : {out₂ : List ℕ} (x : Node (Tree s)) → node_of s k ≡ x → kind_by x ≡ Literal → Parses dimension (literal_at l (headed c)) l (headed c) (set out c.to k) r out₂ → Parses (single s) (Listed s l c x) l c out r out₂
  list-literal (leaf t) i e h = cc
  list-literal (lit g) i e h = node_over {y = dimension} {F = Listed s l c (lit g)} {G = literal_at l (headed c)} g (λ K. one_less c.left (λ n. map (λ v. (g v.0, v.1)) (run (tokens (drop c.at l)) n (number max_dim ∷ close ∷ K))) z) (λ n. made_as s k (lit g) i n) z h
  list-literal (one g) i e h = cc
  list-literal (two g) i e h = cc
  list-literal bad i e h = cc

  pub list-unary : {out₂ : List ℕ} (x : Node (Tree s)) → node_of s k ≡ x → kind_by x ≡ Unary → Parses (single s) (last_at s l (headed c)) l (headed c) (set out c.to k) r out₂ → Parses (single s) (Listed s l c x) l c out r out₂
  list-unary (leaf t) i e h = cc
  list-unary (lit g) i e h = cc
  list-unary (one g) i e h = node_over {y = single s} {F = Listed s l c (one g)} {G = last_at s l (headed c)} g (λ K. one_less c.left (λ n. map (λ v. (g v.0, v.1)) (run (tokens (drop c.at l)) n (part s ∷ close ∷ K))) z) (λ a. made_as s k (one g) i a) z h
  list-unary (two g) i e h = cc
  list-unary bad i e h = cc

  pub list-binary : {out₂ : List ℕ} (x : Node (Tree s)) → node_of s k ≡ x → kind_by x ≡ Binary → Parses (double s) (both_at s l (headed c)) l (headed c) (set out c.to k) r out₂ → Parses (single s) (Listed s l c x) l c out r out₂
  list-binary (leaf t) i e h = cc
  list-binary (lit g) i e h = cc
  list-binary (one g) i e h = cc
  list-binary (two g) i e h = node_over {y = double s} {F = Listed s l c (two g)} {G = both_at s l (headed c)} (λ p. g p.0 p.1) (λ K. one_less c.left (λ n. map (λ v. (g v.0 v.1.0, v.1.1)) (run (tokens (drop c.at l)) n (part s ∷ part s ∷ close ∷ K))) z ∙ sym (map-map (λ v. (g v.0.0 v.0.1, v.1)) (λ v. ((v.0, v.1.0), v.1.1)) (from l (headed c) (part s ∷ part s ∷ close ∷ K)))) (λ p. made_as s k (two g) i p.0 p.1) z h
  list-binary bad i e h = cc

-- The names of a sort name nodes.
node-known : (s : Sort) (i : ℕ) → i < 6 → kind_by (node_of s (first_kind s + i)) ≡ Unknown → ⊥
unfolding node_of
node-known Faces zero h e = cc
node-known Faces (suc zero) h e = cc
node-known Faces (suc (suc zero)) h e = cc
node-known Faces (suc (suc (suc zero))) h e = cc
node-known Faces (suc (suc (suc (suc zero)))) h e = cc
node-known Faces (suc (suc (suc (suc (suc zero))))) h e = cc
node-known Faces (suc (suc (suc (suc (suc (suc i)))))) h e = omega (arith, h)
node-known Intervals zero h e = cc
node-known Intervals (suc zero) h e = cc
node-known Intervals (suc (suc zero)) h e = cc
node-known Intervals (suc (suc (suc zero))) h e = cc
node-known Intervals (suc (suc (suc (suc zero)))) h e = cc
node-known Intervals (suc (suc (suc (suc (suc zero))))) h e = cc
node-known Intervals (suc (suc (suc (suc (suc (suc i)))))) h e = omega (arith, h)

names-six : (s : Sort) → length (names s) ≡ 6
names-six Faces = refl
names-six Intervals = refl

kind-known : (s : Sort) (w : List ℕ) {k : ℕ} → Some k ≡ kind_named s w → kind_by (node_of s k) ≡ Unknown → ⊥
unfolding kind_named
kind-known s w {k} e h = go (position (λ x. same_bytes x w) (names s)) refl e
  where
    go : (o : Option ℕ) → position (λ x. same_bytes x w) (names s) ≡ o → Some k ≡ option_map (λ i. first_kind s + i) o → ⊥
    go None p q = cc
    go (Some i) p q =
        let n = position-Some (λ x. same_bytes x w) (names s) i [] p in
        let m : k ≡ first_kind s + i = ap (λ o. unwrap_or o 0) q in
        node-known s i (omega (arith, n.0, names-six s)) (ap (λ k. kind_by (node_of s k)) (sym m) ∙ h)

-- A word as the code has read it.
pub record WordRead (s : Sort) (l : List ℕ) (b : ℕ) (c : Cursor) (o : Option ℕ) : Type 0 where
  pub named : o ≡ kind_named s (between b c.at l)

pub word-as : {s : Sort} {l : List ℕ} {b : ℕ} {c : Cursor} {o : Option ℕ} → o ≡ kind_named s (between b c.at l) → WordRead s l b c o
word-as p = record { named = p }

-- A word that names no node.
module _ {s : Sort} {l out : List ℕ} {b : ℕ} {c : Cursor} (w : WordRead s l b c None) where
  pub node-none : Parses (single s) (node_at s l b c) l c out (Err NotAccepted) out
  node-none = record { it = λ K. ap (λ o. list_node s (node_if s o) c.left K (run (tokens (drop c.at l)))) (sym w.named) }

-- A word that names the node of a kind byte.
module _ {s : Sort} {l : List ℕ} {b : ℕ} {c : Cursor} {k : ℕ} (w : WordRead s l b c (Some k)) where
  node-is : node_of s k ≡ node_named s (between b c.at l)
  node-is = ap (node_if s) w.named

  kind-is : {n : Kind} → kind_of s k ≡ n → kind_by (node_named s (between b c.at l)) ≡ n
  unfolding kind_of
  kind-is e = ap kind_by (sym node-is) ∙ e

  known : kind_by (node_named s (between b c.at l)) ≡ Unknown → ⊥
  known p = kind-known s (between b c.at l) w.named (ap kind_by node-is ∙ p)

-- What holds at the cursor behind the head and at the output with its byte holds where the code has written it.
module _ {k : ℕ} {c d : Cursor} {out out₁ : List ℕ} (P : Cursor → List ℕ → Type 0) (h : Heads k c out (Ok d) out₁) where
  headed-as : P d out₁ → P (headed c) (set out c.to k)
  headed-as p = subst (P (headed c)) h.it.1 (subst (λ d. P d out₁) h.it.0 p)

  headed-back : P (headed c) (set out c.to k) → P d out₁
  headed-back p = subst (λ d. P d out₁) (sym h.it.0) (subst (P (headed c)) (sym h.it.1) p)

left-some : {k : ℕ} {c d : Cursor} {out out₁ : List ℕ} → Heads k c out (Ok d) out₁ → c.left ≡ 0 → ⊥
left-some h z = omega (arith, z, h.it.2)

module _ {s : Sort} {l out : List ℕ} {b : ℕ} {c : Cursor} {k : ℕ} (w : WordRead s l b c (Some k)) where
  pub bare-refused : (kind_of s k ≡ Nullary → ⊥) → Parses (single s) (bare_at s l b c) l c out (Err NotAccepted) out
  unfolding kind_of
  bare-refused e = record { it = λ K. bare-other (node_named s (between b c.at l)) c.left K (run (tokens (drop c.at l))) (λ p. e (ap kind_by (node-is w) ∙ p)) }

  pub bare-literal : kind_of s k ≡ Literal → Parses (single s) (bare_at s l b c) l c out (Err NotAccepted) out
  bare-literal p = bare-refused (λ e. let z : ◌≡◌ {A = ℕ} 0 1 = cc in omega arith)

  module _ {out₁ : List ℕ} where
    pub bare-read : {r : Result Cursor Refusal} → kind_of s k ≡ Nullary → c.at ≤ length l → Heads k c out r out₁ → Parses (single s) (bare_at s l b c) l c out r out₁
    bare-read {r = Ok d} e h g = headed-back (λ d o. Parses (single s) (bare_at s l b c) l c out (Ok d) o) g (record { it = bare-found k (node_named s (between b c.at l)) (node-is w) (kind-is w e) (left-some g) h })
    bare-read {r = Err q} e h g = record { it = λ K. bare-full (node_named s (between b c.at l)) c.left K (run (tokens (drop c.at l))) (kind-is w e) g.it.1 ∙ ap Err (sym g.it.0) }

    pub node-unknown : kind_of s k ≡ Unknown → Parses (single s) (node_at s l b c) l c out (Err NotAccepted) out₁
    node-unknown e = absurd (known w (kind-is w e))

    pub node-full : {q : Refusal} → Heads k c out (Err q) out₁ → Parses (single s) (node_at s l b c) l c out (Err q) out₁
    node-full g = record { it = λ K. list_full s (node_named s (between b c.at l)) c.left K (run (tokens (drop c.at l))) (known w) g.it.1 ∙ ap Err (sym g.it.0) }

    module _ {d : Cursor} {r : Result Cursor Refusal} (g : Heads k c out (Ok d) out₁) where
      pub node-nullary : kind_of s k ≡ Nullary → Ends l d r → Parses (single s) (node_at s l b c) l c out r out₁
      node-nullary e h = headed-back (λ d o. Parses (single s) (node_at s l b c) l c out r o) g (list-nullary s k (left-some g) (node_named s (between b c.at l)) (node-is w) (kind-is w e) (headed-as (λ d o. Ends l d r) g h))

      module _ {out₂ : List ℕ} where
        pub node-literal : kind_of s k ≡ Literal → Parses dimension (literal_at l d) l d out₁ r out₂ → Parses (single s) (node_at s l b c) l c out r out₂
        node-literal e h = list-literal s k (left-some g) (node_named s (between b c.at l)) (node-is w) (kind-is w e) (headed-as (λ d o. Parses dimension (literal_at l d) l d o r out₂) g h)

        pub node-unary : kind_of s k ≡ Unary → Parses (single s) (last_at s l d) l d out₁ r out₂ → Parses (single s) (node_at s l b c) l c out r out₂
        node-unary e h = list-unary s k (left-some g) (node_named s (between b c.at l)) (node-is w) (kind-is w e) (headed-as (λ d o. Parses (single s) (last_at s l d) l d o r out₂) g h)

        pub node-binary : kind_of s k ≡ Binary → Parses (double s) (both_at s l d) l d out₁ r out₂ → Parses (single s) (node_at s l b c) l c out r out₂
        node-binary e h = list-binary s k (left-some g) (node_named s (between b c.at l)) (node-is w) (kind-is w e) (headed-as (λ d o. Parses (double s) (both_at s l d) l d o r out₂) g h)

-- What is refused within a list is refused of it.
pub last-refused : {s : Sort} {l out out₁ : List ℕ} {c : Cursor} {q : Refusal} → Parses (single s) (part_at s l c) l c out (Err q) out₁ → Parses (single s) (last_at s l c) l c out (Err q) out₁
last-refused h = record { it = λ K. h.it (close ∷ K) }

pub both-refused : {s : Sort} {l out out₁ : List ℕ} {c : Cursor} {q : Refusal} → Parses (single s) (part_at s l c) l c out (Err q) out₁ → Parses (double s) (both_at s l c) l c out (Err q) out₁
both-refused {s} h = record { it = λ K. ap (map (λ v. ((v.0, v.1.0), v.1.1))) (h.it (part s ∷ close ∷ K)) }

-- Room at another place.
pub ready_moved : {c : Cursor} {l out : List ℕ} {e : ℕ} → Ready c l out → e ≤ length l → Ready (moved c e) l out
ready_moved h b = record { inside = b; room = h.room }
