-- Texts of formulas, by their first byte.
use Prim.Native.Nat.{ℕ, ◌+◌, ◌*◌, ◌≤◌, ◌<◌}
use native.Mathlib.Omega.{arith}
use mathlib.Core.Path.{◌≡◌, refl, sym, ap, ◌∙◌, subst}
use mathlib.Core.List.{List, [], ◌∷◌, ◌++◌}
use lib.ListN.{length, get_or, length-append}
use Rattle.formula.specs.declared.Sort.{Sort}
use Rattle.formula.specs.declared.Sort.TheVariants.{Faces, Intervals}
use Rattle.formula.specs.declared.Kind.{Kind}
use Rattle.formula.specs.declared.Kind.TheVariants.{Nullary, Literal, Unary, Binary}
use Rattle.formula.specs.Bytes.{Tree, dim_bytes, Node, leaf, lit, one, two, bad, node_of, Got, nothing, got, then, front, read, nodes, bound, max_bound}
use Rattle.formula.specs.Answers.{kind_by, kind_of}
use Rattle.formula.proofs.Nodes.{EachNode, each-node, made_as, tree-ind}
use Rattle.formula.proofs.Reading.{got-value, got-rest, nothing-got, read-nil, read-cons}
use Rattle.calculus.specs.Table.{text_bytes}
use Rattle.text.specs.Words.{first_kind}
use Rattle.writing.specs.Texts.{items_text, list_text, unary_text, face_text, interval_text, formula_text}
use Rattle.writing.specs.Writing.{node_name, Names}
use Rattle.writing.proofs.NumberLaws.{unary-length}

-- The text of a formula that begins with a byte, by its node.
pub record Spelt (s : Sort) (b : ℕ) (A : Type 0) : Type 0 where
  pub named : Names s b
  pub short : length (node_name s b) ≤ 4
  pub text : A

abbrev pub Spells : (s : Sort) → ℕ → Node (Tree s) → Type 0
Spells s b (leaf t) = Spelt s b (formula_text s t ≡ node_name s b)
Spells s b (lit g) = Spelt s b ((n : ℕ) → formula_text s (g n) ≡ list_text (node_name s b) (unary_text n ∷ []))
Spells s b (one u) = Spelt s b ((x : Tree s) → formula_text s (u x) ≡ list_text (node_name s b) (formula_text s x ∷ []))
Spells s b (two v) = Spelt s b ((x y : Tree s) → formula_text s (v x y) ≡ list_text (node_name s b) (formula_text s x ∷ formula_text s y ∷ []))
Spells s b bad = Unit {0}

named : {s : Sort} {b : ℕ} → first_kind s ≤ b → b < first_kind s + 6 → Names s b
named h k = record { from = h; below = k }

spells-face : EachNode Faces (Spells Faces)
unfolding face_text text_bytes
spells-face =
    record {
      at0 = record { named = named (omega arith) (omega arith); short = omega arith; text = refl };
      at1 = record { named = named (omega arith) (omega arith); short = omega arith; text = refl };
      at2 = record { named = named (omega arith) (omega arith); short = omega arith; text = λ n. refl };
      at3 = record { named = named (omega arith) (omega arith); short = omega arith; text = λ n. refl };
      at4 = record { named = named (omega arith) (omega arith); short = omega arith; text = λ x y. refl };
      at5 = record { named = named (omega arith) (omega arith); short = omega arith; text = λ x y. refl };
      none = λ b. tt;
    }

spells-interval : EachNode Intervals (Spells Intervals)
unfolding interval_text text_bytes
spells-interval =
    record {
      at0 = record { named = named (omega arith) (omega arith); short = omega arith; text = refl };
      at1 = record { named = named (omega arith) (omega arith); short = omega arith; text = refl };
      at2 = record { named = named (omega arith) (omega arith); short = omega arith; text = λ n. refl };
      at3 = record { named = named (omega arith) (omega arith); short = omega arith; text = λ x. refl };
      at4 = record { named = named (omega arith) (omega arith); short = omega arith; text = λ x y. refl };
      at5 = record { named = named (omega arith) (omega arith); short = omega arith; text = λ x y. refl };
      none = λ b. tt;
    }

spells : (s : Sort) (b : ℕ) → Spells s b (node_of s b)
spells Faces b = each-node Faces (Spells Faces) spells-face b
spells Intervals b = each-node Intervals (Spells Intervals) spells-interval b

pub spells-as : (s : Sort) (b : ℕ) (k : Node (Tree s)) → node_of s b ≡ k → Spells s b k
spells-as s b k e = subst (Spells s b) e (spells s b)

-- What a reading in front of bytes shows: the first byte's node, and what is read behind it.
pub data View (s : Sort) (l : List ℕ) : Tree s → List ℕ → Kind → Type 0 where
  a-leaf : (b : ℕ) (t : Tree s) (m : List ℕ) → node_of s b ≡ leaf t → l ≡ b ∷ m → View s l t m Nullary
  a-lit : (b n : ℕ) (g : ℕ → Tree s) (m : List ℕ) → node_of s b ≡ lit g → l ≡ b ∷ dim_bytes n ++ m → View s l (g n) m Literal
  a_one : (b : ℕ) (u : Tree s → Tree s) (x : Tree s) (r m : List ℕ) → node_of s b ≡ one u → l ≡ b ∷ r → read s r ≡ got x m → View s l (u x) m Unary
  a-two : (b : ℕ) (v : Tree s → Tree s → Tree s) (x y : Tree s) (r p m : List ℕ) → node_of s b ≡ two v → l ≡ b ∷ r → read s r ≡ got x p → read s p ≡ got y m → View s l (v x y) m Binary

module _ (s : Sort) where
  abbrev Seen : List ℕ → Kind → Type 0
  Seen l k = (t : Tree s) (m : List ℕ) → read s l ≡ got t m → View s l t m k

  see-one : (b : ℕ) (l : List ℕ) (u : Tree s → Tree s) → node_of s b ≡ one u → (r : Got (Tree s)) → read s l ≡ r → (t : Tree s) (m : List ℕ) → then r (λ x. got (u x)) ≡ got t m → View s (b ∷ l) t m Unary
  see-one b l u e nothing i t m h = absurd (nothing-got h)
  see-one b l u e (got x p) i t m h =
      subst (λ (t : Tree s). View s (b ∷ l) t m Unary) (got-value h) (a_one b u x l m e refl (i ∙ ap (got x) (got-rest h)))

  see-second : (b : ℕ) (l p : List ℕ) (v : Tree s → Tree s → Tree s) (x : Tree s) → node_of s b ≡ two v → read s l ≡ got x p → (r : Got (Tree s)) → read s p ≡ r
      → (t : Tree s) (m : List ℕ) → then r (λ y. got (v x y)) ≡ got t m → View s (b ∷ l) t m Binary
  see-second b l p v x e i nothing j t m h = absurd (nothing-got h)
  see-second b l p v x e i (got y q) j t m h =
      subst (λ (t : Tree s). View s (b ∷ l) t m Binary) (got-value h) (a-two b v x y l p m e refl i (j ∙ ap (got y) (got-rest h)))

  see-two : (b : ℕ) (l : List ℕ) (v : Tree s → Tree s → Tree s) → node_of s b ≡ two v → (r : Got (Tree s)) → read s l ≡ r
      → (t : Tree s) (m : List ℕ) → then r (λ x q. then (read s q) (λ y. got (v x y))) ≡ got t m → View s (b ∷ l) t m Binary
  see-two b l v e nothing i t m h = absurd (nothing-got h)
  see-two b l v e (got x p) i t m h = see-second b l p v x e i (read s p) refl t m h

  see-front : (b : ℕ) (l : List ℕ) (k : Node (Tree s)) → node_of s b ≡ k → (t : Tree s) (m : List ℕ) → front k (read s) l ≡ got t m → View s (b ∷ l) t m (kind_by k)
  see-front b l (leaf x) e t m h = subst (λ (t : Tree s). View s (b ∷ l) t m Nullary) (got-value h) (a-leaf b x m e (ap (λ (r : List ℕ). b ∷ r) (got-rest h)))
  see-front b [] (lit g) e t m h = absurd (nothing-got h)
  see-front b (n ∷ l) (lit g) e t m h = subst (λ (t : Tree s). View s (b ∷ n ∷ l) t m Literal) (got-value h) (a-lit b n g m e (ap (λ (r : List ℕ). b ∷ n ∷ r) (got-rest h)))
  see-front b l (one u) e t m h = see-one b l u e (read s l) refl t m h
  see-front b l (two v) e t m h = see-two b l v e (read s l) refl t m h
  see-front b l bad e t m h = absurd (nothing-got h)

  pub view : (l : List ℕ) → Seen l (kind_of s (get_or l 0 0))
  unfolding kind_of
  view [] t m h = absurd (nothing-got (sym (read-nil s) ∙ h))
  view (b ∷ l) t m h = see-front b l (node_of s b) refl t m (sym (read-cons s b l) ∙ h)

  -- The same, where the kind is known.
  pub viewed : {l : List ℕ} {t : Tree s} {m : List ℕ} {k r : Kind} → read s l ≡ got t m → r ≡ kind_of s (get_or l 0 0) → r ≡ k → View s l t m k
  viewed {l} {t} {m} h e f = subst (View s l t m) (sym e ∙ f) (view l t m h)

-- A text takes at most 1,032 bytes for each node.
pub text-long : (s : Sort) (t : Tree s) → bound s t ≤ max_bound → length (formula_text s t) ≤ 1032 * nodes s t
unfolding items_text
text-long s = tree-ind s (λ t. bound s t ≤ max_bound → length (formula_text s t) ≤ 1032 * nodes s t) (record {
  at_leaf = λ b t e h. let k = made_as s b (leaf t) e in let p = spells-as s b (leaf t) e in omega (arith, ap length p.text, p.short, k.count);
  at-lit = λ b n g e h.
      let k = made_as s b (lit g) e n in
      let p = spells-as s b (lit g) e in
      omega (arith, ap length (p.text n), length-append (node_name s b) (items_text (unary_text n ∷ [])), length-append (unary_text n) (41 ∷ []), unary-length n, p.short, k.count, k.top, h);
  at_one = λ b u x e i h.
      let k = made_as s b (one u) e x in
      let p = spells-as s b (one u) e in
      let q : bound s x ≤ max_bound = omega (arith, k.top, h) in
      omega (arith, ap length (p.text x), length-append (node_name s b) (items_text (formula_text s x ∷ [])), length-append (formula_text s x) (41 ∷ []), i q, p.short, k.count);
  at-two = λ b v x y e i j h.
      let k = made_as s b (two v) e x y in
      let p = spells-as s b (two v) e in
      let q : bound s x ≤ max_bound = omega (arith, k.top, h) in
      let r : bound s y ≤ max_bound = omega (arith, k.top, h) in
      omega (arith, ap length (p.text x y), length-append (node_name s b) (items_text (formula_text s x ∷ formula_text s y ∷ [])), length-append (formula_text s x) (items_text (formula_text s y ∷ [])), length-append (formula_text s y) (41 ∷ []), i q, j r, p.short, k.count);
})
