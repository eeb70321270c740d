-- The tests of a context, face by face.
use Prim.Native.Nat.{ℕ, suc, ◌+◌, ◌-◌, ◌≤◌, ◌<◌}
use native.Mathlib.Omega.{arith}
use mathlib.Core.Path.{◌≡◌, refl, sym, ap, ◌∙◌, subst, subst₂}
use mathlib.Core.Bool.{Bool, true, false, ◌||◌, decide, false≢true}
use mathlib.Core.List.{List, [], ◌∷◌, ◌++◌, append_assoc, append-nil}
use lib.ListN.{length, get_or, take, drop}
use Rattle.formula.specs.declared.Sort.TheVariants.{Faces}
use Rattle.formula.specs.Formula.{lo, hi, end_of, Face, ff, ft, at, fand, for}
use Rattle.formula.specs.Bytes.{dim_bytes, encode_face, nodes_face, bound_face}
use Rattle.formula.specs.Answers.{tree_of}
use Rattle.formula.proofs.Nodes.{literal-kind}
use Rattle.formula.proofs.Reading.{encode-pos}
use Rattle.calculus.specs.Judgement.{same_face}
use Rattle.calculus.specs.Search.{Move, by-clash, stuck, ◌else◌, provided, has, clash_of, try_clash, split_of, try_left}
use Rattle.steps.specs.Trees.{Is, Known}
use Rattle.steps.proofs.TreeLaws.{tree-of, known}
use Rattle.std.specs.Prelude.{Option, None, Some}
use Rattle.contexts.specs.declared.context.Context.{Context}
use Rattle.contexts.specs.Faces.{faces_of, First}
use Rattle.contexts.specs.Moves.{clash_by, compound, Compound, FirstCompound}

-- A face in front, and another one.
pub has_same : (f x : Face) (H : List Face) → f ≡ x → true ≡ has f (x ∷ H)
unfolding has decide
has_same f x H e = go (same_face f x)
  where
    go : (d : Dec (f ≡ x)) → true ≡ (decide d || has f H)
    go (yes p) = refl
    go (no p) = absurd (p e)

pub has_other : (f x : Face) (H : List Face) → (f ≡ x → ⊥) → has f H ≡ has f (x ∷ H)
unfolding has decide
has_other f x H e = go (same_face f x)
  where
    go : (d : Dec (f ≡ x)) → has f H ≡ (decide d || has f H)
    go (yes p) = absurd (e p)
    go (no p) = refl

pub has-none : (f : Face) {G : List Face} → G ≡ [] → false ≡ has f G
unfolding has
has-none f e = sym (ap (has f) e)

-- The first byte of a face.
abbrev pub kind : Face → ℕ
kind x = get_or (encode_face x) 0 0

pub face-some : {x : Face} {l : List ℕ} → Is Faces x l → 0 < length l
face-some {x} w = omega (arith, ap length w.bytes, encode-pos Faces x)

pub first_byte : {x : Face} {l : List ℕ} → Is Faces x l → get_or l 0 0 ≡ kind x
first_byte w = ap (λ (m : List ℕ). get_or m 0 0) w.bytes

-- A constant and a compound do not clash.
constant : (x : Face) (G : List Face) → kind x < 2 → stuck ≡ clash_of G x
unfolding encode_face
constant ff G h = refl
constant ft G h = refl
constant (at lo n) G h = absurd (omega arith)
constant (at hi n) G h = absurd (omega arith)
constant (fand y z) G h = refl
constant (for y z) G h = refl

pub constant-free : {x : Face} {l : List ℕ} {b : ℕ} → Is Faces x l → (G : List Face) → b ≡ get_or l 0 0 → b < 2 → stuck ≡ clash_of G x
constant-free {x} w G e h = constant x G (omega (arith, first_byte w))

compound-kind : (x : Face) → 3 < kind x → compound x ≡ true
unfolding encode_face
compound-kind ff h = absurd (omega arith)
compound-kind ft h = absurd (omega arith)
compound-kind (at lo n) h = absurd (omega arith)
compound-kind (at hi n) h = absurd (omega arith)
compound-kind (fand y z) h = refl
compound-kind (for y z) h = refl

compound-stuck : (x : Face) (G : List Face) → compound x ≡ true → stuck ≡ clash_of G x
compound-stuck ff G e = refl
compound-stuck ft G e = refl
compound-stuck (at lo n) G e = cc
compound-stuck (at hi n) G e = cc
compound-stuck (fand y z) G e = refl
compound-stuck (for y z) G e = refl

pub compound-free : {x : Face} {l : List ℕ} {b : ℕ} → Is Faces x l → (G : List Face) → b ≡ get_or l 0 0 → 3 < b → stuck ≡ clash_of G x
compound-free {x} w G e h = compound-stuck x G (compound-kind x (omega (arith, first_byte w)))

-- The bytes of a literal, by its side.
pub literal-is : (side k : ℕ) {b : ℕ} {m : List ℕ} → k < 255 → side ≤ 1 → b ≡ 2 + side → m ≡ b ∷ dim_bytes k → Is Faces (at (end_of side) k) m
unfolding nodes_face bound_face
literal-is side k h i j e = record { bytes = e ∙ sym (literal-kind i j k); few = omega arith; low = omega arith }

-- The opposite of a literal of kind byte b, whose side is b - 2 and the other one 3 - b.
pub record Opposite (x : Face) (l : List ℕ) (b : ℕ) : Type 0 where
  pub least : 2 ≤ b
  pub long : length l ≡ 2
  pub low : get_or l 1 0 < 255
  pub says : (G : List Face) → clash_of G x ≡ provided (has (at (end_of (3 - b)) (get_or l 1 0)) G) (by-clash (get_or l 1 0))

literal : (x : Face) (l : List ℕ) → Is Faces x l → 2 ≤ kind x → kind x ≤ 3 → Opposite x l (kind x)
unfolding encode_face bound_face
literal ff l w h i = absurd (omega arith)
literal ft l w h i = absurd (omega arith)
literal (at lo n) l w h i =
    let e : get_or l 1 0 ≡ n = ap (λ (m : List ℕ). get_or m 1 0) w.bytes in
    record {
      least = h;
      long = ap length w.bytes;
      low = omega (arith, e, w.low);
      says = λ G. ap (λ (k : ℕ). provided (has (at hi k) G) (by-clash k)) (sym e);
    }
literal (at hi n) l w h i =
    let e : get_or l 1 0 ≡ n = ap (λ (m : List ℕ). get_or m 1 0) w.bytes in
    record {
      least = h;
      long = ap length w.bytes;
      low = omega (arith, e, w.low);
      says = λ G. ap (λ (k : ℕ). provided (has (at lo k) G) (by-clash k)) (sym e);
    }
literal (fand y z) l w h i = absurd (omega arith)
literal (for y z) l w h i = absurd (omega arith)

pub opposite : {x : Face} {l : List ℕ} {b : ℕ} → Is Faces x l → b ≡ get_or l 0 0 → 2 ≤ b → b ≤ 3 → Opposite x l b
opposite {x} {l} {b} w e h i =
    let f : b ≡ kind x = e ∙ first_byte w in
    subst (Opposite x l) (sym f) (literal x l w (omega arith) (omega arith))

module _ {x : Face} {l : List ℕ} {b : ℕ} (o : Opposite x l b) {c k : ℕ} (w : c ≡ 2 + (3 - b)) {m : List ℕ} (e : m ≡ c ∷ dim_bytes k) (j : k ≡ get_or l 1 0) where
  is : Is Faces (at (end_of (3 - b)) k) m
  is = literal-is (3 - b) k (omega (arith, j, o.low)) (omega (arith, o.least)) w e

  pub opposite-known : Known Faces m
  opposite-known = known is

  clashes : (G : List Face) (t : Bool) → t ≡ has (tree_of Faces m) G → clash_of G x ≡ provided t (by-clash k)
  clashes G t h =
      o.says G ∙ ap (λ (z : ℕ). provided (has (at (end_of (3 - b)) z) G) (by-clash z)) (sym j)
      ∙ ap (λ (y : Bool). provided y (by-clash k)) (sym (h ∙ ap (λ (f : Face). has f G) (tree-of is)))

  pub opposite-clash : (G : List Face) {t : Bool} → t ≡ has (tree_of Faces m) G → t ≡ true → by-clash k ≡ clash_of G x
  opposite-clash G h i = sym (clashes G true (sym i ∙ h))

  pub opposite-free : (G : List Face) {t : Bool} → t ≡ has (tree_of Faces m) G → t ≡ false → stuck ≡ clash_of G x
  opposite-free G h i = sym (clashes G false (sym i ∙ h))

-- The first clash, by the first face.
pub clash-none : {G : List Face} (K : List Face) → G ≡ [] → stuck ≡ try_clash K G
unfolding try_clash
clash-none K e = sym (ap (try_clash K) e)

clash-cons : (K : List Face) (f : Face) (H : List Face) → try_clash K (f ∷ H) ≡ (clash_of K f else try_clash K H)
unfolding try_clash
clash-cons K f H = refl

module _ (K : List Face) {g d : Context} {h : List ℕ} (v : First g h d) where
  clash-first : try_clash K (faces_of g) ≡ (clash_of K (tree_of Faces h) else try_clash K (faces_of d))
  clash-first =
      ap (try_clash K) v.whole ∙ clash-cons K v.first (faces_of d)
      ∙ ap (λ (f : Face). clash_of K f else try_clash K (faces_of d)) (sym (tree-of v.face))

  pub clash-here : {r : Option ℕ} {k : ℕ} → clash_by r ≡ clash_of K (tree_of Faces h) → r ≡ Some k → by-clash k ≡ try_clash K (faces_of g)
  clash-here {k} e f = sym (clash-first ∙ ap (λ (m : Move). m else try_clash K (faces_of d)) (sym e ∙ ap clash_by f))

  pub clash-there : {r : Option ℕ} {m : Move} → clash_by r ≡ clash_of K (tree_of Faces h) → r ≡ None → m ≡ try_clash K (faces_of d) → m ≡ try_clash K (faces_of g)
  clash-there e f i = i ∙ sym (clash-first ∙ ap (λ (m : Move). m else try_clash K (faces_of d)) (sym e ∙ ap clash_by f))

-- The first compound, by the first face.
pub compound-none : {G : List Face} → G ≡ [] → FirstCompound G None
unfolding try_left
compound-none e = λ b. ap (try_left b) e

here : (f : Face) (H : List Face) → compound f ≡ true → Compound (f ∷ H) 0
unfolding try_left
here ff H e = absurd (false≢true e)
here ft H e = absurd (false≢true e)
here (at d n) H e = absurd (false≢true e)
here (fand x y) H e = record { inside = omega arith; splits = λ b. ap (λ (c : List Face). split_of c (fand x y) H) (sym (append-nil b)); there = refl }
here (for x y) H e = record { inside = omega arith; splits = λ b. ap (λ (c : List Face). split_of c (for x y) H) (sym (append-nil b)); there = refl }

simple : (x : Face) → kind x ≤ 3 → (b a : List Face) → split_of b x a ≡ stuck
unfolding encode_face
simple ff h b a = refl
simple ft h b a = refl
simple (at lo n) h b a = refl
simple (at hi n) h b a = refl
simple (fand y z) h b a = absurd (omega arith)
simple (for y z) h b a = absurd (omega arith)

there : (f : Face) (H : List Face) (i : ℕ) → ((b a : List Face) → split_of b f a ≡ stuck) → Compound H i → Compound (f ∷ H) (suc i)
unfolding try_left
there f H i s v = record {
  inside = omega (arith, v.inside);
  splits = λ b.
      ap (λ (m : Move). m else try_left (b ++ f ∷ []) H) (s b H) ∙ v.splits (b ++ f ∷ [])
      ∙ ap (λ (c : List Face). split_of c (get_or H i ff) (drop (suc i) H)) (append_assoc b (f ∷ []) (take i H));
  there = v.there;
}

nowhere : (f : Face) (H : List Face) → ((b a : List Face) → split_of b f a ≡ stuck) → FirstCompound H None → FirstCompound (f ∷ H) None
unfolding try_left
nowhere f H s v = λ b. ap (λ (m : Move). m else try_left (b ++ f ∷ []) H) (s b H) ∙ v (b ++ f ∷ [])

module _ {g d : Context} {h : List ℕ} (v : First g h d) where
  pub compound-here : 3 < get_or h 0 0 → FirstCompound (faces_of g) (Some 0)
  compound-here e = subst (λ (K : List Face). FirstCompound K (Some 0)) (sym v.whole) (here v.first (faces_of d) (compound-kind v.first (omega (arith, first_byte v.face))))

  pub compound-there : {i : ℕ} → get_or h 0 0 ≤ 3 → FirstCompound (faces_of d) (Some i) → FirstCompound (faces_of g) (Some (1 + i))
  compound-there {i} e f =
      let s : suc i ≡ 1 + i = omega arith in
      subst₂ (λ (K : List Face) (k : ℕ). Compound K k) (sym v.whole) s (there v.first (faces_of d) i (simple v.first (omega (arith, first_byte v.face))) f)

  pub compound-nowhere : get_or h 0 0 ≤ 3 → FirstCompound (faces_of d) None → FirstCompound (faces_of g) None
  compound-nowhere e f = subst (λ (K : List Face). FirstCompound K None) (sym v.whole) (nowhere v.first (faces_of d) (simple v.first (omega (arith, first_byte v.face))) f)
