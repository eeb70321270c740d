-- What is answered of a normal form, question by question.
use Prim.Native.Nat.{ℕ, ◌+◌, ◌≤◌, ◌<◌}
use native.Mathlib.Omega.{arith}
use mathlib.Core.Path.{◌≡◌, refl, sym, ap, ap₂, ◌∙◌}
use mathlib.Core.Bool.{Bool, true, false, ◌&&◌}
use mathlib.Core.Option.{Option, none, some, some-injective, none-ne-some}
use mathlib.Core.List.{List}
use lib.Dec.{leb}
use Rattle.std.proofs.Common.{Some, None, Result, Ok, Err}
use lib.ListN.{length, take, drop}
use lib.Seq.{sets, sets-eq, length-sets, take-append_seam}
use borrow.Author.Tests.{le-leb, lt-leb, leb-true}
use Rattle.formula.specs.Formula
use Rattle.formula.specs.declared.Sort.TheVariants.{Faces}
use Rattle.formula.specs.declared.Size.{Size}
use Rattle.formula.specs.Bytes.{encode, encode_face, read_all, nodes_face, bound, max_nodes, max_bound}
use Rattle.formula.specs.Answers.{pick, size_of, size_read, keeps, measurement, operand}
use Rattle.formula.proofs.Measuring.{WholeSize}
use Rattle.formula.proofs.Operands.{Fitted, sized-fits, sized-refused, Opened, opened, opened-limits}
use Rattle.formula.proofs.Reading.{read_all-encode}
use Rattle.refusals.specs.declared.Refusal.{Refusal}
use Rattle.refusals.specs.declared.Refusal.TheVariants.{LargeResult, ShortOutput}
use Rattle.refusals.specs.Refusals.{map, of_one}
use Rattle.text.specs.Answers.{Delivered, delivered}
use Rattle.clauses.specs.Normal.{normal}
use Rattle.formula.proofs.Nodes.{len_short}
use Rattle.forms.specs.Forms.{Wrote}
use Rattle.dnf.specs.Forming.{short_normal, Whole, Normals}
use Rattle.normal.specs.Answers.{limited, normal_of, Formed, put, Normalises}
use Rattle.normal.specs.Delivering.{IsFace, Delivers, Gives}

-- ---- a face that was made, delivered

face-size : {l : List ℕ} {z : Size} → WholeSize Faces l z → (g : Formula.Face) → l ≡ encode_face g → z ≡ size_of Faces g
face-size s g e = sym s.size ∙ ap (size_of Faces) (some-injective _ _ (sym s.whole ∙ ap (read_all Faces) e ∙ read_all-encode Faces g))

limited-by : (g : Formula.Face) (out : List ℕ) {b : Bool} → keeps (size_of Faces g) ≡ b → put (limited (some g)) out ≡ put (pick b (Ok g) (Err LargeResult)) out
limited-by g out e = ap (λ b. put (pick b (Ok g) (Err LargeResult)) out) e

put-by : (g : Formula.Face) (out : List ℕ) {b : Bool} → leb (length (encode_face g)) (length out) ≡ b → put (Ok g) out ≡ pick b (record { answer = Ok (size_of Faces g); output = sets out 0 (encode_face g) }) (record { answer = Err ShortOutput; output = out })
put-by g out e = ap (λ b. pick b (record { answer = Ok (size_of Faces g); output = sets out 0 (encode_face g) }) (record { answer = Err ShortOutput; output = out })) e

module _ {l : List ℕ} {z : Size} (s : WholeSize Faces l z) where
  kept-as : {b : Bool} → keeps z ≡ b → (g : Formula.Face) → l ≡ encode_face g → keeps (size_of Faces g) ≡ b
  kept-as h g e = ap keeps (sym (face-size s g e)) ∙ h

  pub deliver-large : {out : List ℕ} → keeps z ≡ false → Delivers l out (Err LargeResult) out
  deliver-large {out} h = record { it = λ g e. limited-by g out (kept-as h g e) }

  pub deliver-short : {out : List ℕ} → keeps z ≡ true → length out < length l → Delivers l out (Err ShortOutput) out
  deliver-short {out} h k = record { it = λ g e. limited-by g out (kept-as h g e) ∙ put-by g out (lt-leb (length (encode_face g)) (length out) (omega (arith, k, ap length e))) }

  pub deliver-done : {out out' : List ℕ} → keeps z ≡ true → length l ≤ length out → out' ≡ sets out 0 l → Delivers l out (Ok z) out'
  deliver-done {out} {out'} h k i = record {
    it = λ g e.
        limited-by g out (kept-as h g e)
        ∙ put-by g out (le-leb (length (encode_face g)) (length out) (omega (arith, k, ap length e)))
        ∙ ap₂ (λ (y : Size) (o : List ℕ). record { answer = Ok y; output = o }) (sym (face-size s g e)) (ap (sets out 0) (sym e) ∙ sym i);
  }

pub face-measured : {l : List ℕ} {q : Refusal} → IsFace l → Err q ≡ measurement Faces l → ⊥
unfolding measurement
face-measured {q = q} p e = go (e ∙ ap (size_read Faces) (ap (read_all Faces) p.bytes ∙ read_all-encode Faces p.face))
  where
    go : Err q ≡ size_read Faces (some p.face) → ⊥
    go k = let i : ◌≡◌ {A = ℕ} 0 1 = cc in omega arith

-- ---- the bytes of a normal form, where there are any

pub whole_room : {f : List ℕ} {n small room : ℕ} → Whole f n small → 1024 ≤ room → Whole f n room
whole_room w h = record { face = w.face; bytes = w.bytes; nodes = w.nodes; few = w.few; low = w.low; writes = h }

-- What the bytes tell.
record Told (o : Option Formula.Face) (x : List ℕ) : Type 0 where
  face : Formula.Face
  is : o ≡ some face
  bytes : x ≡ encode_face face
  few : nodes_face face ≤ max_nodes

kept-nodes : (g : Formula.Face) → leb (nodes_face g) max_nodes ≡ false → keeps (size_of Faces g) ≡ false
kept-nodes g e = ap (λ b. b && leb (bound Faces g) max_bound) e

no_bytes : (o : Option Formula.Face) (out : List ℕ) → short_normal o ≡ none → put (limited o) out ≡ record { answer = Err LargeResult; output = out }
no_bytes none out e = refl
no_bytes (some g) out e = go (leb (nodes_face g) max_nodes) refl e
  where
    go : (b : Bool) → leb (nodes_face g) max_nodes ≡ b → pick b (some (encode_face g)) none ≡ none → put (limited (some g)) out ≡ record { answer = Err LargeResult; output = out }
    go true h k = absurd (none-ne-some (encode_face g) (sym k))
    go false h k = limited-by g out (kept-nodes g h)

some_bytes : (o : Option Formula.Face) (x : List ℕ) → short_normal o ≡ some x → Told o x
some_bytes none x e = absurd (none-ne-some x e)
some_bytes (some g) x e = go (leb (nodes_face g) max_nodes) refl e
  where
    go : (b : Bool) → leb (nodes_face g) max_nodes ≡ b → pick b (some (encode_face g)) none ≡ some x → Told (some g) x
    go true h k = record { face = g; is = refl; bytes = sym (some-injective _ _ k); few = leb-true (nodes_face g) max_nodes h }
    go false h k = absurd (none-ne-some x k)

front_of : (x l : List ℕ) → length x ≤ length l → take (length x) (sets l 0 x) ≡ x
front_of x l h = ap (take (length x)) (sets-eq x l 0 (omega (arith, h))) ∙ take-append_seam x (drop (0 + length x) l)

pub formed-none : {f l l' out : List ℕ} {e : Refusal} → Normals f l None l' → ◌≡◌ {A = Result ℕ Refusal} (Err e) (Err LargeResult) → Gives f out (Err e) out
formed-none {out = out} {e} p k = let i : e ≡ LargeResult = cc in rw i (record { it = λ t q. no_bytes (normal t) out (p.it t q).told.0 })

module _ {f l : List ℕ} {n : ℕ} {l' : List ℕ} (p : Normals f l (Some n) l') where
  module _ (t : Formula.Face) (e : f ≡ encode_face t) where
    abbrev bytes : List ℕ
    bytes = (p.it t e).told.0

    wrote : Wrote l 0 bytes n l'
    wrote = (p.it t e).told.2

    told : Told (normal t) bytes
    told = some_bytes (normal t) bytes (p.it t e).told.1

    short : length bytes ≤ 1022
    short = omega (arith, ap length told.bytes, len_short Faces told.face, told.few)

    front : 1024 ≤ length l → take n l' ≡ encode_face told.face
    front k = let many : n ≡ length bytes = omega (arith, wrote.next) in ap₂ take many wrote.stored ∙ front_of bytes l (omega (arith, short, k)) ∙ told.bytes

    fits : 1024 ≤ length l → n ≤ length l'
    fits k = omega (arith, short, k, wrote.next, ap length wrote.stored, length-sets l 0 bytes)

  pub formed-fits : {m room : ℕ} → Whole f m room → 1024 ≤ length l → n ≤ length l'
  formed-fits w h = fits w.face w.bytes h

  pub formed-face : {m room : ℕ} → Whole f m room → 1024 ≤ length l → IsFace (take n l')
  formed-face w h = record { face = (told w.face w.bytes).face; bytes = front w.face w.bytes h }

  pub formed-gives : {out : List ℕ} {r : Result Size Refusal} {out' : List ℕ} → 1024 ≤ length l → Delivers (take n l') out r out' → Gives f out r out'
  formed-gives {out} h d = record { it = λ t e. let s = told t e in ap (λ o. put (limited o) out) s.is ∙ d.it s.face (front t e h) }

-- ---- the questions before

pub normal-refused : (f : List ℕ) {out : List ℕ} {q : Refusal} → Err q ≡ map (size_of Faces) (operand Faces f) → Normalises f out (Err q) out
normal-refused f {out} e = record { equal = ap (λ x. put (of_one (λ g. limited (normal g)) x) out) (sized-refused Faces (operand Faces f) e) }

module _ (f : List ℕ) {z : Size} (e : Ok z ≡ map (size_of Faces) (operand Faces f)) where
  abbrev s : Fitted Faces (operand Faces f) z
  s = sized-fits Faces (operand Faces f) e

  abbrev o : Opened Faces f s.tree
  o = opened Faces f s.tree s.is

  tree-nodes : nodes_face s.tree ≡ z.nodes
  tree-nodes = ap (λ (y : Size). y.nodes) s.size

  pub normal-whole : Whole f z.nodes 1024
  normal-whole = let k = opened-limits Faces o in record { face = s.tree; bytes = o.bytes; nodes = sym tree-nodes; few = omega (arith, k.0, tree-nodes); low = k.1; writes = omega arith }

  pub normal-gives : {out : List ℕ} {x : Result Size Refusal} {out' : List ℕ} → Gives f out x out' → Normalises f out x out'
  normal-gives {out} g = record { equal = ap (λ x. put (of_one (λ g. limited (normal g)) x) out) s.is ∙ g.it s.tree o.bytes }

-- ---- the length alone

-- The length of what was put.
abbrev length_of : Formed → Delivered
length_of x = record { answer = map (λ (z : Size). z.len) x.answer; output = x.output }

lengths : (o : Result Formula.Face Refusal) (out : List ℕ) → delivered (map (encode Faces) o) out ≡ length_of (put o out)
lengths (Err e) out = refl
lengths (Ok g) out = go (leb (length (encode_face g)) (length out)) (record { answer = Ok (size_of Faces g); output = sets out 0 (encode_face g) }) (record { answer = Err ShortOutput; output = out })
  where
    go : (b : Bool) (x y : Formed) → pick b (length_of x) (length_of y) ≡ length_of (pick b x y)
    go true x y = refl
    go false x y = refl

-- What is delivered where the length alone is answered.
pub normal-length : {f out : List ℕ} {r : Result Size Refusal} {out' : List ℕ} (n : Result ℕ Refusal) → Normalises f out r out' → n ≡ map (λ (z : Size). z.len) r → delivered (map (encode Faces) (normal_of f)) out ≡ record { answer = n; output = out' }
normal-length {f} {out} {r} {out'} n h e =
    lengths (normal_of f) out
    ∙ ap length_of h.equal
    ∙ ap (λ (x : Result ℕ Refusal). record { answer = x; output = out' }) (sym e)
