-- Contexts on bytes, by their first face.
use Prim.Native.Nat.{ℕ, ◌-◌, ◌*◌, ◌≤◌}
use native.Mathlib.Omega.{arith}
use mathlib.Core.Path.{◌≡◌, refl, sym, ap, ap₂, ◌∙◌, subst}
use mathlib.Core.List.{List, [], ◌∷◌, ◌++◌, append-nil}
use lib.ListN.{length, take, drop, length-append, length-drop}
use lib.Seq.{take_all, drop-append_seam}
use Rattle.formula.specs.declared.Sort.TheVariants.{Faces}
use Rattle.formula.specs.Formula.{Face}
use Rattle.formula.specs.Bytes.{encode_face}
use Rattle.formula.specs.Answers.{bytes_of, part_at}
use Rattle.formula.proofs.Reading.{read-encode}
use Rattle.calculus.specs.Search.{nodes_context}
use Rattle.calculus.specs.Record.{little_endian, context, faces_bytes, field_bytes, bound_context}
use Rattle.calculus.specs.Parse.{read_faces}
use Rattle.calculus.proofs.Fields.{read-faces}
use Rattle.calculus.proofs.Searching.{nodes-positive}
use Rattle.steps.specs.Trees.{Is}
use Rattle.formula.proofs.Nodes.{len_short}
use Rattle.contexts.specs.Contexts.{Are, faces_in, context_of, Sound}
use Rattle.contexts.specs.declared.context.Context.{Context}
use Rattle.std.specs.Prelude.{Option, None, Some}
use Rattle.std.specs.Option.{IsSome}
use Rattle.std.specs.Borrow.{Bor}
use Rattle.contexts.specs.Faces.{faces_of, First, Splits}

-- The bytes of a context are read as it.
pub context-of : {G : List Face} {n : ℕ} {l : List ℕ} → Are G n l → context_of n l ≡ G
unfolding context_of
context-of {G} h = ap₂ (λ (k : ℕ) (m : List ℕ). faces_in (read_faces k m)) h.count (h.bytes ∙ sym (append-nil (faces_bytes G))) ∙ ap faces_in (read-faces G [])

pub context-as : {G : List Face} {n : ℕ} {l : List ℕ} → Are G n l → Sound n l
context-as {n} {l} h = subst (λ (H : List Face). Are H n l) (sym (context-of h)) h

-- A context takes at most two bytes for each node, so it has at most 1,022.
faces-long : (G : List Face) → length (faces_bytes G) ≤ 2 * nodes_context G
unfolding faces_bytes nodes_context
faces-long [] = omega arith
faces-long (f ∷ G) = omega (arith, length-append (encode_face f) (faces_bytes G), len_short Faces f, faces-long G)

pub context-short : {G : List Face} {n : ℕ} {l : List ℕ} → Are G n l → length l ≤ 1022
context-short {G} h = omega (arith, ap length h.bytes, faces-long G, h.few)

-- A context has no more faces than nodes.
faces-few : (G : List Face) → length G ≤ nodes_context G
unfolding nodes_context
faces-few [] = omega arith
faces-few (f ∷ G) = omega (arith, nodes-positive f, faces-few G)

pub context-count : {G : List Face} {n : ℕ} {l : List ℕ} → Are G n l → n ≤ 511
context-count {G} h = omega (arith, h.count, faces-few G, h.few)

-- The field of a context.
pub field : {G : List Face} {n : ℕ} {l c : List ℕ} → Are G n l → c ≡ little_endian 2 n → field_bytes context G ≡ c ++ l
field {G} {l} h e = ap₂ (λ (k : ℕ) (m : List ℕ). little_endian 2 k ++ m) (sym h.count) (sym h.bytes) ∙ ap (λ (c : List ℕ). c ++ l) (sym e)

-- The bytes of a slice from k on, as the code cuts them.
abbrev pub tail : ℕ → List ℕ → List ℕ
tail k l = take (length l - k) (drop k l)

pub tail-append : (h m l : List ℕ) → l ≡ h ++ m → tail (length h) l ≡ m
tail-append h m l e = take_all (length l - length h) (drop (length h) l) (omega (arith, length-drop (length h) l)) ∙ ap (drop (length h)) e ∙ drop-append_seam h m

-- The first face of a context that has one, with the bytes h, and the others.
record Front (G : List Face) (n : ℕ) (l h : List ℕ) : Type 0 where
  first : Face
  rest : List Face
  whole : G ≡ first ∷ rest
  face : Is Faces first h
  inside : length h ≤ length l
  others : Are rest (n - 1) (tail (length h) l)

first_of : (G : List Face) (n : ℕ) (l h : List ℕ) → Are G n l → (n ≡ 0 → ⊥) → h ≡ part_at Faces l 0 → Front G n l h
unfolding faces_bytes nodes_context bound_context part_at
first_of [] n l h w z e = absurd (z w.count)
first_of (f ∷ G) n l h w z e =
    let p : h ≡ encode_face f = e ∙ ap (λ (m : List ℕ). part_at Faces m 0) w.bytes ∙ ap (bytes_of Faces) (read-encode Faces f (faces_bytes G)) in
    let q : l ≡ h ++ faces_bytes G = w.bytes ∙ ap (λ (m : List ℕ). m ++ faces_bytes G) (sym p) in
    record {
      first = f;
      rest = G;
      whole = refl;
      face = record { bytes = p; few = omega (arith, w.few); low = omega (arith, w.low) };
      inside = omega (arith, ap length q, length-append h (faces_bytes G));
      others = record { bytes = tail-append h (faces_bytes G) l q; count = omega (arith, w.count); few = omega (arith, w.few); low = omega (arith, w.low) };
    }

-- Where the count is 0 there is no face; else the first face's bytes stand in front.
pub none-of : (g : Context) → g.count ≡ 0 → faces_of g ≡ []
none-of g e = go (faces_of g) (sym e ∙ g.sound.count)
  where
    go : (G : List Face) → 0 ≡ length G → G ≡ []
    go [] h = refl
    go (f ∷ G) h = absurd (omega arith)

-- A context with faces is split.
pub some-of : (g : Context) (r : Option (Bor (List ℕ) × Context)) → Splits g r → (faces_of g ≡ [] → ⊥) → IsSome r
some-of g None s z = absurd (z s)
some-of g (Some y) s z = refl

module _ (g : Context) (h : List ℕ) (z : g.count ≡ 0 → ⊥) (p : h ≡ part_at Faces g.faces.now 0) where
  front : Front (faces_of g) g.count g.faces.now h
  front = first_of (faces_of g) g.count g.faces.now h g.sound z p

  pub front-inside : length h ≤ length g.faces.now
  front-inside = front.inside

  pub front-others : Sound (g.count - 1) (tail (length h) g.faces.now)
  front-others = context-as front.others

  pub front-first : (d : Context) → d.count ≡ g.count - 1 → d.faces.now ≡ tail (length h) g.faces.now → First g h d
  front-first d e f = record {
    first = front.first;
    face = front.face;
    whole = front.whole ∙ ap (λ (G : List Face). front.first ∷ G) (sym (context-of front.others) ∙ ap₂ context_of (sym e) (sym f));
    count = omega (arith, e);
  }
