-- Where fields, contexts, operands and references end, one turn of each loop at a time.
use Rattle.std.specs.Prelude.{Option, Some, None, Result, Ok, Err, map}
use mathlib.Core.Path.{◌≡◌, refl, sym, ap, ap₂, ◌∙◌}
use mathlib.Core.Bool.{Bool, true, false, ◌&&◌}
use mathlib.Core.List.{List, [], ◌∷◌}
use Prim.Native.Nat.{ℕ, zero, suc, ◌+◌, ◌-◌, max, ◌≤◌, ◌<◌}
use native.Mathlib.Omega.{arith}
use native.Mathlib.Numerals.{add-one}
use borrow.Author.Tests.{ne_eqb, lt-ltb, le-ltb}
use lib.Dec.{leb, ltb, eqb, leb-suc-suc}
use lib.ListN.{length, get_or, drop, length-drop, drop_of_length-le}
use lib.Seq.{drop-cons}
use Rattle.std.proofs.lemmas.List.{get_or-map, length-map}
use Rattle.formula.specs.declared.Sort.{Sort}
use Rattle.formula.specs.declared.Sort.TheVariants.{Faces, Intervals}
use Rattle.formula.specs.declared.Size.{Size}
use Rattle.refusals.specs.declared.Refusal.{Refusal}
use Rattle.formula.specs.Formula.{Face, Interval, i0, i1, dim, neg, meet, join}
use Rattle.formula.specs.Bytes.{Tree, encode, encode_face, leaf, lit, one, two, Got, nothing, got, then, take_dim, read, nodes, nodes_face, nodes_interval, bound_face, bound_interval, dim_width, dim_at, max_nodes, max_bound}
use Rattle.formula.specs.Answers.{pick, keeps, measurement_at}
use Rattle.formula.proofs.Nodes.{made_as, tree-ind}
use Rattle.calculus.specs.Search.{nodes_context}
use Rattle.calculus.specs.Record.{Field, number, index, context, end, formula, Value, bound_context, allowed, Values}
use Rattle.calculus.specs.Parse.{only, take_little, read_faces, read_values, read_references}
use Rattle.calculus.proofs.Fields.{fails, reads}
use Rattle.kinds.specs.declared.Field.{Field as Answered}
use Rattle.kinds.specs.declared.Field.TheVariants.{Number, Index, Context, End, Face as OneFace, Interval as OneInterval}
use Rattle.kinds.specs.Kinds.{field_as}
use Rattle.records.specs.Places.{little_at, ended, read_allowed, end_of, field_end, number_end, faces_end, values_end}
use Rattle.records.proofs.PlaceLaws.{little-at, little-short, tail-drop, RestIs, leaves_in, field-leaves, ended-drop, ended-fits, ended-map, by_size}

-- The end of what is read at a place, provided that a test passes.
ended-only : {A : Type 0} (t : Bool) (a : A) (l : List ℕ) (n : ℕ) → n ≤ length l → ended l (only t (got a (drop n l))) ≡ pick t (Some n) None
ended-only true a l n h = ended-drop a l n h
ended-only false a l n h = refl

then-then : {A B C : Type 0} (g : Got A) (k : A → List ℕ → Got B) (j : B → List ℕ → Got C) → then (then g k) j ≡ then g (λ x m. then (k x m) j)
then-then nothing k j = refl
then-then (got a m) k j = refl

-- Numbers -----------------------------------------------------------------------------------

module _ (l : List ℕ) (at most : ℕ) where
  pub number_short : length l - at < dim_width → number_end l at most ≡ None
  unfolding number_end
  number_short h = rw (drop_of_length-le l {i = at} (omega arith))

  pub number_in : at + dim_width ≤ length l → {r : ℕ} → r ≡ dim_at l at → {t : Bool} → leb r most ≡ t → number_end l at most ≡ pick t (Some (at + dim_width)) None
  unfolding number_end
  number_in h i j =
      let e : drop at l ≡ get_or l at 0 ∷ drop (at + 1) l = drop-cons l at 0 (omega arith) ∙ ap (λ (n : ℕ). get_or l at 0 ∷ drop n l) (sym (add-one at)) in
      ap (λ (z : List ℕ). ended l (then (take_dim z) (λ n m. only (leb n most) (got n m)))) e
      ∙ ended-only (leb (get_or l at 0) most) (get_or l at 0) l (at + 1) h
      ∙ ap (λ (t : Bool). pick t (Some (at + 1)) None) (ap (λ (n : ℕ). leb n most) (sym i) ∙ j)

pub number-255 : (l : List ℕ) (at : ℕ) → number_end l at 255 ≡ end_of number l at
unfolding number_end end_of read_allowed
number-255 l at = refl

-- An index is at most 254 where one more is at most 255.
pub index-254 : (l : List ℕ) (at : ℕ) → number_end l at 254 ≡ end_of index l at
unfolding number_end end_of read_allowed
index-254 l at = go (take_dim (drop at l))
  where
    go : (g : Got ℕ) → ended l (then g (λ n m. only (leb n 254) (got n m))) ≡ ended l (then g (λ n m. only (leb (suc n) 255) (got n m)))
    go nothing = refl
    go (got n m) = ap (λ (t : Bool). ended l (only t (got n m))) (sym (leb-suc-suc n 254))

-- Formulas ------------------------------------------------------------------------------------

-- Behind a formula of this size that keeps the limits.
abbrev pub formula_to : ℕ → Result Size Refusal → Option ℕ
formula_to at (Err e) = None
formula_to at (Ok z) = pick (keeps z) (Some (at + z.len)) None

pub formula-law : (s : Sort) (l : List ℕ) (at : ℕ) → at ≤ length l → end_of (formula s) l at ≡ formula_to at (measurement_at s l at)
unfolding end_of read_allowed
formula-law s l at h = by_size s l at h (λ t m. only (allowed (formula s) t) (got t m)) (formula_to at) refl (λ t i. ended-only (allowed (formula s) t) t l (at + length (encode s t)) i)

pub formula-as : (s : Sort) (l : List ℕ) (at : ℕ) → at ≤ length l → {z : Size} → measurement_at s l at ≡ Ok z → {t : Bool} → keeps z ≡ t → end_of (formula s) l at ≡ pick t (Some (at + z.len)) None
formula-as s l at h {z} e k = formula-law s l at h ∙ ap (formula_to at) e ∙ ap (λ (t : Bool). pick t (Some (at + z.len)) None) k

-- Behind an interval of one node without a dimension.
abbrev pub end_to : ℕ → Result Size Refusal → Option ℕ
end_to at (Err e) = None
end_to at (Ok z) = pick (eqb z.nodes 1 && eqb z.bound 0) (Some (at + z.len)) None

nodes-some : (s : Sort) (t : Tree s) → 0 < nodes s t
nodes-some s =
    tree-ind s (λ t. 0 < nodes s t)
    (record {
      at_leaf = λ b t e. omega (arith, (made_as s b (leaf t) e).count);
      at-lit = λ b n g e. omega (arith, (made_as s b (lit g) e n).count);
      at_one = λ b u x e h. omega (arith, (made_as s b (one u) e x).count);
      at-two = λ b v x y e h i. omega (arith, (made_as s b (two v) e x y).count);
    })

-- Exactly the ends have one node and no dimension.
end-size : (r : Interval) → allowed end r ≡ (eqb (nodes Intervals r) 1 && eqb (bound_interval r) 0)
unfolding nodes_interval bound_interval
end-size i0 = refl
end-size i1 = refl
end-size (dim n) = sym (ne_eqb (suc n) 0 (λ e. omega arith))
end-size (neg r) = rw (ne_eqb (suc (nodes_interval r)) 1 (λ e. omega (arith, nodes-some Intervals r)))
end-size (meet r s) = rw (ne_eqb (suc (nodes_interval r + nodes_interval s)) 1 (λ e. omega (arith, nodes-some Intervals r)))
end-size (join r s) = rw (ne_eqb (suc (nodes_interval r + nodes_interval s)) 1 (λ e. omega (arith, nodes-some Intervals r)))

pub end-law : (l : List ℕ) (at : ℕ) → at ≤ length l → end_of end l at ≡ end_to at (measurement_at Intervals l at)
unfolding end_of read_allowed
end-law l at h =
    by_size Intervals l at h (λ r m. only (allowed end r) (got r m)) (end_to at) refl
    (λ r i. ended-only (allowed end r) r l (at + length (encode Intervals r)) i ∙ ap (λ (t : Bool). pick t (Some (at + length (encode Intervals r))) None) (end-size r))

pub end-as : (l : List ℕ) (at : ℕ) → at ≤ length l → {z : Size} → measurement_at Intervals l at ≡ Ok z → {t u : Bool} → eqb z.nodes 1 ≡ t → eqb z.bound 0 ≡ u → end_of end l at ≡ pick (t && u) (Some (at + z.len)) None
end-as l at h {z} e i j = end-law l at h ∙ ap (end_to at) e ∙ ap₂ (λ (t u : Bool). pick (t && u) (Some (at + z.len)) None) i j

-- Contexts --------------------------------------------------------------------------------------

-- The faces keep the limits, together with n nodes and the bound b before them.
abbrev more : ℕ → ℕ → List Face → Bool
more n b G = leb (n + nodes_context G) max_nodes && leb (max b (bound_context G)) max_bound

-- Where k faces from e on end, behind others of n nodes and the bound b.
unfoldable pub faces_from : List ℕ → ℕ → ℕ → ℕ → ℕ → Option ℕ
faces_from l n b e k = ended l (then (read_faces k (drop e l)) (λ G m. only (more n b G) (got G m)))

abbrev pub face_on : List ℕ → ℕ → ℕ → ℕ → ℕ → Result Size Refusal → Option ℕ
face_on l n b e k (Err q) = None
face_on l n b e k (Ok z) = faces_from l (n + z.nodes) (max b z.bound) (e + z.len) k

more-cons : (n b : ℕ) (f : Face) (G : List Face) → more n b (f ∷ G) ≡ more (n + nodes_face f) (max b (bound_face f)) G
unfolding nodes_context bound_context
more-cons n b f G =
    let p : n + (nodes_face f + nodes_context G) ≡ n + nodes_face f + nodes_context G = omega arith in
    let q : max b (max (bound_face f) (bound_context G)) ≡ max (max b (bound_face f)) (bound_context G) = omega arith in
    ap₂ (λ (x y : ℕ). leb x max_nodes && leb y max_bound) p q

faces-next : (l : List ℕ) (n b e k : ℕ) → e ≤ length l → faces_from l n b e (suc k) ≡ face_on l n b e k (measurement_at Faces l e)
unfolding faces_from read_faces
faces-next l n b e k h =
    ap (ended l) (then-then (read Faces (drop e l)) _ _)
    ∙ by_size Faces l e h (λ f m. then (then (read_faces k m) (λ G. got (f ∷ G))) (λ G m. only (more n b G) (got G m))) (face_on l n b e k) refl
    (λ f i. go f (read_faces k (drop (e + length (encode_face f)) l)))
  where
    drops : (t : Bool) (F G : List Face) (m : List ℕ) → ended l (only t (got F m)) ≡ ended l (only t (got G m))
    drops true F G m = refl
    drops false F G m = refl

    go : (f : Face) (g : Got (List Face)) → ended l (then (then g (λ G. got (f ∷ G))) (λ G m. only (more n b G) (got G m))) ≡ ended l (then g (λ G m. only (more (n + nodes_face f) (max b (bound_face f)) G) (got G m)))
    go f nothing = refl
    go f (got G m) = ap (λ (t : Bool). ended l (only t (got (f ∷ G) m))) (more-cons n b f G) ∙ drops (more (n + nodes_face f) (max b (bound_face f)) G) (f ∷ G) G m

pub faces-turn : (l : List ℕ) (n b e k : ℕ) → e ≤ length l → 0 < k → {r : Result Size Refusal} → measurement_at Faces l e ≡ r → faces_from l n b e k ≡ face_on l n b e (k - 1) r
faces-turn l n b e zero h p i = absurd (omega arith)
faces-turn l n b e (suc k) h p i = let q : k ≡ suc k - 1 = omega arith in faces-next l n b e k h ∙ ap₂ (face_on l n b e) q i

pub faces-none : (l : List ℕ) (n b e k : ℕ) → e ≤ length l → k ≤ 0 → {t : Bool} → (leb n max_nodes && leb b max_bound) ≡ t → faces_from l n b e k ≡ pick t (Some e) None
unfolding faces_from read_faces nodes_context bound_context
faces-none l n b e zero h z i =
    let p : n + 0 ≡ n = omega arith in
    let q : max b 0 ≡ b = omega arith in
    ended-only (more n b []) [] l e h ∙ ap (λ (t : Bool). pick t (Some e) None) (ap₂ (λ (x y : ℕ). leb x max_nodes && leb y max_bound) p q ∙ i)
faces-none l n b e (suc k) h z i = absurd (omega arith)

pub faces-all : (l : List ℕ) (at n : ℕ) → faces_from l 0 0 at n ≡ faces_end l at n
unfolding faces_from faces_end
faces-all l at n = go (read_faces n (drop at l))
  where
    go : (g : Got (List Face)) → ended l (then g (λ G m. only (more 0 0 G) (got G m))) ≡ ended l (then g (λ G m. only (allowed context G) (got G m)))
    go nothing = refl
    go (got G m) =
        let p : 0 + nodes_context G ≡ nodes_context G = omega arith in
        let q : max 0 (bound_context G) ≡ bound_context G = omega arith in
        ap₂ (λ (x y : ℕ). ended l (only (leb x max_nodes && leb y max_bound) (got G m))) p q

module _ (l : List ℕ) (at : ℕ) where
  abbrev counted : Got ℕ → Option ℕ
  counted r = ended l (then (then r read_faces) (λ G m. only (allowed context G) (got G m)))

  pub context-short : length l - at < 2 → end_of context l at ≡ None
  unfolding end_of read_allowed
  context-short h = ap counted (little-short 2 (drop at l) (omega (arith, length-drop at l)))

  pub context-in : at + 2 ≤ length l → end_of context l at ≡ faces_end l (at + 2) (little_at 2 l at)
  unfolding end_of read_allowed faces_end
  context-in h = ap counted (little-at 2 l at h)

-- Operands ----------------------------------------------------------------------------------------

-- The fields behind one that ends at a place.
abbrev pub value_on : List Field → List ℕ → Option ℕ → Option ℕ
value_on cs l None = None
value_on cs l (Some e) = values_end cs l e

field-as : (c : Field) (l : List ℕ) (e : ℕ) → field_end (field_as c) l e ≡ end_of c l e
field-as number l e = refl
field-as index l e = refl
field-as context l e = refl
field-as end l e = refl
field-as (formula Faces) l e = refl
field-as (formula Intervals) l e = refl

-- Where a field ends that is known.
pub field_told : (l : List ℕ) (e : ℕ) {f g : Answered} {r : Option ℕ} → f ≡ g → r ≡ field_end g l e → r ≡ field_end f l e
field_told l e i h = h ∙ ap (λ (f : Answered). field_end f l e) (sym i)

-- No field ends behind the list.
end_fits : (c : Field) (l : List ℕ) (e : ℕ) {r : ℕ} → end_of c l e ≡ Some r → r ≤ length l
unfolding end_of
end_fits c l e {r} i = ended-fits l (read_allowed c (drop e l)) r i

pub field_fits : (f : Answered) (l : List ℕ) (e : ℕ) → e ≤ length l → {r : ℕ} → field_end f l e ≡ Some r → r ≤ length l
field_fits Number l e h i = end_fits number l e i
field_fits Index l e h i = end_fits index l e i
field_fits Context l e h i = end_fits context l e i
field_fits End l e h i = end_fits end l e i
field_fits OneFace l e h i = end_fits (formula Faces) l e i
field_fits OneInterval l e h i = end_fits (formula Intervals) l e i

-- The first field and those behind it.
value-first : (c : Field) (cs : List Field) (l : List ℕ) {g : Got (Value c)} → RestIs l g
    → ended {A = Values (c ∷ cs)} l (then g (λ x m. only (allowed c x) (then (read_values cs m) (λ xs. got (x, xs))))) ≡ value_on cs l (ended l (then g (λ x m. only (allowed c x) (got x m))))
unfolding values_end
value-first c cs l fails = refl
value-first c cs l (reads {a = x} {m} t) = go (allowed c x)
  where
    go : (b : Bool) → ended {A = Values (c ∷ cs)} l (only b (then (read_values cs m) (λ xs. got (x, xs)))) ≡ value_on cs l (ended l (only b (got x m)))
    go true = ended-map {B = Values (c ∷ cs)} (λ (xs : Values cs). (x, xs)) l (read_values cs m) ∙ ap (λ (z : List ℕ). ended l (read_values cs z)) t.same
    go false = refl

values-turn : (c : Field) (cs : List Field) (l : List ℕ) (e : ℕ) → e ≤ length l → values_end (c ∷ cs) l e ≡ value_on cs l (field_end (field_as c) l e)
unfolding values_end read_values end_of read_allowed
values-turn c cs l e h = value-first c cs l (leaves_in (tail-drop l e h) (field-leaves c (drop e l))) ∙ ap (value_on cs l) (sym (field-as c l e))

values-none : (l : List ℕ) (e : ℕ) → e ≤ length l → values_end [] l e ≡ Some e
unfolding values_end read_values
values-none l e h = ended-drop (tt {0}) l e h

-- What is left of fields ends where all of them do.
pub record Left (cs : List Field) (l : List ℕ) (at k e : ℕ) : Type 0 where
  pub each : values_end (drop k cs) l e ≡ values_end cs l at
  pub inside : e ≤ length l

module _ {cs : List Field} {l : List ℕ} {at k e : ℕ} (g : Left cs l at k e) {F : List Answered} (i : F ≡ map field_as cs) (b : k < length F) where
  turned : {r : Option ℕ} → field_end (get_or F k Number) l e ≡ r → value_on (drop (k + 1) cs) l r ≡ values_end cs l at
  turned {r} j =
      let h : k < length cs = omega (arith, ap length i, length-map cs field_as) in
      let n : get_or F k Number ≡ field_as (get_or cs k number) = ap (λ (G : List Answered). get_or G k Number) i ∙ get_or-map field_as cs k number Number h in
      ap (value_on (drop (k + 1) cs) l) (sym j ∙ ap (λ (x : Answered). field_end x l e) n)
      ∙ sym (values-turn (get_or cs k number) (drop (k + 1) cs) l e g.inside)
      ∙ ap (λ (n : ℕ). values_end (get_or cs k number ∷ drop n cs) l e) (add-one k)
      ∙ ap (λ (ds : List Field). values_end ds l e) (sym (drop-cons cs k number h))
      ∙ g.each

  pub left-ill : None ≡ field_end (get_or F k Number) l e → None ≡ values_end cs l at
  left-ill j = turned (sym j)

  pub left-on : {r : ℕ} → Some r ≡ field_end (get_or F k Number) l e → Left cs l at (k + 1) r
  left-on j = record { each = turned (sym j); inside = field_fits (get_or F k Number) l e g.inside (sym j) }

pub left-none : {cs : List Field} {l : List ℕ} {at k e : ℕ} → Left cs l at k e → {F : List Answered} → F ≡ map field_as cs → length F ≤ k → Some e ≡ values_end cs l at
left-none {cs} {l} {at} {k} {e} g i h = sym (values-none l e g.inside) ∙ ap (λ (ds : List Field). values_end ds l e) (sym (drop_of_length-le cs {i = k} (omega (arith, ap length i, length-map cs field_as)))) ∙ g.each

-- References ----------------------------------------------------------------------------------------

module _ (i k : ℕ) (l : List ℕ) (e : ℕ) where
  abbrev referred : Got ℕ → Option ℕ
  referred g = ended l (then g (λ j m. only (ltb j i) (then (read_references i (k - 1) m) (λ is. got (j ∷ is)))))

  reference-first : 0 < k → ended l (read_references i k (drop e l)) ≡ referred (take_little 4 (drop e l))
  unfolding read_references
  reference-first h =
      let q : k ≡ suc (k - 1) = omega arith in
      ap (λ (n : ℕ). ended l (read_references i n (drop e l))) q

  pub references-short : 0 < k → length l - e < 4 → ended l (read_references i k (drop e l)) ≡ None
  references-short p h = reference-first p ∙ ap referred (little-short 4 (drop e l) (omega (arith, length-drop e l)))

  reference-in : 0 < k → e + 4 ≤ length l → {r : ℕ} → r ≡ little_at 4 l e → {t : Bool} → ltb r i ≡ t
      → ended l (read_references i k (drop e l)) ≡ ended l (only t (then (read_references i (k - 1) (drop (e + 4) l)) (λ is. got (r ∷ is))))
  reference-in p h {r} q b =
      reference-first p ∙ ap referred (little-at 4 l e h ∙ ap (λ (n : ℕ). got n (drop (e + 4) l)) (sym q))
      ∙ ap (λ (t : Bool). ended l (only t (then (read_references i (k - 1) (drop (e + 4) l)) (λ is. got (r ∷ is))))) b

  pub references-late : 0 < k → e + 4 ≤ length l → {r : ℕ} → r ≡ little_at 4 l e → i ≤ r → ended l (read_references i k (drop e l)) ≡ None
  references-late p h {r} q b = reference-in p h q (le-ltb r i b)

  pub references-turn : 0 < k → e + 4 ≤ length l → {r : ℕ} → r ≡ little_at 4 l e → r < i → ended l (read_references i k (drop e l)) ≡ ended l (read_references i (k - 1) (drop (e + 4) l))
  references-turn p h {r} q b = reference-in p h q (lt-ltb r i b) ∙ ended-map (λ (is : List ℕ). r ∷ is) l (read_references i (k - 1) (drop (e + 4) l))

  pub references-none : k ≤ 0 → e ≤ length l → ended l (read_references i k (drop e l)) ≡ Some e
  unfolding read_references
  references-none p h =
      let q : k ≡ 0 = omega arith in
      ap (λ (n : ℕ). ended l (read_references i n (drop e l))) q ∙ ended-drop {A = List ℕ} [] l e h
