-- Numbers, contexts and operands in front of bytes, and their texts.
use Prim.Native.Nat.{ℕ, zero, suc, ◌+◌, ◌-◌, ◌≤◌}
use native.Mathlib.Omega.{arith}
use mathlib.Core.Path.{◌≡◌, refl, sym, ap, ap₂, ◌∙◌, subst}
use mathlib.Core.Bool.{Bool, true, false}
use mathlib.Core.List.{List, [], ◌∷◌, ◌++◌, map}
use lib.ListN.{length, take, drop, length-drop}
use lib.Seq.{drop-drop}
use Rattle.formula.specs.declared.Sort.TheVariants.{Faces, Intervals}
use Rattle.formula.specs.Formula.{Face}
use Rattle.formula.specs.Bytes.{dim_width, dim_at, Got, nothing, got, then, take_dim, read}
use Rattle.formula.proofs.Reading.{got-value, got-rest, nothing-got}
use Rattle.calculus.specs.Table.{Pred, p_lt, p_le, p_interval, p_face, p_member, p_take, p_cover, p_entails, p_boundary, p_local, p_fforall, p_ishift, p_isubst, p_fshift, p_fsubst, text_bytes}
use Rattle.calculus.specs.Record.{Field, number, index, context, end, formula, allowed, fields, Values}
use Rattle.calculus.specs.Parse.{only, read_field, read_faces, read_values}
use Rattle.records.specs.Places.{little_at}
use Rattle.records.proofs.PlaceLaws.{little-at, little-short}
use Rattle.kinds.specs.Kinds.{field_as}
use Rattle.kinds.specs.declared.Field.{Field as Told}
use Rattle.writing.specs.Texts.{items_text, unary_text, face_text}
use Rattle.writing.specs.declared.Writer.{Writer}
use Rattle.writing.specs.Writing.{Place, Room, Wrote, FormulaFronts, FormulaPrints}
use Rattle.writing.proofs.WriteLaws.{wrote-next, wrote_as, room_as, room-first, room_next}
use Rattle.writing.proofs.FormulaLaws.{part-rest}
use Rattle.listing.specs.Lines.{context_text, field_text, value_texts}
use Rattle.listing.specs.Writing.{NumberFronts, NumberPrints, FacesFront, FacesPrint, ContextFronts, ContextPrints, field_of, FieldFronts, FieldPrints, FieldWrites, ValuesFront, ValuesPrint}

-- What was read was read in turn.
pub record Turned {A B : Type 0} (r : Got A) (k : A → List ℕ → Got B) (b : B) (m : List ℕ) : Type 0 where
  pub value : A
  pub rest : List ℕ
  pub first : r ≡ got value rest
  pub second : k value rest ≡ got b m

pub turned : {A B : Type 0} {r : Got A} {k : A → List ℕ → Got B} {b : B} {m : List ℕ} → then r k ≡ got b m → Turned r k b m
turned {r = nothing} e = absurd (nothing-got e)
turned {r = got a l} e = record { value = a; rest = l; first = refl; second = e }

only-got : {A : Type 0} (t : Bool) {r : Got A} {b : A} {m : List ℕ} → only t r ≡ got b m → r ≡ got b m
only-got true e = e
only-got false e = absurd (nothing-got e)

-- Numbers ----------------------------------------------------------------------------------------------

pub record NumberShown (l : List ℕ) (n : ℕ) (m : List ℕ) : Type 0 where
  pub long : dim_width ≤ length l
  pub here : n ≡ dim_at l 0
  pub behind : m ≡ drop dim_width l

pub number-shown : (l : List ℕ) {n : ℕ} {m : List ℕ} → take_dim l ≡ got n m → NumberShown l n m
number-shown [] e = absurd (nothing-got e)
number-shown (b ∷ l) e = record { long = omega arith; here = sym (got-value e); behind = sym (got-rest e) }

pub number-prints : (l : List ℕ) {out out' : List ℕ} {to r n : ℕ} → n ≡ dim_at l 0 → Wrote (unary_text n) out to r out' → NumberPrints l out to (record { at = dim_width; to = r }) out'
number-prints l e w = record { it = λ x m h. let v = number-shown l h in record { rest = v.behind; inside = v.long; wrote = wrote_as (ap unary_text (e ∙ sym v.here)) w } }

-- Contexts ---------------------------------------------------------------------------------------------

-- The text of a context with a face more.
abbrev pub fc_text : Face → List Face → List ℕ
fc_text f G = (40 ∷ 102 ∷ 99 ∷ 32 ∷ []) ++ (face_text f ++ (32 ∷ context_text G ++ (41 ∷ [])))

pub record FaceShown (n : ℕ) (l : List ℕ) (G : List Face) (m : List ℕ) : Type 0 where
  pub face : Face
  pub others : List Face
  pub behind : List ℕ
  pub text : context_text G ≡ fc_text face others
  pub reads-face : read Faces l ≡ got face behind
  pub reads-others : read_faces (n - 1) behind ≡ got others m

pub face-shown : (n : ℕ) (l : List ℕ) {G : List Face} {m : List ℕ} → (n ≡ 0 → ⊥) → read_faces n l ≡ got G m → FaceShown n l G m
unfolding read_faces context_text items_text text_bytes
face-shown zero l k e = absurd (k refl)
face-shown (suc n) l {G} {m} k e =
    let i : suc n - 1 ≡ n = omega arith in
    let u = turned e in
    let v = turned u.second in
    record {
      face = u.value;
      others = v.value;
      behind = u.rest;
      text = ap context_text (sym (got-value v.second));
      reads-face = u.first;
      reads-others = ap (λ (i : ℕ). read_faces i u.rest) i ∙ v.first ∙ ap (got v.value) (got-rest v.second);
    }

pub none-room : {n to : ℕ} {l : List ℕ} → n ≡ 0 → FacesFront n l to → Room to (102 ∷ 110 ∷ 105 ∷ 108 ∷ [])
unfolding read_faces context_text text_bytes
none-room {l = l} e f = room_as (ap context_text (sym (got-value (ap (λ (i : ℕ). read_faces i l) (sym e) ∙ f.reads)))) f.room

pub none-prints : {n to r : ℕ} {l out out' : List ℕ} → n ≡ 0 → Wrote (102 ∷ 110 ∷ 105 ∷ 108 ∷ []) out to r out' → FacesPrint n l out to (record { at = 0; to = r }) out'
unfolding read_faces context_text text_bytes
none-prints {l = l} e w = record {
  it = λ G m h.
      let q : got [] l ≡ got G m = ap (λ (i : ℕ). read_faces i l) (sym e) ∙ h in
      record { rest = sym (got-rest q); inside = omega arith; wrote = wrote_as (ap context_text (got-value q)) w };
}

module _ (n : ℕ) (l : List ℕ) (z : n ≡ 0 → ⊥) {to : ℕ} where
  abbrev pub seen : (f : FacesFront n l to) → FaceShown n l f.value f.rest
  seen f = face-shown n l z f.reads

  pub faces-room : (f : FacesFront n l to) → Room to (fc_text (seen f).face (seen f).others)
  faces-room f = room_as (seen f).text f.room

  pub face-asks : (f : FacesFront n l to) {a : ℕ} {out out' : List ℕ} → Wrote (40 ∷ 102 ∷ 99 ∷ 32 ∷ []) out to a out' → FormulaFronts Faces l a
  face-asks f w = let v = seen f in record { value = v.face; rest = v.behind; reads = v.reads-face; room = room-first (face_text v.face) _ (room_next _ (faces-room f) w) }

  module _ {a : ℕ} {p : Place} {out out' out'' : List ℕ} (w : Wrote (40 ∷ 102 ∷ 99 ∷ 32 ∷ []) out to a out') (g : FormulaPrints Faces l out' a p out'') where
    faces-left : (f : FacesFront n l to) → Room p.to (32 ∷ context_text (seen f).others ++ (41 ∷ []))
    faces-left f = let v = seen f in room_next _ (room_next _ (faces-room f) w) (g.it v.face v.behind v.reads-face).wrote

    pub faces-space : (f : FacesFront n l to) → (p.at ≤ length l) × Room p.to (32 ∷ [])
    faces-space f = let v = seen f in ((g.it v.face v.behind v.reads-face).inside, room-first (32 ∷ []) _ (faces-left f))

    module _ {b : ℕ} {out''' : List ℕ} (y : Wrote (32 ∷ []) out'' p.to b out''') where
      pub faces-others : (f : FacesFront n l to) → FacesFront (n - 1) (drop p.at l) b
      faces-others f =
          let v = seen f in
          let q = g.it v.face v.behind v.reads-face in
          record { value = v.others; rest = f.rest; reads = ap (read_faces (n - 1)) (sym q.rest) ∙ v.reads-others; room = room-first (context_text v.others) (41 ∷ []) (room_next _ (faces-left f) y) }

      module _ {i : Place} {o : List ℕ} (h : FacesPrint (n - 1) (drop p.at l) out''' b i o) where
        pub faces-close : (f : FacesFront n l to) → (p.at + i.at ≤ length l) × Room i.to (41 ∷ [])
        faces-close f =
            let v = seen f in
            let q = g.it v.face v.behind v.reads-face in
            let x = h.it v.others f.rest (ap (read_faces (n - 1)) (sym q.rest) ∙ v.reads-others) in
            (omega (arith, x.inside, q.inside, length-drop p.at l), room_next (41 ∷ []) (room_next _ (faces-left f) y) x.wrote)

        pub faces-prints : {r : ℕ} {o' : List ℕ} → Wrote (41 ∷ []) o i.to r o' → FacesPrint n l out to (record { at = p.at + i.at; to = r }) o'
        faces-prints c = record {
          it = λ G m e.
              let v = face-shown n l z e in
              let q = g.it v.face v.behind v.reads-face in
              let x = h.it v.others m (ap (read_faces (n - 1)) (sym q.rest) ∙ v.reads-others) in
              record {
                rest = x.rest ∙ drop-drop i.at p.at l;
                inside = omega (arith, x.inside, q.inside, length-drop p.at l);
                wrote = wrote_as (sym v.text) (wrote-next w (wrote-next q.wrote (wrote-next y (wrote-next x.wrote c))));
              };
        }

-- The count, and as many faces.
pub record ContextShown (l : List ℕ) (G : List Face) (m : List ℕ) : Type 0 where
  pub long : 2 ≤ length l
  pub reads : read_faces (little_at 2 l 0) (drop 2 l) ≡ got G m

pub context-shown : (l : List ℕ) {G : List Face} {m : List ℕ} → read_field context l ≡ got G m → ContextShown l G m
context-shown l {G} {m} e = by (length l) refl
  where
    by : (n : ℕ) → length l ≡ n → ContextShown l G m
    by zero h = absurd (nothing-got (sym (ap (λ (g : Got ℕ). then g read_faces) (little-short 2 l (omega arith))) ∙ e))
    by (suc zero) h = absurd (nothing-got (sym (ap (λ (g : Got ℕ). then g read_faces) (little-short 2 l (omega arith))) ∙ e))
    by (suc (suc n)) h =
        let k : 2 ≤ length l = omega arith in
        record { long = k; reads = sym (ap (λ (g : Got ℕ). then g read_faces) (little-at 2 l 0 k)) ∙ e }

pub context-long : (l : List ℕ) {to : ℕ} → ContextFronts l to → 2 ≤ length l
context-long l f = (context-shown l f.reads).long

pub context-asks : (l : List ℕ) {to n : ℕ} → n ≡ little_at 2 l 0 → ContextFronts l to → FacesFront n (drop 2 l) to
context-asks l e f = record { value = f.value; rest = f.rest; reads = ap (λ (n : ℕ). read_faces n (drop 2 l)) e ∙ (context-shown l f.reads).reads; room = f.room }

module _ (l : List ℕ) {out out' : List ℕ} {to n : ℕ} {q : Place} (e : n ≡ little_at 2 l 0) (h : FacesPrint n (drop 2 l) out to q out') where
  pub context-within : ContextFronts l to → 2 + q.at ≤ length l
  context-within f =
      let v = context-shown l f.reads in
      omega (arith, (h.it f.value f.rest (ap (λ (n : ℕ). read_faces n (drop 2 l)) e ∙ v.reads)).inside, v.long, length-drop 2 l)

  pub context-prints : ContextPrints l out to (record { at = 2 + q.at; to = q.to }) out'
  context-prints = record {
    it = λ G m i.
        let v = context-shown l i in
        let x = h.it G m (ap (λ (n : ℕ). read_faces n (drop 2 l)) e ∙ v.reads) in
        record { rest = x.rest ∙ drop-drop q.at 2 l; inside = omega (arith, x.inside, v.long, length-drop 2 l); wrote = x.wrote };
  }

-- Fields -----------------------------------------------------------------------------------------------

-- A field that was told is that field.
pub field-fronts : {k t : Told} {l : List ℕ} {to : ℕ} → k ≡ t → FieldFronts (field_of k) l to → FieldFronts (field_of t) l to
field-fronts {l = l} {to} e f = subst (λ (k : Told). FieldFronts (field_of k) l to) e f

pub field-writes : {k t : Told} {l : List ℕ} {w w' : Writer} {n : ℕ} → k ≡ t → FieldWrites (field_of t) l w n w' → FieldWrites (field_of k) l w n w'
field-writes {l = l} {w} {w'} {n} e f = subst (λ (k : Told). FieldWrites (field_of k) l w n w') (sym e) f

field-of : (c : Field) → field_of (field_as c) ≡ c
field-of number = refl
field-of index = refl
field-of context = refl
field-of end = refl
field-of (formula Faces) = refl
field-of (formula Intervals) = refl

pub fields-told : (cs : List Field) → map field_of (map field_as cs) ≡ cs
fields-told [] = refl
fields-told (c ∷ cs) = ap₂ ◌∷◌ (field-of c) (fields-told cs)

-- Operands ---------------------------------------------------------------------------------------------

pub record ValueShown (c : Field) (cs : List Field) (l : List ℕ) (xs : Values (c ∷ cs)) (m : List ℕ) : Type 0 where
  pub behind : List ℕ
  pub reads_first : read_field c l ≡ got xs.0 behind
  pub reads-others : read_values cs behind ≡ got xs.1 m

pub value-shown : (c : Field) (cs : List Field) (l : List ℕ) {xs : Values (c ∷ cs)} {m : List ℕ} → read_values (c ∷ cs) l ≡ got xs m → ValueShown c cs l xs m
unfolding read_values
value-shown c cs l {xs} {m} e =
    let u = turned e in
    let v = turned (only-got (allowed c u.value) u.second) in
    let q = got-value v.second in
    record {
      behind = u.rest;
      reads_first = u.first ∙ ap (λ (z : Values (c ∷ cs)). got z.0 u.rest) q;
      reads-others = v.first ∙ ap (λ (z : Values (c ∷ cs)). got z.1 v.rest) q ∙ ap (got xs.1) (got-rest v.second);
    }

pub end-room : {cs : List Field} {l : List ℕ} {to : ℕ} → cs ≡ [] → ValuesFront cs l to → Room to (41 ∷ [])
unfolding items_text
end-room {l = l} {to} e f = let g : ValuesFront [] l to = subst (λ (cs : List Field). ValuesFront cs l to) e f in g.room

pub end-prints : {cs : List Field} {l out out' : List ℕ} {to r : ℕ} → cs ≡ [] → Wrote (41 ∷ []) out to r out' → ValuesPrint cs l out to r out'
unfolding items_text
end-prints {l = l} {out} {out'} {to} {r} e w = subst (λ (cs : List Field). ValuesPrint cs l out to r out') (sym e) (record { it = λ xs m h. w })

module _ (c : Field) (cs : List Field) (l : List ℕ) {to : ℕ} where
  pub value_room : (f : ValuesFront (c ∷ cs) l to) → Room to (32 ∷ field_text c f.value.0 ++ items_text (value_texts cs f.value.1))
  unfolding items_text
  value_room f = f.room

  pub value-space : ValuesFront (c ∷ cs) l to → Room to (32 ∷ [])
  value-space f = room-first (32 ∷ []) _ (value_room f)

  module _ {a : ℕ} {out out' : List ℕ} (w : Wrote (32 ∷ []) out to a out') where
    pub value-asks : ValuesFront (c ∷ cs) l to → FieldFronts c l a
    value-asks f = let v = value-shown c cs l f.reads in record { value = f.value.0; rest = v.behind; reads = v.reads_first; room = room-first (field_text c f.value.0) _ (room_next _ (value_room f) w) }

    module _ {p : Place} {out'' : List ℕ} (g : FieldPrints c l out' a p out'') where
      pub others-ask : (f : ValuesFront (c ∷ cs) l to) → (p.at ≤ length l) × ValuesFront cs (drop p.at l) p.to
      others-ask f =
          let v = value-shown c cs l f.reads in
          let q = g.it f.value.0 v.behind v.reads_first in
          (q.inside, record { value = f.value.1; rest = f.rest; reads = ap (read_values cs) (sym q.rest) ∙ v.reads-others; room = room_next _ (room_next _ (value_room f) w) q.wrote })

      pub values-print : {r : ℕ} {o : List ℕ} → ValuesPrint cs (drop p.at l) out'' p.to r o → ValuesPrint (c ∷ cs) l out to r o
      unfolding items_text
      values-print h = record {
        it = λ xs m e.
            let v = value-shown c cs l e in
            let q = g.it xs.0 v.behind v.reads_first in
            wrote-next w (wrote-next q.wrote (h.it xs.1 m (ap (read_values cs) (sym q.rest) ∙ v.reads-others)));
      }

-- The same of the fields of a predicate.
pub fields-front : {cs ds : List Field} {l : List ℕ} {to : ℕ} → cs ≡ ds → ValuesFront cs l to → ValuesFront ds l to
fields-front {l = l} {to} e f = subst (λ (cs : List Field). ValuesFront cs l to) e f

pub fields-print : {cs ds : List Field} {l out out' : List ℕ} {to r : ℕ} → cs ≡ ds → ValuesPrint ds l out to r out' → ValuesPrint cs l out to r out'
fields-print {l = l} {out} {out'} {to} {r} e f = subst (λ (cs : List Field). ValuesPrint cs l out to r out') (sym e) f

-- No predicate has more than four fields.
pub four-fields : (p : Pred) → drop 4 (fields p) ≡ []
four-fields p_lt = refl
four-fields p_le = refl
four-fields p_interval = refl
four-fields p_face = refl
four-fields p_member = refl
four-fields p_take = refl
four-fields p_cover = refl
four-fields p_entails = refl
four-fields p_boundary = refl
four-fields p_local = refl
four-fields p_fforall = refl
four-fields p_ishift = refl
four-fields p_isubst = refl
four-fields p_fshift = refl
four-fields p_fsubst = refl

pub values-part : {cs : List Field} (n : ℕ) (l : List ℕ) {out out' : List ℕ} {to r : ℕ} → ValuesPrint cs (take (length l - n) (drop n l)) out to r out' → ValuesPrint cs (drop n l) out to r out'
values-part {cs} n l {out} {out'} {to} {r} h = subst (λ (m : List ℕ). ValuesPrint cs m out to r out') (part-rest n l) h
