-- Writing the formula in front of bytes, by its first node.
use Prim.Native.Nat.{ℕ, ◌+◌, ◌-◌, ◌≤◌, ◌<◌}
use native.Mathlib.Omega.{arith}
use mathlib.Core.Path.{◌≡◌, refl, sym, ap, ◌∙◌, subst}
use mathlib.Core.List.{List, [], ◌∷◌, ◌++◌, append_assoc}
use lib.ListN.{length, get_or, take, drop, length-drop}
use lib.Seq.{drop-drop, take_all}
use Rattle.formula.specs.declared.Sort.{Sort}
use Rattle.formula.specs.declared.Kind.{Kind}
use Rattle.formula.specs.declared.Kind.TheVariants.{Nullary, Literal, Unary, Binary, Unknown}
use Rattle.formula.specs.Bytes.{Tree, dim_width, dim_at, leaf, lit, one, two, Got, got, read}
use Rattle.formula.specs.Answers.{kind_of}
use Rattle.writing.specs.Texts.{items_text, unary_text, formula_text}
use Rattle.writing.specs.Writing.{Place, Room, Wrote, node_name, Names, opened, Fronts, Printed, Prints, FormulaFronts, FormulaPrints}
use Rattle.writing.proofs.WriteLaws.{wrote-next, wrote_as, room_as, room-first, room_next}
use Rattle.writing.proofs.TextLaws.{spells-as, View, a-leaf, a-lit, a_one, a-two, view}

-- The text of a node over parts, from the text that opens its list.
opened-list : (s : Sort) (b : ℕ) (x : List ℕ) → opened s b ++ x ≡ 40 ∷ node_name s b ++ (32 ∷ x)
opened-list s b x = ap (λ (l : List ℕ). 40 ∷ l) (append_assoc (node_name s b) (32 ∷ []) x)

abbrev pub lit_text : Sort → ℕ → ℕ → List ℕ
lit_text s b n = opened s b ++ (unary_text n ++ (41 ∷ []))

abbrev pub one_text : (s : Sort) → ℕ → Tree s → List ℕ
one_text s b x = opened s b ++ (formula_text s x ++ (41 ∷ []))

abbrev pub two_text : (s : Sort) → ℕ → Tree s → Tree s → List ℕ
two_text s b x y = opened s b ++ (formula_text s x ++ (32 ∷ formula_text s y ++ (41 ∷ [])))

-- What a formula in front of bytes shows of them, by its kind: the first byte, the parts behind it, and its text.
pub record LeafShown (s : Sort) (l : List ℕ) (t : Tree s) (m : List ℕ) : Type 0 where
  pub names : Names s (get_or l 0 0)
  pub text : formula_text s t ≡ node_name s (get_or l 0 0)
  pub rest : m ≡ drop 1 l
  pub long : 0 < length l

pub record LitShown (s : Sort) (l : List ℕ) (t : Tree s) (m : List ℕ) : Type 0 where
  pub names : Names s (get_or l 0 0)
  pub text : formula_text s t ≡ lit_text s (get_or l 0 0) (dim_at l 1)
  pub rest : m ≡ drop (1 + dim_width) l
  pub long : 1 + dim_width ≤ length l

pub record OneShown (s : Sort) (l : List ℕ) (t : Tree s) (m : List ℕ) : Type 0 where
  pub names : Names s (get_or l 0 0)
  pub part : Tree s
  pub text : formula_text s t ≡ one_text s (get_or l 0 0) part
  pub reads : read s (drop 1 l) ≡ got part m
  pub long : 0 < length l

pub record TwoShown (s : Sort) (l : List ℕ) (t : Tree s) (m : List ℕ) : Type 0 where
  pub names : Names s (get_or l 0 0)
  pub left : Tree s
  pub right : Tree s
  pub behind : List ℕ
  pub text : formula_text s t ≡ two_text s (get_or l 0 0) left right
  pub reads-left : read s (drop 1 l) ≡ got left behind
  pub reads-right : read s behind ≡ got right m
  pub long : 0 < length l

abbrev pub Shown : (s : Sort) → List ℕ → Tree s → List ℕ → Kind → Type 0
Shown s l t m Nullary = LeafShown s l t m
Shown s l t m Literal = LitShown s l t m
Shown s l t m Unary = OneShown s l t m
Shown s l t m Binary = TwoShown s l t m
Shown s l t m Unknown = ⊥

-- A place behind the first byte, told from the front.
behind : (l : List ℕ) (n : ℕ) {m : List ℕ} → m ≡ drop n (drop 1 l) → m ≡ drop (1 + n) l
behind l n e = e ∙ drop-drop n 1 l

within : (l : List ℕ) (n : ℕ) → 0 < length l → n ≤ length (drop 1 l) → 1 + n ≤ length l
within l n h k = omega (arith, k, length-drop 1 l)

-- The part of a slice from a place on.
pub part-rest : (n : ℕ) (l : List ℕ) → take (length l - n) (drop n l) ≡ drop n l
part-rest n l = take_all (length l - n) (drop n l) (omega (arith, length-drop n l))

pub part-short : (n : ℕ) (l : List ℕ) → length (take (length l - n) (drop n l)) ≡ length l - n
part-short n l = ap length (part-rest n l) ∙ length-drop n l

pub fronts-part : {A : Type 0} {R : List ℕ → Got A} {T : A → List ℕ} (n : ℕ) (l : List ℕ) {to : ℕ} → Fronts R T (drop n l) to → Fronts R T (take (length l - n) (drop n l)) to
fronts-part {R = R} {T} n l {to} h = subst (λ (m : List ℕ). Fronts R T m to) (sym (part-rest n l)) h

pub prints-part : {A : Type 0} {R : List ℕ → Got A} {T : A → List ℕ} (n : ℕ) (l : List ℕ) {out out' : List ℕ} {to : ℕ} {r : Place} → Prints R T (take (length l - n) (drop n l)) out to r out' → Prints R T (drop n l) out to r out'
prints-part {R = R} {T} n l {out} {out'} {to} {r} h = subst (λ (m : List ℕ). Prints R T m out to r out') (part-rest n l) h

module _ (s : Sort) where
  show : {l m : List ℕ} {t : Tree s} {k : Kind} → View s l t m k → Shown s l t m k
  unfolding items_text
  show (a-leaf b t m e i) =
      let p = spells-as s b (leaf t) e in
      subst (λ (l : List ℕ). LeafShown s l t m) (sym i) (record { names = p.named; text = p.text; rest = refl; long = omega arith })
  show (a-lit b n g m e i) =
      let p = spells-as s b (lit g) e in
      subst (λ (l : List ℕ). LitShown s l (g n) m) (sym i) (record { names = p.named; text = p.text n ∙ sym (opened-list s b (unary_text n ++ (41 ∷ []))); rest = refl; long = omega arith })
  show (a_one b u x r m e i h) =
      let p = spells-as s b (one u) e in
      subst (λ (l : List ℕ). OneShown s l (u x) m) (sym i)
      (record { names = p.named; part = x; text = p.text x ∙ sym (opened-list s b (formula_text s x ++ (41 ∷ []))); reads = h; long = omega arith })
  show (a-two b v x y r q m e i h k) =
      let p = spells-as s b (two v) e in
      subst (λ (l : List ℕ). TwoShown s l (v x y) m) (sym i)
      (record {
        names = p.named;
        left = x;
        right = y;
        behind = q;
        text = p.text x y ∙ sym (opened-list s b (formula_text s x ++ (32 ∷ formula_text s y ++ (41 ∷ []))));
        reads-left = h;
        reads-right = k;
        long = omega arith;
      })

  module _ (l : List ℕ) {k : Kind} (e : kind_of s (get_or l 0 0) ≡ k) where
    pub shown : {t : Tree s} {m : List ℕ} → read s l ≡ got t m → Shown s l t m k
    shown {t} {m} h = show (subst (View s l t m) e (view s l t m h))

    abbrev pub seen : {to : ℕ} (f : FormulaFronts s l to) → Shown s l f.value f.rest k
    seen f = shown f.reads

  module _ (l : List ℕ) {to : ℕ} where
    -- A constant.
    pub leaf-asks : kind_of s (get_or l 0 0) ≡ Nullary → FormulaFronts s l to → Names s (get_or l 0 0) × Room to (node_name s (get_or l 0 0))
    leaf-asks e f = let v = seen l e f in (v.names, room_as v.text f.room)

    pub leaf-prints : kind_of s (get_or l 0 0) ≡ Nullary → {r : ℕ} {out out' : List ℕ} → Wrote (node_name s (get_or l 0 0)) out to r out' → FormulaPrints s l out to (record { at = 1; to = r }) out'
    leaf-prints e w = record { it = λ t m h. let v = shown l e h in record { rest = v.rest; inside = v.long; wrote = wrote_as (sym v.text) w } }

    -- A literal.
    pub lit-room : kind_of s (get_or l 0 0) ≡ Literal → (f : FormulaFronts s l to) → Room to (lit_text s (get_or l 0 0) (dim_at l 1))
    lit-room e f = room_as (seen l e f).text f.room

    pub lit-prints : kind_of s (get_or l 0 0) ≡ Literal → {r : ℕ} {out out' : List ℕ} → Wrote (lit_text s (get_or l 0 0) (dim_at l 1)) out to r out' → FormulaPrints s l out to (record { at = 1 + dim_width; to = r }) out'
    lit-prints e w = record { it = λ t m h. let v = shown l e h in record { rest = v.rest; inside = v.long; wrote = wrote_as (sym v.text) w } }

    -- A node over one formula: what its part asks, what is known behind it, and what was written in all.
    pub one-room : (e : kind_of s (get_or l 0 0) ≡ Unary) (f : FormulaFronts s l to) → Room to (one_text s (get_or l 0 0) (seen l e f).part)
    one-room e f = room_as (seen l e f).text f.room

    pub one-asks : (e : kind_of s (get_or l 0 0) ≡ Unary) (f : FormulaFronts s l to) {a : ℕ} {out out' : List ℕ} → Wrote (opened s (get_or l 0 0)) out to a out' → FormulaFronts s (drop 1 l) a
    one-asks e f w = let v = seen l e f in record { value = v.part; rest = f.rest; reads = v.reads; room = room-first (formula_text s v.part) (41 ∷ []) (room_next _ (one-room e f) w) }

    module _ {a : ℕ} {p : Place} {out out' out'' : List ℕ} (w : Wrote (opened s (get_or l 0 0)) out to a out') (g : FormulaPrints s (drop 1 l) out' a p out'') where
      pub one-close : (e : kind_of s (get_or l 0 0) ≡ Unary) (f : FormulaFronts s l to) → (1 + p.at ≤ length l) × Room p.to (41 ∷ [])
      one-close e f =
          let v = seen l e f in
          let q = g.it v.part f.rest v.reads in
          (within l p.at v.long q.inside, room_next (41 ∷ []) (room_next _ (one-room e f) w) q.wrote)

      pub one-prints : kind_of s (get_or l 0 0) ≡ Unary → {r : ℕ} {out''' : List ℕ} → Wrote (41 ∷ []) out'' p.to r out''' → FormulaPrints s l out to (record { at = 1 + p.at; to = r }) out'''
      one-prints e c = record {
        it = λ t m h.
            let v = shown l e h in
            let q = g.it v.part m v.reads in
            record { rest = behind l p.at q.rest; inside = within l p.at v.long q.inside; wrote = wrote_as (sym v.text) (wrote-next w (wrote-next q.wrote c)) };
      }

    -- A node over two.
    pub two-room : (e : kind_of s (get_or l 0 0) ≡ Binary) (f : FormulaFronts s l to) → Room to (two_text s (get_or l 0 0) (seen l e f).left (seen l e f).right)
    two-room e f = room_as (seen l e f).text f.room

    pub two-asks : (e : kind_of s (get_or l 0 0) ≡ Binary) (f : FormulaFronts s l to) {a : ℕ} {out out' : List ℕ} → Wrote (opened s (get_or l 0 0)) out to a out' → FormulaFronts s (drop 1 l) a
    two-asks e f w = let v = seen l e f in record { value = v.left; rest = v.behind; reads = v.reads-left; room = room-first (formula_text s v.left) _ (room_next _ (two-room e f) w) }

    module _ {a : ℕ} {p : Place} {out out' out'' : List ℕ} (w : Wrote (opened s (get_or l 0 0)) out to a out') (g : FormulaPrints s (drop 1 l) out' a p out'') where
      -- What is left to write behind the first part.
      two-left : (e : kind_of s (get_or l 0 0) ≡ Binary) (f : FormulaFronts s l to) → Room p.to (32 ∷ formula_text s (seen l e f).right ++ (41 ∷ []))
      two-left e f = let v = seen l e f in room_next _ (room_next _ (two-room e f) w) (g.it v.left v.behind v.reads-left).wrote

      pub two-space : (e : kind_of s (get_or l 0 0) ≡ Binary) (f : FormulaFronts s l to) → (1 + p.at ≤ length l) × Room p.to (32 ∷ [])
      two-space e f =
          let v = seen l e f in
          (within l p.at v.long (g.it v.left v.behind v.reads-left).inside, room-first (32 ∷ []) _ (two-left e f))

      module _ {b : ℕ} {out''' : List ℕ} (z : Wrote (32 ∷ []) out'' p.to b out''') where
        pub two-second : (e : kind_of s (get_or l 0 0) ≡ Binary) (f : FormulaFronts s l to) → FormulaFronts s (drop (1 + p.at) l) b
        two-second e f =
            let v = seen l e f in
            let q = g.it v.left v.behind v.reads-left in
            record { value = v.right; rest = f.rest; reads = ap (read s) (sym (behind l p.at q.rest)) ∙ v.reads-right; room = room-first (formula_text s v.right) (41 ∷ []) (room_next _ (two-left e f) z) }

        module _ {i : Place} {o : List ℕ} (h : FormulaPrints s (drop (1 + p.at) l) out''' b i o) where
          -- What the second part leaves.
          second : (e : kind_of s (get_or l 0 0) ≡ Binary) {t : Tree s} {m : List ℕ} (x : read s l ≡ got t m) → Printed (formula_text s) (drop (1 + p.at) l) out''' b i o (shown l e x).right m
          second e {m = m} x =
              let v = shown l e x in
              let q = g.it v.left v.behind v.reads-left in
              h.it v.right m (ap (read s) (sym (behind l p.at q.rest)) ∙ v.reads-right)

          two-within : (e : kind_of s (get_or l 0 0) ≡ Binary) {t : Tree s} {m : List ℕ} (x : read s l ≡ got t m) → (1 + p.at) + i.at ≤ length l
          two-within e x =
              let v = shown l e x in
              let q = g.it v.left v.behind v.reads-left in
              omega (arith, (second e x).inside, length-drop (1 + p.at) l, within l p.at v.long q.inside)

          pub two-close : (e : kind_of s (get_or l 0 0) ≡ Binary) (f : FormulaFronts s l to) → ((1 + p.at) + i.at ≤ length l) × Room i.to (41 ∷ [])
          two-close e f = (two-within e f.reads, room_next (41 ∷ []) (room_next _ (two-left e f) z) (second e f.reads).wrote)

          pub two-prints : kind_of s (get_or l 0 0) ≡ Binary → {r : ℕ} {o' : List ℕ} → Wrote (41 ∷ []) o i.to r o' → FormulaPrints s l out to (record { at = (1 + p.at) + i.at; to = r }) o'
          two-prints e c = record {
            it = λ t m x.
                let v = shown l e x in
                let q = g.it v.left v.behind v.reads-left in
                let y = second e x in
                record {
                  rest = y.rest ∙ drop-drop i.at (1 + p.at) l;
                  inside = two-within e x;
                  wrote = wrote_as (sym v.text) (wrote-next w (wrote-next q.wrote (wrote-next z (wrote-next y.wrote c))));
                };
          }

    -- No formula begins with another byte.
    pub none-front : {A : Type 0} → kind_of s (get_or l 0 0) ≡ Unknown → FormulaFronts s l to → A
    none-front e f = absurd (seen l e f)

  -- A byte or more stands there.
  pub fronts-long : (l : List ℕ) {to : ℕ} → FormulaFronts s l to → 0 < length l
  fronts-long l f = by (kind_of s (get_or l 0 0)) refl
    where
      by : (k : Kind) → kind_of s (get_or l 0 0) ≡ k → 0 < length l
      by Nullary e = (seen l e f).long
      by Literal e = let h = (seen l e f).long in omega arith
      by Unary e = (seen l e f).long
      by Binary e = (seen l e f).long
      by Unknown e = absurd (seen l e f)
