-- One token: the code's move is the only one.
use mathlib.Core.Path.{◌≡◌, refl, sym, ap, ap₂, ◌∙◌, subst}
use mathlib.Core.Bool.{Bool, true, false}
use mathlib.Core.List.{List, [], ◌∷◌, ◌++◌, head-eq_of_cons-eq, tail-eq_of_cons-eq, append-nil, append_assoc}
use Prim.Native.Nat.{ℕ, ◌+◌, ◌*◌, ◌-◌, ◌/◌, ◌%◌, ◌≤◌, ◌<◌}
use native.Mathlib.Omega.{arith}
use native.Mathlib.Decide.{ℕ_discrete, dec_lt}
use lib.ListN.{length, get_or, length-append}
use Rattle.formula.specs.declared.Sort.{Sort}
use Rattle.formula.specs.declared.Sort.TheVariants.{Faces as faces, Intervals as intervals}
use Rattle.refusals.specs.declared.Refusal.{Refusal}
use Rattle.formula.specs.declared.Size.{Size}
use Rattle.formula.specs.Formula.{Face}
use Rattle.formula.specs.Bytes.{Tree, dim_width, dim_bytes, dim_at, encode, encode_face, encode_interval, Got, nothing, got, read}
use Rattle.formula.specs.Answers.{size_front, measurement_at}
use Rattle.formula.proofs.Reading.{got-value, got-rest, read-encode, encode-read, encode-prefix}
use Rattle.std.specs.Prelude.{Option, None, Some, Result, Ok, Err}
use Rattle.calculus.specs.Record.{little_endian, faces_bytes}
use Rattle.calculus.specs.Parse.{read_faces}
use Rattle.calculus.proofs.Fields.{read-faces}
use Rattle.calculus.proofs.Rows.{Env, put, bind_n}
use Rattle.rows.specs.declared.Token.{Token}
use Rattle.rows.specs.declared.Token.TheVariants.{Byte as byte, Number as number, Slot as slot, Front as front}
use Rattle.rows.specs.Flattening.{part}
use Rattle.rules.specs.declared.State.{State}
use Rattle.rules.specs.declared.slots.Bindings.{Bindings}
use Rattle.rules.specs.Matching.{bytes_of, Thing, a-face, an-interval, some-faces, Consumes, Held, num, bytes, held_in, Binds, Ends, Formula, Faces, Moves, MovesOnly}
use Rattle.rules.proofs.Parts.{part_none, part_join, part-cons, part-split}
use Rattle.rules.proofs.Binding.{put_same, put_other, put_as, agrees-as, held_bytes, held_number}

-- A token that binds a slot -----------------------------------------------------------------

-- The token says what the slot holds and which bytes follow; and the slot can be made to hold it.
pub record Reading (t : Token) (left : ℕ) (s : List ℕ) (u : ℕ) (x : Held) (s' : List ℕ) : Type 0 where
  pub reads : (E : Env) (n : ℕ) (r : List ℕ) → Consumes E t left s n r → (held_in E u ≡ x) × (n ≡ left) × (r ≡ s')
  pub writes : (E : Env) → held_in E u ≡ x → Consumes E t left s left s'
  pub stands : (E : Env) → (F : Env) × ((w : ℕ) → w < 32 → held_in F w ≡ put u x (held_in E) w)

-- The cursor at another place of the same judgement, with so many faces left.
abbrev pub moved : State → ℕ → ℕ → State
moved q a h = record { at = a; end = q.end; left = h; j = q.j }

abbrev pub outcome : Bool → State → Option State
outcome true p = Some p
outcome false p = None

pub bound-moves : (t : Token) (q : State) (l : List ℕ) (m m' : Bindings) (u : ℕ) (x : Held) (a : ℕ) (r : Bool)
    → Reading t q.left (part l q.at q.end) u x (part l a q.end) → a ≤ q.end → Binds l m u x r m' → Moves t q l m (outcome r (moved q a q.left)) m'
bound-moves t q l m m' u x a true g h b = record {
  kept = (refl, refl);
  within = h;
  forth = λ E n s p st. let y = g.reads E n s st in (agrees-as (λ w _. put_as u x (held_in E) y.0 w) (b.0 E p), y.1, y.2);
  back = λ E p. let y = b.1 E p in (y.0, g.writes E y.1);
  possible = λ p. let F = g.stands p.0 in (F.0, agrees-as (λ w k. sym (F.1 w k)) (b.0 p.0 p.1));
}
bound-moves t q l m m' u x a false g h b = λ E n s p st. b E p (g.reads E n s st).0

-- An environment that differs in one slot.
stands-as : (E F : Env) (u : ℕ) (x : Held) → held_in F u ≡ x → ((w : ℕ) → w < 32 → (w ≡ u → ⊥) → held_in F w ≡ held_in E w) → (w : ℕ) → w < 32 → held_in F w ≡ put u x (held_in E) w
stands-as E F u x e h w k = go (ℕ_discrete w u)
  where
    go : Dec (w ≡ u) → held_in F w ≡ put u x (held_in E) w
    go (yes p) = rw (p, put_same u x (held_in E)) e
    go (no p) = h w k p ∙ sym (put_other u x (held_in E) w p)

-- Numbers.
module _ (k v : ℕ) (at end left : ℕ) (l : List ℕ) where
  -- A field that is there.
  dim-part : at + dim_width ≤ end → end ≤ length l → part l at end ≡ dim_bytes (dim_at l at) ++ part l (at + dim_width) end
  dim-part h i = part-cons l at end 0 (omega arith) i

  dim-prefix : (a b : ℕ) (m r : List ℕ) → dim_bytes a ++ m ≡ dim_bytes b ++ r → (a ≡ b) × (m ≡ r)
  dim-prefix a b m r e = (head-eq_of_cons-eq e, tail-eq_of_cons-eq e)

  held-var : (E : Env) → held_in E (v + 24) ≡ num (E.num v)
  held-var E = held_number E (v + 24) (omega arith) ∙ ap (λ (w : ℕ). num (E.num w)) (omega arith)

  pub number-reading : v < 8 → at + dim_width ≤ end → end ≤ length l → k ≤ dim_at l at → Reading (number k v) left (part l at end) (v + 24) (num (dim_at l at - k)) (part l (at + dim_width) end)
  unfolding bytes_of
  number-reading b h i j = record {
    reads = λ E n r st.
        let q = dim-prefix (dim_at l at) (k + E.num v) (part l (at + dim_width) end) r (sym (dim-part h i) ∙ st.0) in
        (held-var E ∙ ap num (omega (arith, q.0)), st.1, sym q.1);
    writes = λ E e. let n : E.num v ≡ dim_at l at - k = number_of (sym (held-var E) ∙ e) in
        (dim-part h i ∙ ap (λ (d : ℕ). dim_bytes d ++ part l (at + dim_width) end) (omega arith), refl);
    stands = λ E. (
      bind_n v (dim_at l at - k) E,
      stands-as E (bind_n v (dim_at l at - k) E) (v + 24) (num (dim_at l at - k))
          (held-var (bind_n v (dim_at l at - k) E) ∙ ap num (put_same v (dim_at l at - k) E.num)) (λ w q d. other E w d (decide w)),
    );
  }
    where
      number_of : {a b : ℕ} → num a ≡ num b → a ≡ b
      number_of e = cc

      decide : (w : ℕ) → Dec (w < 24)
      decide w = dec_lt w 24

      other : (E : Env) (w : ℕ) → (w ≡ v + 24 → ⊥) → Dec (w < 24) → held_in (bind_n v (dim_at l at - k) E) w ≡ held_in E w
      other E w d (yes p) = held_bytes (bind_n v (dim_at l at - k) E) w p ∙ sym (held_bytes E w p)
      other E w d (no p) =
          held_number (bind_n v (dim_at l at - k) E) w (omega arith) ∙ ap num (put_other v (dim_at l at - k) E.num (w - 24) (λ e. d (omega (arith, p)))) ∙ sym (held_number E w (omega arith))

module _ (k v : ℕ) (q : State) (l : List ℕ) where
  module _ (b : v < 8) (h : q.at + dim_width ≤ q.end) (i : q.end ≤ length l) (d : ℕ) (e : d ≡ dim_at l q.at) (j : k ≤ d) (m m' : Bindings) (r : Bool) where
    number-moves : Binds l m (v + 24) (num (d - k)) r m' → Moves (number k v) q l m (outcome r (moved q (q.at + dim_width) q.left)) m'
    number-moves g = bound-moves (number k v) q l m m' (v + 24) (num (dim_at l q.at - k)) (q.at + dim_width) r (number-reading k v q.at q.end q.left l b h i (rw e at j)) h (rw e at g)

    pub number-yes : r ≡ true → Binds l m (v + 24) (num (d - k)) r m' → Moves (number k v) q l m (Some (moved q (q.at + dim_width) q.left)) m'
    number-yes f g = rw f at (number-moves g)

    pub number-no : r ≡ false → Binds l m (v + 24) (num (d - k)) r m' → Moves (number k v) q l m None m'
    number-no f g = rw f at (number-moves g)

  pub number-low : q.at + dim_width ≤ q.end → q.end ≤ length l → dim_at l q.at < k → (m : Bindings) → Moves (number k v) q l m None m
  number-low h i j m = λ E n s g st. omega (arith, (dim-prefix k v q.at q.end q.left l (dim_at l q.at) (k + E.num v) (part l (q.at + dim_width) q.end) s (sym (dim-part k v q.at q.end q.left l h i) ∙ st.0)).0)

-- Slots of bytes ------------------------------------------------------------------------------

pub bytes-face : (E : Env) (u : ℕ) → u % 3 ≡ 0 → bytes_of E u ≡ encode_face (E.fac (u / 3))
unfolding bytes_of
bytes-face E u h = rw h

pub bytes-interval : (E : Env) (u : ℕ) → u % 3 ≡ 1 → bytes_of E u ≡ encode_interval (E.itv (u / 3))
unfolding bytes_of
bytes-interval E u h = rw h

pub bytes-context : (E : Env) (u : ℕ) → u % 3 ≡ 2 → bytes_of E u ≡ faces_bytes (E.ctx (u / 3))
unfolding bytes_of
bytes-context E u h = rw h

faces-prefix : (G D : List Face) (m r : List ℕ) → length G ≡ length D → faces_bytes G ++ m ≡ faces_bytes D ++ r → (G ≡ D) × (m ≡ r)
faces-prefix G D m r h e =
    let p : got G m ≡ got D r = sym (read-faces G m) ∙ ap₂ read_faces h e ∙ read-faces D r in
    (got-value p, got-rest p)

-- Nothing that may stand in a slot is a proper prefix of another.
thing-prefix : {u n : ℕ} {x y : List ℕ} (m r : List ℕ) → Thing u n x → Thing u n y → x ++ m ≡ y ++ r → (x ≡ y) × (m ≡ r)
thing-prefix m r (a-face p f) (a-face q g) e = let h = encode-prefix faces f g m r e in (ap encode_face h.0, h.1)
thing-prefix m r (a-face p f) (an-interval q g) e = absurd (omega arith)
thing-prefix m r (a-face p f) (some-faces q g i) e = absurd (omega arith)
thing-prefix m r (an-interval p f) (a-face q g) e = absurd (omega arith)
thing-prefix m r (an-interval p f) (an-interval q g) e = let h = encode-prefix intervals f g m r e in (ap encode_interval h.0, h.1)
thing-prefix m r (an-interval p f) (some-faces q g i) e = absurd (omega arith)
thing-prefix m r (some-faces p f j) (a-face q g) e = absurd (omega arith)
thing-prefix m r (some-faces p f j) (an-interval q g) e = absurd (omega arith)
thing-prefix m r (some-faces p f j) (some-faces q g i) e = let h = faces-prefix f g m r (j ∙ sym i) e in (ap faces_bytes h.0, h.1)

-- Environments that agree at a slot hold the same in it.
module _ (E F : Env) (w : ℕ) (n : F.num ≡ E.num) (f : w % 3 ≡ 0 → F.fac (w / 3) ≡ E.fac (w / 3)) (r : w % 3 ≡ 1 → F.itv (w / 3) ≡ E.itv (w / 3)) (c : w % 3 ≡ 2 → F.ctx (w / 3) ≡ E.ctx (w / 3)) where
  same_bytes : bytes_of F w ≡ bytes_of E w
  same_bytes = go (ℕ_discrete (w % 3) 0) (ℕ_discrete (w % 3) 1)
    where
      go : Dec (w % 3 ≡ 0) → Dec (w % 3 ≡ 1) → bytes_of F w ≡ bytes_of E w
      go (yes p) d = bytes-face F w p ∙ ap encode_face (f p) ∙ sym (bytes-face E w p)
      go (no p) (yes q) = bytes-interval F w q ∙ ap encode_interval (r q) ∙ sym (bytes-interval E w q)
      go (no p) (no q) = let o : w % 3 ≡ 2 = omega arith in bytes-context F w o ∙ ap faces_bytes (c o) ∙ sym (bytes-context E w o)

  held-other : held_in F w ≡ held_in E w
  held-other = go (dec_lt w 24)
    where
      go : Dec (w < 24) → held_in F w ≡ held_in E w
      go (yes p) = held_bytes F w p ∙ ap bytes same_bytes ∙ sym (held_bytes E w p)
      go (no p) = held_number F w (omega arith) ∙ ap (λ (g : ℕ → ℕ). num (g (w - 24))) n ∙ sym (held_number E w (omega arith))

-- A slot can be made to hold what may stand in it.
thing-stands : {u n : ℕ} {x : List ℕ} (E : Env) → u < 24 → Thing u n x → (F : Env) × ((w : ℕ) → w < 32 → held_in F w ≡ put u (bytes x) (held_in E) w)
thing-stands {u} E b (a-face p f) =
    let F : Env = record { num = E.num; fac = put (u / 3) f E.fac; itv = E.itv; ctx = E.ctx } in (
      F,
      stands-as E F u (bytes (encode_face f)) (held_bytes F u b ∙ ap bytes (bytes-face F u p ∙ ap encode_face (put_same (u / 3) f E.fac)))
          (λ w k d. held-other E F w refl (λ h. put_other (u / 3) f E.fac (w / 3) (λ e. d (omega arith))) (λ _. refl) (λ _. refl)),
    )
thing-stands {u} E b (an-interval p r) =
    let F : Env = record { num = E.num; fac = E.fac; itv = put (u / 3) r E.itv; ctx = E.ctx } in (
      F,
      stands-as E F u (bytes (encode_interval r)) (held_bytes F u b ∙ ap bytes (bytes-interval F u p ∙ ap encode_interval (put_same (u / 3) r E.itv)))
          (λ w k d. held-other E F w refl (λ _. refl) (λ h. put_other (u / 3) r E.itv (w / 3) (λ e. d (omega arith))) (λ _. refl)),
    )
thing-stands {u} E b (some-faces p G q) =
    let F : Env = record { num = E.num; fac = E.fac; itv = E.itv; ctx = put (u / 3) G E.ctx } in (
      F,
      stands-as E F u (bytes (faces_bytes G)) (held_bytes F u b ∙ ap bytes (bytes-context F u p ∙ ap faces_bytes (put_same (u / 3) G E.ctx)))
          (λ w k d. held-other E F w refl (λ _. refl) (λ _. refl) (λ h. put_other (u / 3) G E.ctx (w / 3) (λ e. d (omega arith)))),
    )

module _ (u at end left : ℕ) (l : List ℕ) where
  pub slot-reading : (e : ℕ) → u < 24 → at ≤ e → e ≤ end → Thing u left (part l at e) → Reading (slot u) left (part l at end) u (bytes (part l at e)) (part l e end)
  slot-reading e b h k t = record {
    reads = λ E n r st.
        let q = thing-prefix (part l e end) r t st.2 (sym (part_join l at e end h k) ∙ st.0) in
        (held_bytes E u b ∙ ap bytes (sym q.0), st.1, sym q.1);
    writes = λ E i.
        let q : bytes_of E u ≡ part l at e = bytes-of (sym (held_bytes E u b) ∙ i) in
        (part_join l at e end h k ∙ ap (λ (z : List ℕ). z ++ part l e end) (sym q), refl, subst (Thing u left) (sym q) t);
    stands = λ E. thing-stands E b t;
  }
    where
      bytes-of : {x y : List ℕ} → bytes x ≡ bytes y → x ≡ y
      bytes-of e = cc

module _ (u : ℕ) (q : State) (l : List ℕ) where
  module _ (e : ℕ) (b : u < 24) (z : Ends (Thing u q.left) l q.at q.end (Some e)) (m m' : Bindings) (r : Bool) where
    slot-moves : Binds l m u (bytes (part l q.at e)) r m' → Moves (slot u) q l m (outcome r (moved q e q.left)) m'
    slot-moves = bound-moves (slot u) q l m m' u (bytes (part l q.at e)) e r (slot-reading u q.at q.end q.left l e b z.0 z.1 z.2) z.1

    pub slot-yes : r ≡ true → Binds l m u (bytes (part l q.at e)) r m' → Moves (slot u) q l m (Some (moved q e q.left)) m'
    slot-yes f g = rw f at (slot-moves g)

    pub slot-no : r ≡ false → Binds l m u (bytes (part l q.at e)) r m' → Moves (slot u) q l m None m'
    slot-no f g = rw f at (slot-moves g)

  pub slot-none : Ends (Thing u q.left) l q.at q.end None → (m : Bindings) → Moves (slot u) q l m None m
  slot-none h m = λ E n s g st. h (bytes_of E u) s st.2 st.0

-- Where things end ---------------------------------------------------------------------------

ends_as : {P Q : List ℕ → Type 0} (l : List ℕ) (at end : ℕ) (r : Option ℕ) → ((x : List ℕ) → P x → Q x) → ((x : List ℕ) → Q x → P x) → Ends P l at end r → Ends Q l at end r
ends_as l at end (Some e) f g h = (h.0, h.1, f (part l at e) h.2)
ends_as l at end None f g h = λ x m q. h x m (g x q)

module _ (u n : ℕ) where
  face-thing : u % 3 ≡ 0 → (x : List ℕ) → Formula faces x → Thing u n x
  face-thing h x t = subst (Thing u n) (sym t.1) (a-face h t.0)

  thing-face : u % 3 ≡ 0 → (x : List ℕ) → Thing u n x → Formula faces x
  thing-face h x (a-face p f) = (f, refl)
  thing-face h x (an-interval p r) = absurd (omega arith)
  thing-face h x (some-faces p G q) = absurd (omega arith)

  interval-thing : u % 3 ≡ 1 → (x : List ℕ) → Formula intervals x → Thing u n x
  interval-thing h x t = subst (Thing u n) (sym t.1) (an-interval h t.0)

  thing-interval : u % 3 ≡ 1 → (x : List ℕ) → Thing u n x → Formula intervals x
  thing-interval h x (a-face p f) = absurd (omega arith)
  thing-interval h x (an-interval p r) = (r, refl)
  thing-interval h x (some-faces p G q) = absurd (omega arith)

  faces-thing : u % 3 ≡ 2 → (x : List ℕ) → Faces n x → Thing u n x
  faces-thing h x t = subst (Thing u n) (sym t.1) (some-faces h t.0 t.2)

  pub thing-faces : u % 3 ≡ 2 → (x : List ℕ) → Thing u n x → Faces n x
  thing-faces h x (a-face p f) = absurd (omega arith)
  thing-faces h x (an-interval p r) = absurd (omega arith)
  thing-faces h x (some-faces p G q) = (G, refl, q)

  module _ (l : List ℕ) (at end : ℕ) (r : Option ℕ) where
    pub end-face : u % 3 ≡ 0 → Ends (Formula faces) l at end r → Ends (Thing u n) l at end r
    end-face h = ends_as {P = Formula faces} {Q = Thing u n} l at end r (face-thing h) (thing-face h)

    pub end-interval : u % 3 ≡ 1 → Ends (Formula intervals) l at end r → Ends (Thing u n) l at end r
    end-interval h = ends_as {P = Formula intervals} {Q = Thing u n} l at end r (interval-thing h) (thing-interval h)

    pub end-faces : u % 3 ≡ 2 → Ends (Faces n) l at end r → Ends (Thing u n) l at end r
    end-faces h = ends_as {P = Faces n} {Q = Thing u n} l at end r (faces-thing h) (thing-faces h)

module _ (s : Sort) (l : List ℕ) (at end : ℕ) (h : at ≤ end) (k : end ≤ length l) where
  pub formula-at : (z : Size) → measurement_at s (part l at end) 0 ≡ Ok z → Ends (Formula s) l at end (Some (at + z.len))
  unfolding measurement_at
  formula-at z e = go (read s (part l at end)) refl e
    where
      go : (g : Got (Tree s)) → read s (part l at end) ≡ g → size_front s g ≡ Ok z → Ends (Formula s) l at end (Some (at + z.len))
      go nothing i j = absurd (let o : ◌≡◌ {A = ℕ} 0 1 = cc in omega arith)
      go (got t m) i j =
          let p = part-split l at end (encode s t) m h k (encode-read s (part l at end) t m i) in
          let n : length (encode s t) ≡ z.len = ap length_of j in
          rw (← n) (omega arith, p.0, (t, p.1))
        where
          length_of : Result Size Refusal → ℕ
          length_of (Ok z) = z.len
          length_of (Err e) = 0

  pub formula-nowhere : (x : Refusal) → measurement_at s (part l at end) 0 ≡ Err x → Ends (Formula s) l at end None
  unfolding measurement_at
  formula-nowhere y e = λ x m t i. go t.0 m (i ∙ ap (λ (z : List ℕ). z ++ m) t.1)
    where
      go : (t : Tree s) (m : List ℕ) → part l at end ≡ encode s t ++ m → ⊥
      go t m i =
          let p : size_front s (got t m) ≡ Err y = sym (ap (size_front s) (ap (read s) i ∙ read-encode s t m)) ∙ e in
          let o : ◌≡◌ {A = ℕ} 0 1 = cc in
          omega arith

-- Faces one after another.
faces-snoc : (G : List Face) (f : Face) → faces_bytes (G ++ f ∷ []) ≡ faces_bytes G ++ encode_face f
unfolding faces_bytes
faces-snoc [] f = append-nil (encode_face f)
faces-snoc (g ∷ G) f = ap (λ (z : List ℕ). encode_face g ++ z) (faces-snoc G f) ∙ sym (append_assoc (encode_face g) (faces_bytes G) (encode_face f))

-- i of n faces have been passed: what is left of n faces from the start is n - i faces from here.
pub record Passed (l : List ℕ) (n at end e i : ℕ) : Type 0 where
  pub low : at ≤ e
  pub high : e ≤ end
  pub most : i ≤ n
  pub seen : Faces i (part l at e)
  pub rest : (G : List Face) (m : List ℕ) → length G ≡ n → part l at end ≡ faces_bytes G ++ m → (D : List Face) × (length D + i ≡ n) × (part l e end ≡ faces_bytes D ++ m)

module _ (l : List ℕ) (n at end : ℕ) where
  pub passed_start : at ≤ end → Passed l n at end at 0
  unfolding faces_bytes
  passed_start h = record { low = omega arith; high = h; most = omega arith; seen = ([], part_none l at, refl); rest = λ G m p e. (G, omega arith, e) }

  module _ (e i : ℕ) (v : Passed l n at end e i) where
    pub passed_on : (x : ℕ) → i < n → Ends (Formula faces) l e end (Some x) → Passed l n at end x (i + 1)
    unfolding faces_bytes
    passed_on x b q = record {
      low = omega (arith, v.low, q.0);
      high = q.1;
      most = omega arith;
      seen = (
        v.seen.0 ++ q.2.0 ∷ [],
        part_join l at e x v.low q.0 ∙ ap₂ ◌++◌ v.seen.1 q.2.1 ∙ sym (faces-snoc v.seen.0 q.2.0),
        length-append v.seen.0 (q.2.0 ∷ []) ∙ ap (λ (k : ℕ). k + 1) v.seen.2,
      );
      rest = λ G m p s. let d = v.rest G m p s in go d.0 m d.1 d.2;
    }
      where
        go : (D : List Face) (m : List ℕ) → length D + i ≡ n → part l e end ≡ faces_bytes D ++ m → (D : List Face) × (length D + (i + 1) ≡ n) × (part l x end ≡ faces_bytes D ++ m)
        go [] m p s = absurd (omega arith)
        go (f ∷ D) m p s =
            (D, omega arith, (encode-prefix faces q.2.0 f (part l x end) (faces_bytes D ++ m) (ap (λ (z : List ℕ). z ++ part l x end) (sym q.2.1) ∙ sym (part_join l e x end q.0 q.1) ∙ s ∙ append_assoc (encode_face f) (faces_bytes D) m)).1)

    pub passed_none : i < n → Ends (Formula faces) l e end None → Ends (Faces n) l at end None
    unfolding faces_bytes
    passed_none b q = λ x m t s. let d = v.rest t.0 m t.2 (s ∙ ap (λ (z : List ℕ). z ++ m) t.1) in go d.0 m d.1 d.2
      where
        go : (D : List Face) (m : List ℕ) → length D + i ≡ n → part l e end ≡ faces_bytes D ++ m → ⊥
        go [] m p s = omega arith
        go (f ∷ D) m p s = q (encode_face f) (faces_bytes D ++ m) (f, refl) (s ∙ append_assoc (encode_face f) (faces_bytes D) m)

    pub passed-all : n ≤ i → Ends (Faces n) l at end (Some e)
    passed-all b = (v.low, v.high, (v.seen.0, v.seen.1, v.seen.2 ∙ omega (arith, v.most)))

-- Bytes that must stand there, and counts --------------------------------------------------------

-- A token that binds nothing, and leads to one place only.
plain-moves : (t : Token) (q : State) (l : List ℕ) (a h : ℕ) → a ≤ q.end
    → ((E : Env) (n : ℕ) (s : List ℕ) → Consumes E t q.left (part l q.at q.end) n s → (n ≡ h) × (s ≡ part l a q.end)) → ((E : Env) → Consumes E t q.left (part l q.at q.end) h (part l a q.end))
    → MovesOnly t q l (Some (moved q a h))
plain-moves t q l a h w f b m = record { kept = (refl, refl); within = w; forth = λ E n s g st. (g, (f E n s st).0, (f E n s st).1); back = λ E g. (g, b E); possible = λ p. p }

module _ (q : State) (l : List ℕ) (o : q.at ≤ q.end) (i : q.end ≤ length l) where
  pub byte-no : (b x : ℕ) → q.at < q.end → x ≡ get_or l q.at 0 → (x ≡ b → ⊥) → MovesOnly (byte b) q l None
  byte-no b x h e d m = λ E n s g st. d (e ∙ head-eq_of_cons-eq (sym (part-cons l q.at q.end 0 h i) ∙ st.0))

  pub byte-yes : (b x : ℕ) → q.at < q.end → x ≡ get_or l q.at 0 → x ≡ b → MovesOnly (byte b) q l (Some (moved q (q.at + 1) q.left))
  byte-yes b x h e d = plain-moves (byte b) q l (q.at + 1) q.left (omega arith)
      (λ E n s st. (st.1, sym (tail-eq_of_cons-eq (sym (part-cons l q.at q.end 0 h i) ∙ st.0))))
      (λ E. (part-cons l q.at q.end 0 h i ∙ ap (λ (z : ℕ). z ∷ part l (q.at + 1) q.end) (sym e ∙ d), refl))

  module _ (k : ℕ) where
    module _ (x y : ℕ) (h : 2 ≤ q.end - q.at) (e : x ≡ get_or l q.at 0) (f : y ≡ get_or l (q.at + 1) 0) (xb : x < 256) (yb : y < 256) where
      two : part l q.at q.end ≡ x ∷ y ∷ part l (q.at + 2) q.end
      two =
          let j : q.at + 1 + 1 ≡ q.at + 2 = omega arith in
          part-cons l q.at q.end 0 (omega arith) i ∙ ap₂ ◌∷◌ (sym e) (part-cons l (q.at + 1) q.end 0 (omega arith) i ∙ ap₂ (λ (a : ℕ) (b : ℕ). a ∷ part l b q.end) (sym f) j)

      sum : (n : ℕ) (s : List ℕ) → part l q.at q.end ≡ little_endian 2 (k + n) ++ s → k + n < 65536 → (k + n ≡ x + 256 * y) × (s ≡ part l (q.at + 2) q.end)
      sum n s st b =
          let c : x ∷ y ∷ part l (q.at + 2) q.end ≡ (k + n) % 256 ∷ ((k + n) / 256) % 256 ∷ s = sym two ∙ st in
          let a : x ≡ (k + n) % 256 = head-eq_of_cons-eq c in
          let d : y ≡ ((k + n) / 256) % 256 = head-eq_of_cons-eq (tail-eq_of_cons-eq c) in
          (omega arith, sym (tail-eq_of_cons-eq (tail-eq_of_cons-eq c)))

      pub count_low : x + 256 * y < k → MovesOnly (front k) q l None
      count_low b m = λ E n s g st. omega (arith, (sum n s st.0 st.1).0)

      pub count_yes : k ≤ x + 256 * y → MovesOnly (front k) q l (Some (moved q (q.at + 2) (x + 256 * y - k)))
      count_yes b = plain-moves (front k) q l (q.at + 2) (x + 256 * y - k) (omega arith)
          (λ E n s st. let c = sum n s st.0 st.1 in (omega (arith, c.0), c.1))
          (λ E. (two ∙ written, omega arith))
        where
          written : x ∷ y ∷ part l (q.at + 2) q.end ≡ little_endian 2 (k + (x + 256 * y - k)) ++ part l (q.at + 2) q.end
          written =
              let a : x ≡ (k + (x + 256 * y - k)) % 256 = omega arith in
              let d : (k + (x + 256 * y - k)) / 256 ≡ y = omega arith in
              let c : y ≡ ((k + (x + 256 * y - k)) / 256) % 256 = omega arith in
              ap₂ (λ (v : ℕ) (w : ℕ). v ∷ w ∷ part l (q.at + 2) q.end) a c
