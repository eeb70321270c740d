-- A row's items fit judgements exactly where these are an instance of the row, so where the step is by the rule.
use mathlib.Core.Path.{◌≡◌, refl, sym, ap, ap₂, ◌∙◌, subst}
use mathlib.Core.Bool.{Bool, true, false, and-eq-true_iff}
use mathlib.Core.List.{List, [], ◌∷◌, ◌++◌, map, append_assoc, append-nil, head-eq_of_cons-eq, tail-eq_of_cons-eq}
use Prim.Native.Nat.{ℕ, zero, suc, ◌+◌, ◌*◌, ◌-◌, ◌/◌, ◌%◌, ◌≤◌, ◌<◌}
use native.Mathlib.Omega.{arith}
use borrow.Author.Tests.{leb-true}
use lib.ListN.{length, replicate, length-append}
use Rattle.formula.specs.declared.Sort.TheVariants.{Faces as faces, Intervals as intervals}
use Rattle.formula.specs.Formula.{lo, hi, Face}
use Rattle.formula.specs.Bytes.{dim_bytes, encode_face, encode_interval, Got, got, then}
use Rattle.formula.proofs.Reading.{got-value, encode-pos, read-encode, encode-prefix}
use Rattle.calculus.specs.Judgement.{Judgement}
use Rattle.calculus.specs.Table.{predicate}
use Rattle.calculus.specs.Search.{nodes_context}
use Rattle.calculus.specs.Record
use Rattle.calculus.specs.Record.{little_endian, Field, Value, Values, faces_bytes, field_bytes, fields, operands, values_bytes, operand_bytes, allowed, all_allowed}
use Rattle.calculus.specs.Parse.{read_faces, read_field, judgement_of}
use Rattle.calculus.proofs.Fields.{read-little, read-faces, faces-nodes, values-front, rebuilt}
use Rattle.calculus.proofs.Rows.{NumP, nz, nv, ns, FaceP, fv, Ff, Ft, At, And, Or, IntP, iv, I0, I1, Dim, Neg, Meet, Join, CtxP, cv, Nil, ◌◂◌, JudP, Lt, Le, Int, Fac, Mem, Tak, Cov, Ent, Bnd, Loc, All, Ish, Isu, Fsh, Fsu, Env, inst_n, inst_f, inst_i, inst_c, inst, conclusion, premises, row_at, Instance, instance-rule, rule-instance}
use Rattle.kinds.specs.Kinds.{number_of, predicate_of}
use Rattle.kinds.proofs.KindLaws.{numbered}
use Rattle.rules.specs.declared.Claim.{Claim}
use Rattle.rules.specs.Standing.{AllStand, Decides, Ruled}
use Rattle.rows.specs.declared.Token.{Token}
use Rattle.rows.specs.declared.Token.TheVariants.{Byte as byte, Number as number, Slot as slot, Front as front, Done as done, Pad as pad}
use Rattle.rows.specs.declared.Item.{Item}
use Rattle.rows.specs.declared.Item.TheVariants.{Claim as claim, Inside as inside}
use Rattle.rules.specs.Matching.{bytes_of, Thing, a-face, an-interval, some-faces, Consumes, Spoken, claimed, Fits, over, turn, spoken, Matched}
use Rattle.rows.specs.Flattening.{flat_n, flat_f, flat_i, fronts, flat_faces, flat_c, flat_j, padded, pattern_number, line_items, lines_in, joined}
use Rattle.rules.proofs.Moving.{bytes-face, bytes-interval, bytes-context, thing-faces}

-- Tokens one after another ----------------------------------------------------------------------------

data Run (E : Env) : List Token → ℕ → List ℕ → ℕ → List ℕ → Type 0 where
  stay : {n n' : ℕ} {s s' : List ℕ} → n' ≡ n → s ≡ s' → Run E [] n s n' s'
  step : {t : Token} {ts : List Token} {n k n' : ℕ} {s r s' : List ℕ} → Consumes E t n s k r → Run E ts k r n' s' → Run E (t ∷ ts) n s n' s'

run-append : {E : Env} {ts us : List Token} {n k n' : ℕ} {s r s' : List ℕ} → Run E ts n s k r → Run E us k r n' s' → Run E (ts ++ us) n s n' s'
run-append (stay p q) b = rw (← p, q) b
run-append (step a c) b = step a (run-append c b)

run-split : {E : Env} {us : List Token} (ts : List Token) {n n' : ℕ} {s s' : List ℕ} → Run E (ts ++ us) n s n' s' → (k : ℕ) × (r : List ℕ) × Run E ts n s k r × Run E us k r n' s'
run-split [] {n} {n'} {s} a = (n, s, stay refl refl, a)
run-split (t ∷ ts) (step a b) = let c = run-split ts b in (c.0, c.1, step a c.2, c.3)

module _ (E : Env) where
  -- Tokens that spell x and leave the count of faces as it is.
  record Plain (ts : List Token) (x : List ℕ) : Type 0 where
    forth : (n : ℕ) (s : List ℕ) → Run E ts n (x ++ s) n s
    back : (n n' : ℕ) (s s' : List ℕ) → Run E ts n s n' s' → (s ≡ x ++ s') × (n' ≡ n)

  -- Tokens that spell x where C holds, and only there.
  record Spells (ts : List Token) (x : List ℕ) (C : Type 0) : Type 0 where
    forth : C → (n : ℕ) (s : List ℕ) → (k : ℕ) × Run E ts n (x ++ s) k s
    back : (n n' : ℕ) (s s' : List ℕ) → Run E ts n s n' s' → (s ≡ x ++ s') × C

  spells : {ts : List Token} {x : List ℕ} → Plain ts x → Spells ts x (Unit {0})
  spells p = record { forth = λ _ n s. (n, p.forth n s); back = λ n n' s s' a. ((p.back n n' s s' a).0, tt) }

  one : (t : Token) (x : List ℕ) → ((n : ℕ) (s : List ℕ) → Consumes E t n (x ++ s) n s) → ((n n' : ℕ) (s s' : List ℕ) → Consumes E t n s n' s' → (s ≡ x ++ s') × (n' ≡ n)) → Plain (t ∷ []) x
  one t x f b = record { forth = λ n s. step (f n s) (stay refl refl); back = back }
    where
      back : (n n' : ℕ) (s s' : List ℕ) → Run E (t ∷ []) n s n' s' → (s ≡ x ++ s') × (n' ≡ n)
      back n n' s s' (step {k = k} {r = r} a (stay p q)) = let c = b n k s r a in (c.0 ∙ ap (λ (z : List ℕ). x ++ z) q, p ∙ c.1)

  infixr 20 ◌⊗◌
  ◌⊗◌ : {ts us : List Token} {x y : List ℕ} → Plain ts x → Plain us y → Plain (ts ++ us) (x ++ y)
  ◌⊗◌ {ts} {us} {x} {y} a b = record {
    forth = λ n s. rw (append_assoc x y s) (run-append (a.forth n (y ++ s)) (b.forth n s));
    back = λ n n' s s' r.
        let c = run-split ts r in
        let p = a.back n c.0 s c.1 c.2 in
        let q = b.back c.0 n' c.1 s' c.3 in
        (p.0 ∙ ap (λ (z : List ℕ). x ++ z) q.0 ∙ sym (append_assoc x y s'), q.1 ∙ p.1);
  }

  infixr 20 ◌⊕◌
  ◌⊕◌ : {ts us : List Token} {x y : List ℕ} {C D : Type 0} → Spells ts x C → Spells us y D → Spells (ts ++ us) (x ++ y) (C × D)
  ◌⊕◌ {ts} {us} {x} {y} a b = record {
    forth = λ h n s. let p = a.forth h.0 n (y ++ s) in let q = b.forth h.1 p.0 s in (q.0, rw (append_assoc x y s) (run-append p.1 q.1));
    back = λ n n' s s' r.
        let c = run-split ts r in
        let p = a.back n c.0 s c.1 c.2 in
        let q = b.back c.0 n' c.1 s' c.3 in
        (p.0 ∙ ap (λ (z : List ℕ). x ++ z) q.0 ∙ sym (append_assoc x y s'), (p.1, q.1));
  }

  -- Patterns -------------------------------------------------------------------------------------------

  byte-plain : (b : ℕ) → Plain (byte b ∷ []) (b ∷ [])
  byte-plain b = one (byte b) (b ∷ []) (λ n s. (refl, refl)) (λ n n' s s' a. a)

  bytes-plain : (bs : List ℕ) → Plain (map byte bs) bs
  bytes-plain [] = record { forth = λ n s. stay refl refl; back = nothing }
    where
      nothing : (n n' : ℕ) (s s' : List ℕ) → Run E [] n s n' s' → (s ≡ s') × (n' ≡ n)
      nothing n n' s s' (stay p q) = (q, p)
  bytes-plain (b ∷ bs) = byte-plain b ⊗ bytes-plain bs

  number-plain : (k v m : ℕ) → k + E.num v ≡ m → Plain (number k v ∷ []) (dim_bytes m)
  number-plain k v m e = one (number k v) (dim_bytes m) (λ n s. (ap (λ (d : ℕ). dim_bytes d ++ s) (sym e), refl)) (λ n n' s s' a. (a.0 ∙ ap (λ (d : ℕ). dim_bytes d ++ s') e, a.1))

  slot-plain : (u : ℕ) (x : List ℕ) → bytes_of E u ≡ x → ((n : ℕ) → Thing u n x) → Plain (slot u ∷ []) x
  slot-plain u x e t = one (slot u) x (λ n s. (ap (λ (z : List ℕ). z ++ s) (sym e), refl, subst (Thing u n) (sym e) (t n))) (λ n n' s s' a. (a.0 ∙ ap (λ (z : List ℕ). z ++ s') e, a.1))

  plain_n : (p : NumP) → Plain (flat_n p) (dim_bytes (inst_n E p))
  plain_n nz = bytes-plain (dim_bytes 0)
  plain_n (nv v) = number-plain 0 v (E.num v) (omega arith)
  plain_n (ns v) = number-plain 1 v (suc (E.num v)) (omega arith)

  plain_f : (p : FaceP) → Plain (flat_f p) (encode_face (inst_f E p))
  unfolding flat_f encode_face
  plain_f (fv v) =
      let i : (3 * v) % 3 ≡ 0 = omega arith in
      let j : (3 * v) / 3 ≡ v = omega arith in
      slot-plain (3 * v) (encode_face (E.fac v)) (bytes-face E (3 * v) i ∙ ap (λ (w : ℕ). encode_face (E.fac w)) j) (λ n. a-face i (E.fac v))
  plain_f Ff = byte-plain 0
  plain_f Ft = byte-plain 1
  plain_f (At lo n) = byte-plain 2 ⊗ plain_n n
  plain_f (At hi n) = byte-plain 3 ⊗ plain_n n
  plain_f (And p q) = byte-plain 4 ⊗ (plain_f p ⊗ plain_f q)
  plain_f (Or p q) = byte-plain 5 ⊗ (plain_f p ⊗ plain_f q)

  plain_i : (p : IntP) → Plain (flat_i p) (encode_interval (inst_i E p))
  unfolding flat_i encode_interval
  plain_i (iv v) =
      let i : (3 * v + 1) % 3 ≡ 1 = omega arith in
      let j : (3 * v + 1) / 3 ≡ v = omega arith in
      slot-plain (3 * v + 1) (encode_interval (E.itv v)) (bytes-interval E (3 * v + 1) i ∙ ap (λ (w : ℕ). encode_interval (E.itv w)) j) (λ n. an-interval i (E.itv v))
  plain_i I0 = byte-plain 16
  plain_i I1 = byte-plain 17
  plain_i (Dim n) = byte-plain 18 ⊗ plain_n n
  plain_i (Neg p) = byte-plain 19 ⊗ plain_i p
  plain_i (Meet p q) = byte-plain 20 ⊗ (plain_i p ⊗ plain_i q)
  plain_i (Join p q) = byte-plain 21 ⊗ (plain_i p ⊗ plain_i q)

faces-injective : (G D : List Face) → faces_bytes G ≡ faces_bytes D → G ≡ D
unfolding faces_bytes
faces-injective [] [] e = refl
faces-injective [] (d ∷ D) e = absurd (omega (arith, simp length-append at (ap length e), encode-pos faces d))
faces-injective (g ∷ G) [] e = absurd (omega (arith, simp length-append at (ap length e), encode-pos faces g))
faces-injective (g ∷ G) (d ∷ D) e = let h = encode-prefix faces g d (faces_bytes G) (faces_bytes D) e in ap₂ ◌∷◌ h.0 (faces-injective G D h.1)

module _ (E : Env) where
  context-slot : (v : ℕ) → ((3 * v + 2) % 3 ≡ 2) × (bytes_of E (3 * v + 2) ≡ faces_bytes (E.ctx v))
  context-slot v =
      let i : (3 * v + 2) % 3 ≡ 2 = omega arith in
      let j : (3 * v + 2) / 3 ≡ v = omega arith in
      (i, bytes-context E (3 * v + 2) i ∙ ap (λ (w : ℕ). faces_bytes (E.ctx w)) j)

  faces-forth : (c : CtxP) (n : ℕ) (s : List ℕ) → fronts c + n ≡ length (inst_c E c) → (k : ℕ) × Run E (flat_faces c) n (faces_bytes (inst_c E c) ++ s) k s
  unfolding flat_faces fronts faces_bytes
  faces-forth (cv v) n s h =
      let p = context-slot v in
      (n, step {t = slot (3 * v + 2)} {k = n} {r = s} (ap (λ (z : List ℕ). z ++ s) (sym p.1), refl, subst (Thing (3 * v + 2) n) (sym p.1) (some-faces p.0 (E.ctx v) (omega arith))) (stay refl refl))
  faces-forth Nil n s h = (n, step {t = done} {k = n} {r = s} (refl, refl, omega arith) (stay refl refl))
  faces-forth (p ◂ c) n s h =
      let r = faces-forth c n s (omega arith) in
      (r.0, rw (append_assoc (encode_face (inst_f E p)) (faces_bytes (inst_c E c)) s) (run-append ((plain_f E p).forth n (faces_bytes (inst_c E c) ++ s)) r.1))

  faces-back : (c : CtxP) (n n' : ℕ) (s s' : List ℕ) → Run E (flat_faces c) n s n' s' → (s ≡ faces_bytes (inst_c E c) ++ s') × (fronts c + n ≡ length (inst_c E c))
  unfolding flat_faces fronts faces_bytes
  faces-back (cv v) n n' s s' (step a (stay p q)) =
      let w = context-slot v in
      let t = thing-faces (3 * v + 2) n w.0 (bytes_of E (3 * v + 2)) a.2 in
      let g : t.0 ≡ E.ctx v = faces-injective t.0 (E.ctx v) (sym t.1 ∙ w.1) in
      (a.0 ∙ ap₂ ◌++◌ w.1 q, omega (arith, t.2, ap length g))
  faces-back Nil n n' s s' (step a (stay p q)) = (a.0 ∙ q, omega (arith, a.2))
  faces-back (p ◂ c) n n' s s' r =
      let k = run-split (flat_f p) r in
      let x = (plain_f E p).back n k.0 s k.1 k.2 in
      let y = faces-back c k.0 n' k.1 s' k.3 in
      (x.0 ∙ ap (λ (z : List ℕ). encode_face (inst_f E p) ++ z) y.0 ∙ sym (append_assoc (encode_face (inst_f E p)) (faces_bytes (inst_c E c)) s'), omega (arith, x.1, y.1))

  fronts-few : (c : CtxP) → fronts c ≤ length (inst_c E c)
  unfolding fronts
  fronts-few (cv v) = omega arith
  fronts-few Nil = omega arith
  fronts-few (p ◂ c) = omega (arith, fronts-few c)

  spells_c : (c : CtxP) → Spells E (flat_c c) (little_endian 2 (length (inst_c E c)) ++ faces_bytes (inst_c E c)) (length (inst_c E c) < 65536)
  spells_c c = record { forth = forth; back = back }
    where
      forth : length (inst_c E c) < 65536 → (n : ℕ) (s : List ℕ) → (k : ℕ) × Run E (flat_c c) n ((little_endian 2 (length (inst_c E c)) ++ faces_bytes (inst_c E c)) ++ s) k s
      forth h n s =
          let f = fronts-few c in
          let i : fronts c + (length (inst_c E c) - fronts c) ≡ length (inst_c E c) = omega arith in
          let r = faces-forth c (length (inst_c E c) - fronts c) s i in
          (r.0, step {t = front (fronts c)} {k = length (inst_c E c) - fronts c} {r = faces_bytes (inst_c E c) ++ s} (ap (λ (m : ℕ). little_endian 2 m ++ (faces_bytes (inst_c E c) ++ s)) (sym i), omega arith) r.1)

      back : (n n' : ℕ) (s s' : List ℕ) → Run E (flat_c c) n s n' s' → (s ≡ (little_endian 2 (length (inst_c E c)) ++ faces_bytes (inst_c E c)) ++ s') × (length (inst_c E c) < 65536)
      back n n' s s' (step {k = k} {r = r} a b) =
          let x = faces-back c k n' r s' b in
          (a.0 ∙ ap₂ (λ (m : ℕ) (z : List ℕ). little_endian 2 m ++ z) x.1 x.0, omega (arith, a.1, x.1))

-- Judgements -----------------------------------------------------------------------------------------------

-- The count of a context fits two bytes.
abbrev short : (c : Field) → Value c → Type 0
short Record.number x = Unit {0}
short Record.index x = Unit {0}
short Record.context G = length G < 65536
short Record.end x = Unit {0}
short (Record.formula s) x = Unit {0}

abbrev short_all : (cs : List Field) → Values cs → Type 0
short_all [] xs = Unit {0}
short_all (c ∷ []) xs = short c xs.0
short_all (c ∷ (e ∷ cs)) xs = short c xs.0 × short_all (e ∷ cs) xs.1

abbrev Short : Judgement → Type 0
Short j = short_all (fields (predicate j)) (operands j)

module _ (E : Env) where
  s_n : (p : NumP) → Spells E (flat_n p) (dim_bytes (inst_n E p)) (Unit {0})
  s_n p = spells E (plain_n E p)

  s_f : (p : FaceP) → Spells E (flat_f p) (encode_face (inst_f E p)) (Unit {0})
  s_f p = spells E (plain_f E p)

  s_i : (p : IntP) → Spells E (flat_i p) (encode_interval (inst_i E p)) (Unit {0})
  s_i p = spells E (plain_i E p)

  infixr 20 ◌then-by◌
  ◌then-by◌ : {ts us : List Token} {x y : List ℕ} {C D : Type 0} → Spells E ts x C → Spells E us y D → Spells E (ts ++ us) (x ++ y) (C × D)
  a then-by b = ◌⊕◌ E a b

  spells_j : (p : JudP) → Spells E (flat_j p) (operand_bytes (inst E p)) (Short (inst E p))
  spells_j (Lt m n) = s_n m then-by s_n n
  spells_j (Le m n) = s_n m then-by s_n n
  spells_j (Int d r) = s_n d then-by s_i r
  spells_j (Fac d f) = s_n d then-by s_f f
  spells_j (Mem f G) = s_f f then-by spells_c E G
  spells_j (Tak G f D) = spells_c E G then-by s_f f then-by spells_c E D
  spells_j (Cov G g) = spells_c E G then-by s_f g
  spells_j (Ent d a b) = s_n d then-by s_f a then-by s_f b
  spells_j (Bnd r a b) = s_i r then-by s_f a then-by s_f b
  spells_j (Loc d p r e) = s_n d then-by s_f p then-by s_i r then-by s_i e
  spells_j (All f k o) = s_f f then-by s_n k then-by s_f o
  spells_j (Ish r k o) = s_i r then-by s_n k then-by s_i o
  spells_j (Isu r k s o) = s_i r then-by s_n k then-by s_i s then-by s_i o
  spells_j (Fsh f k o) = s_f f then-by s_n k then-by s_f o
  spells_j (Fsu f k s o) = s_f f then-by s_n k then-by s_i s then-by s_f o

  pads : (k : ℕ) → Plain E (replicate k pad) []
  pads zero = bytes-plain E []
  pads (suc k) = ◌⊗◌ E (one E pad [] (λ n s. (refl, refl)) (λ n n' s s' a. a)) (pads k)

  spells_line : (p : JudP) → Spells E (padded (flat_j p)) (operand_bytes (inst E p)) (Short (inst E p))
  spells_line p = record {
    forth = λ h n s. let r = (spells_j p).forth h n s in (r.0, run-append r.1 ((pads (9 - length (flat_j p))).forth r.0 s));
    back = λ n n' s s' r.
        let c = run-split (flat_j p) r in
        let b = (spells_j p).back n c.0 s c.1 c.2 in
        let q = (pads (9 - length (flat_j p))).back c.0 n' c.1 s' c.3 in
        (b.0 ∙ ap (λ (z : List ℕ). operand_bytes (inst E p) ++ z) q.0, b.1);
  }

  pattern_number-inst : (p : JudP) → pattern_number p ≡ number_of (predicate (inst E p))
  pattern_number-inst (Lt m n) = refl
  pattern_number-inst (Le m n) = refl
  pattern_number-inst (Int d r) = refl
  pattern_number-inst (Fac d f) = refl
  pattern_number-inst (Mem f G) = refl
  pattern_number-inst (Tak G f D) = refl
  pattern_number-inst (Cov G g) = refl
  pattern_number-inst (Ent d a b) = refl
  pattern_number-inst (Bnd r a b) = refl
  pattern_number-inst (Loc d p r e) = refl
  pattern_number-inst (All f k o) = refl
  pattern_number-inst (Ish r k o) = refl
  pattern_number-inst (Isu r k s o) = refl
  pattern_number-inst (Fsh f k o) = refl
  pattern_number-inst (Fsu f k s o) = refl

abbrev spoken_of : Judgement → Spoken
spoken_of j = claimed (number_of (predicate j)) (operand_bytes j)

abbrev AllShort : List Judgement → Type 0
AllShort [] = Unit {0}
AllShort (j ∷ js) = Short j × AllShort js

module _ (E : Env) where
  fits-split : {is : List Item} (ts : List Token) {n : ℕ} {s : List ℕ} {cs : List Spoken} → Fits E (map inside ts ++ is) n s cs → (k : ℕ) × (r : List ℕ) × Run E ts n s k r × Fits E is k r cs
  fits-split [] {n} {s} f = (n, s, stay refl refl, f)
  fits-split {is} (t ∷ ts) (turn {n' = n} {s' = s} a f) = let c = fits-split ts (subst (λ (ds : List Spoken). Fits E (map inside ts ++ is) n s ds) a.1 f) in (c.0, c.1, step a.0 c.2, c.3)

  fits-join : {is : List Item} {ts : List Token} {n k : ℕ} {s r : List ℕ} {cs : List Spoken} → Run E ts n s k r → Fits E is k r cs → Fits E (map inside ts ++ is) n s cs
  fits-join (stay p q) f = rw (← p, q) f
  fits-join {cs = cs} (step {t = t} {k = k} {r = r} a b) f = turn {i = inside t} {n' = k} {s' = r} {cs' = cs} (a, refl) (fits-join b f)

  -- Items that fit are the instances' claims.
  fits-claims : (ps : List JudP) {n : ℕ} {s : List ℕ} {cs : List Spoken} → Fits E (joined (map line_items ps)) n s cs → (s ≡ []) × (cs ≡ map spoken_of (map (inst E) ps)) × AllShort (map (inst E) ps)
  unfolding joined
  fits-claims [] (over e c) = (e, c, tt)
  fits-claims (p ∷ ps) (turn {n' = n} {s' = s} {cs' = cs} a f) =
      let c = fits-split (padded (flat_j p)) f in
      let h = fits-claims ps c.3 in
      let b = (spells_line E p).back n c.0 s c.1 c.2 in
      let e : s ≡ operand_bytes (inst E p) = b.0 ∙ ap (λ (z : List ℕ). operand_bytes (inst E p) ++ z) h.0 ∙ append-nil (operand_bytes (inst E p)) in
      (a.0, a.2 ∙ ap₂ ◌∷◌ (ap₂ claimed (pattern_number-inst E p) e) h.1, (b.1, h.2))

  claims-fit : (ps : List JudP) (n : ℕ) → AllShort (map (inst E) ps) → Fits E (joined (map line_items ps)) n [] (map spoken_of (map (inst E) ps))
  unfolding joined
  claims-fit [] n h = over refl refl
  claims-fit (p ∷ ps) n h =
      let r = (spells_line E p).forth h.0 0 [] in
      turn {i = claim (pattern_number p)} {n' = 0} {s' = operand_bytes (inst E p)} {cs' = map spoken_of (map (inst E) ps)} (refl, refl, ap (λ (k : ℕ). claimed k (operand_bytes (inst E p)) ∷ map spoken_of (map (inst E) ps)) (sym (pattern_number-inst E p)))
      (fits-join (subst (λ (z : List ℕ). Run E (padded (flat_j p)) 0 z r.0 []) (append-nil (operand_bytes (inst E p))) r.1) (claims-fit ps r.0 h.1))

-- Claims tell judgements apart --------------------------------------------------------------------------------

short-field : (c : Field) (x : Value c) (m : List ℕ) → short c x → read_field c (field_bytes c x ++ m) ≡ got x m
short-field Record.number n m h = refl
short-field Record.index k m h = refl
short-field Record.context G m h = ap (λ (r : Got ℕ). then r read_faces) (read-little 2 (length G) (faces_bytes G ++ m) h) ∙ read-faces G m
short-field Record.end r m h = read-encode intervals r m
short-field (Record.formula s) t m h = read-encode s t m

short-front : (c : Field) (cs : List Field) (xs : Values (c ∷ cs)) → short_all (c ∷ cs) xs → short c xs.0 × short_all cs xs.1
short-front c [] xs h = (h, tt)
short-front c (e ∷ cs) xs h = h

read_bare : (cs : List Field) → List ℕ → Got (Values cs)
read_bare [] l = got tt l
read_bare (c ∷ cs) l = then (read_field c l) (λ x m. then (read_bare cs m) (λ xs. got (x, xs)))

read_short : (cs : List Field) (xs : Values cs) (m : List ℕ) → short_all cs xs → read_bare cs (values_bytes cs xs ++ m) ≡ got xs m
unfolding read_bare
read_short [] xs m h = refl
read_short (c ∷ cs) xs m h =
    let p = short-front c cs xs h in
    rw (values-front c cs xs m, short-field c xs.0 (values_bytes cs xs.1 ++ m) p.0, read_short cs xs.1 m p.1)

read_claim : Spoken → Got Judgement
read_claim (claimed p l) = then (read_bare (fields (predicate_of p)) (l ++ [])) (λ xs. got (judgement_of (predicate_of p) xs))

read-claim : (j : Judgement) → Short j → read_claim (spoken_of j) ≡ got j []
unfolding read_claim
read-claim j h = rw ((numbered (predicate j)).0, read_short (fields (predicate j)) (operands j) [] h, rebuilt j)

claims-injective : (js ks : List Judgement) → AllShort js → AllShort ks → map spoken_of js ≡ map spoken_of ks → js ≡ ks
claims-injective [] [] h i e = refl
claims-injective [] (k ∷ ks) h i e = cc
claims-injective (j ∷ js) [] h i e = cc
claims-injective (j ∷ js) (k ∷ ks) h i e =
    ap₂ ◌∷◌ (got-value (sym (read-claim j h.0) ∙ ap read_claim (head-eq_of_cons-eq e) ∙ read-claim k i.0)) (claims-injective js ks h.1 i.1 (tail-eq_of_cons-eq e))

-- The judgements that stand in the ranges -----------------------------------------------------------------------

allowed-short : (c : Field) (x : Value c) → allowed c x ≡ true → short c x
allowed-short Record.number x h = tt
allowed-short Record.index x h = tt
allowed-short Record.context G h = let few = leb-true (nodes_context G) 511 ((and-eq-true_iff _ _).0 h).0 in omega (arith, faces-nodes G)
allowed-short Record.end x h = tt
allowed-short (Record.formula s) x h = tt

all_short : (cs : List Field) (xs : Values cs) → all_allowed cs xs ≡ true → short_all cs xs
all_short [] xs h = tt
all_short (c ∷ []) xs h = allowed-short c xs.0 ((and-eq-true_iff (allowed c xs.0) true).0 h).0
all_short (c ∷ (e ∷ cs)) xs h = let p = (and-eq-true_iff (allowed c xs.0) (all_allowed (e ∷ cs) xs.1)).0 h in (allowed-short c xs.0 p.0, all_short (e ∷ cs) xs.1 p.1)

module _ (l : List ℕ) where
  stand-spoken : (cs : List Claim) (js : List Judgement) → AllStand l cs js → (spoken l cs ≡ map spoken_of js) × AllShort js
  stand-spoken [] [] h = (refl, tt)
  stand-spoken [] (j ∷ js) h = absurd h
  stand-spoken (c ∷ cs) [] h = absurd h
  stand-spoken (c ∷ cs) (j ∷ js) h =
      let r = stand-spoken cs js h.1 in
      (ap₂ ◌∷◌ (ap₂ claimed h.0.named h.0.bytes) r.0, (all_short (fields (predicate j)) (operands j) h.0.limits, r.1))

  -- A row that matches is the rule, and only then.
  row-judged : (k : ℕ) (cs : List Claim) (r : Bool) → k < 75 → Decides r (Matched (joined (lines_in (row_at k))) (spoken l cs)) → Ruled l (suc k) cs r
  row-judged k cs true b d j js h =
      let s = stand-spoken cs (j ∷ js) h in
      let f = fits-claims d.0 (conclusion (row_at k) ∷ premises (row_at k)) d.1 in
      let m = claims-injective _ (j ∷ js) f.2 s.1 (sym f.1 ∙ s.0) in
      instance-rule b (record { env = d.0; ends = head-eq_of_cons-eq m; refs = tail-eq_of_cons-eq m })
  row-judged k cs false b d j js h = λ r. go (rule-instance r)
    where
      go : Instance k js j → ⊥
      go w =
          let s = stand-spoken cs (j ∷ js) h in
          let m : map (inst w.env) (conclusion (row_at k) ∷ premises (row_at k)) ≡ j ∷ js = ap₂ ◌∷◌ w.ends w.refs in
          d (w.env, subst (λ (ds : List Spoken). Fits w.env (joined (lines_in (row_at k))) 0 [] ds) (ap (map spoken_of) m ∙ sym s.0) (claims-fit w.env (conclusion (row_at k) ∷ premises (row_at k)) 0 (subst AllShort (sym m) s.1)))

  -- By the number of the kind.
  pub kind-judged : (kind : ℕ) (cs : List Claim) (r : Bool) → (kind ≡ 0 → ⊥) → kind ≤ 75 → Decides r (Matched (joined (lines_in (row_at (kind - 1)))) (spoken l cs)) → Ruled l kind cs r
  kind-judged kind cs r b h d =
      let e : suc (kind - 1) ≡ kind = omega arith in
      subst (λ (k : ℕ). Ruled l k cs r) e (row-judged (kind - 1) cs r (omega arith) d)
