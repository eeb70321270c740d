-- What the functions write: bytes of one kind, a literal, the literals of a clause by their ranks.
use Prim.Native.Nat.{ℕ, zero, suc, ◌+◌, ◌-◌, ◌*◌, ◌/◌, ◌%◌, ◌≤◌, ◌<◌}
use native.Mathlib.Decide.{dec_le}
use native.Mathlib.Numerals.{add-one}
use Rattle.clauses.proofs.Selecting.{bits-length}
use native.Mathlib.Omega.{arith}
use mathlib.Core.Path.{◌≡◌, refl, sym, ap, ap₂, ◌∙◌, subst}
use mathlib.Core.Bool.{Bool, true, false}
use mathlib.Core.List.{List, [], ◌∷◌, ◌++◌}
use lib.ListN.{length, get_or, set, take, drop, length-drop, replicate, length-replicate, length-append, drop_of_length-le}
use lib.Seq.{sets, sets-eq, take_all, length-take-le, drop-cons}
use borrow.Rule.Slice.PartMut.{put_mid}
use Rattle.std.proofs.lemmas.Slice.{put_mid-paste}
use Rattle.formula.specs.Bytes.{dim_width, dim_bytes, encode_face}
use Rattle.formula.specs.Answers.{pick, dim_space}
use Rattle.formula.proofs.Nodes.{literal-kind}
use Rattle.clauses.specs.Normal.{literal, conjunction}
use Rattle.clauses.specs.Shape.{All, each}
use Rattle.clauses.specs.Words.{bits, select, count}
use Rattle.clauses.specs.declared.Clause.{Clause as Bits}
use Rattle.forms.specs.Forms.{literal_nodes, weight_of, literals_bytes, clause_form, Wrote}
use Rattle.forms.proofs.FormLaws.{conjunction-bytes, clause-count, wrote_none, wrote-next, wrote_as, wrote-length, times-room, Printing, printing-start, printing-room, printing-next, printing-end, printing-length}

-- ---- the weight of a clause

pub weight-none : (c : Bits) {m : ℕ} → m ≡ count (bits c) → m ≡ 0 → 1 ≡ weight_of c
unfolding weight_of
weight-none c e z = ap literal_nodes (sym z ∙ e)

nodes-some : (m : ℕ) → (m ≡ 0 → ⊥) → 2 * m - 1 ≡ literal_nodes m
nodes-some zero h = absurd (h refl)
nodes-some (suc m) h = omega arith

pub weight-some : (c : Bits) {m : ℕ} → m ≡ count (bits c) → (m ≡ 0 → ⊥) → 2 * m - 1 ≡ weight_of c
unfolding weight_of
weight-some c {m} e h = nodes-some m h ∙ ap literal_nodes e

-- ---- a byte so many times

pub filled : (b n : ℕ) {out ys : List ℕ} {to : ℕ} → to + n ≤ length out → ys ≡ replicate (length (take (to + n - to) (drop to out))) b → Wrote out to (replicate n b) (to + n) (put_mid to (to + n - to) out ys)
filled b n {out} {ys} {to} h e =
    let many : to + n - to ≡ n = omega arith in
    let part : length (take (to + n - to) (drop to out)) ≡ n = length-take-le (to + n - to) (drop to out) (omega (arith, h, length-drop to out)) ∙ many in
    let long : to + length (replicate n b) ≤ length out = omega (arith, h, length-replicate n b) in
    record {
      next = omega (arith, length-replicate n b);
      stored =
          put_mid-paste to (to + n - to) out ys (replicate n b) n (e ∙ ap (λ k. replicate k b) part) (sym many) (sym (length-replicate n b))
          ∙ ap₂ (λ (l : List ℕ) (k : ℕ). take to out ++ l ++ drop (to + k) out) (take_all n (replicate n b) (omega (arith, length-replicate n b))) (sym (length-replicate n b))
          ∙ sym (sets-eq (replicate n b) out to long);
    }

-- ---- a literal

-- b is the kind byte of a literal at the side of the number k.
module _ (k : ℕ) {b : ℕ} (e : b ≡ 2 + k % 2) where
  pub literal-bytes : encode_face (literal k) ≡ b ∷ dim_bytes (k / 2)
  unfolding literal
  literal-bytes = literal-kind (omega arith) e (k / 2)

  pub literal-wrote : {out out' : List ℕ} {to : ℕ} → out' ≡ sets (set out to b) (to + 1) (dim_bytes (k / 2)) → Wrote out to (encode_face (literal k)) (to + 1 + dim_width) out'
  literal-wrote {out} {to = to} w =
      wrote_as (sym literal-bytes) (record { next = omega arith; stored = w ∙ ap (λ (i : ℕ). sets (set out to b) i (dim_bytes (k / 2))) (add-one to) })

-- ---- the literals of a clause

-- Those from a rank on.
abbrev chosen_from : List ℕ → List Bool → ℕ → List ℕ
chosen_from ks b k = select (drop k ks) (drop k b)

chosen_at : (ks : List ℕ) (b : List Bool) (k : ℕ) → k < length ks → k < length b → chosen_from ks b k ≡ pick (get_or b k false) (get_or ks k 0 ∷ chosen_from ks b (k + 1)) (chosen_from ks b (k + 1))
unfolding select
chosen_at ks b k h g =
    ap₂ select (drop-cons ks k 0 h) (drop-cons b k false g)
    ∙ ap (λ (i : ℕ). pick (get_or b k false) (get_or ks k 0 ∷ chosen_from ks b i) (chosen_from ks b i)) (sym (add-one k))

chosen_none : (ks : List ℕ) (b : List Bool) (k : ℕ) → length ks ≤ k → chosen_from ks b k ≡ []
unfolding select
chosen_none ks b k h = ap (λ (l : List ℕ). select l (drop k b)) (drop_of_length-le ks {i = k} h)

-- Their dimensions fit a field.
abbrev Narrow : List ℕ → Type 0
Narrow l = All (λ j. j / 2 < dim_space) l

all_head : {P : ℕ → Type 0} {k : ℕ} {l : List ℕ} → All P (k ∷ l) → P k
all_head (each p a) = p

all_tail : {P : ℕ → Type 0} {k : ℕ} {l : List ℕ} → All P (k ∷ l) → All P l
all_tail (each p a) = a

-- Some literals are written, and as many are left as are to come from a rank on.
pub record Spelling (ks : List ℕ) (b : List Bool) (out₀ : List ℕ) (to : ℕ) (out : List ℕ) (at left k : ℕ) : Type 0 where
  pub same : length ks ≡ length b
  pub printing : Printing (λ j. encode_face (literal j)) (literals_bytes (select ks b)) out₀ to (chosen_from ks b k) at out
  pub many : left ≡ length (chosen_from ks b k)
  pub narrow : Narrow (chosen_from ks b k)

pub spelling-start : (ks : List ℕ) (c : Bits) {out : List ℕ} {to many : ℕ} → length ks ≡ 256 → many ≡ count (bits c) → Narrow (select ks (bits c)) → Spelling ks (bits c) out to out to many 0
unfolding literals_bytes
spelling-start ks c e m a = record { same = e ∙ sym (bits-length c); printing = printing-start wrote_none refl; many = m ∙ sym (clause-count ks c e); narrow = a }

pub spelling-length : {ks : List ℕ} {b : List Bool} {out₀ : List ℕ} {to : ℕ} {out : List ℕ} {at left k : ℕ} → Spelling ks b out₀ to out at left k → length out ≡ length out₀
spelling-length s = printing-length s.printing

-- The same, told in other numbers.
pub spelling-as : {ks : List ℕ} {b : List Bool} {out₀ : List ℕ} {to : ℕ} {out out' : List ℕ} {at at' left left' k : ℕ} → out' ≡ out → at' ≡ at → left' ≡ left → Spelling ks b out₀ to out at left k → Spelling ks b out₀ to out' at' left' k
spelling-as e f g s = rw (e, f, g) s

module _ {ks : List ℕ} {b : List Bool} {out₀ : List ℕ} {to : ℕ} {out : List ℕ} {at left k : ℕ} (s : Spelling ks b out₀ to out at left k) (h : 0 < left) where
  -- The rank is one of a literal.
  pub spelling-rank : k < length ks
  spelling-rank = go (dec_le (length ks) k)
    where
      go : Dec (length ks ≤ k) → k < length ks
      go (yes g) = absurd (omega (arith, s.many, ap length (chosen_none ks b k g)))
      go (no g) = omega arith

  here : (x : Bool) → get_or b k false ≡ x → chosen_from ks b k ≡ pick x (get_or ks k 0 ∷ chosen_from ks b (k + 1)) (chosen_from ks b (k + 1))
  here x p = chosen_at ks b k spelling-rank (omega (arith, s.same, spelling-rank)) ∙ ap (λ (x : Bool). pick x (get_or ks k 0 ∷ chosen_from ks b (k + 1)) (chosen_from ks b (k + 1))) p

  narrow-here : (x : Bool) → get_or b k false ≡ x → Narrow (pick x (get_or ks k 0 ∷ chosen_from ks b (k + 1)) (chosen_from ks b (k + 1)))
  narrow-here x p = subst Narrow (here x p) s.narrow

  pub spelling-narrow : get_or b k false ≡ true → get_or ks k 0 / 2 < dim_space
  spelling-narrow p = all_head (narrow-here true p)

  pub spelling-room : get_or b k false ≡ true → to + length (literals_bytes (select ks b)) ≤ length out₀ → at + length (encode_face (literal (get_or ks k 0))) ≤ length out
  spelling-room p r = printing-room s.printing (here true p) r

  pub spelling-next : {at' : ℕ} {out' : List ℕ} → get_or b k false ≡ true → Wrote out at (encode_face (literal (get_or ks k 0))) at' out' → Spelling ks b out₀ to out' at' (left - 1) (k + 1)
  spelling-next p w =
      record {
        same = s.same;
        printing = printing-next s.printing (here true p) w;
        many = omega (arith, s.many, ap length (here true p));
        narrow = all_tail (narrow-here true p);
      }

  pub spelling-skip : get_or b k false ≡ false → Spelling ks b out₀ to out at left (k + 1)
  spelling-skip p =
      record {
        same = s.same;
        printing = subst (λ (l : List ℕ). Printing (λ j. encode_face (literal j)) (literals_bytes (select ks b)) out₀ to l at out) (here false p) s.printing;
        many = s.many ∙ ap length (here false p);
        narrow = narrow-here false p;
      }

empty : (l : List ℕ) → length l ≡ 0 → l ≡ []
empty [] e = refl
empty (k ∷ l) e = absurd (omega (arith, e))

pub spelling-end : {ks : List ℕ} {b : List Bool} {out₀ : List ℕ} {to : ℕ} {out : List ℕ} {at left k : ℕ} → Spelling ks b out₀ to out at left k → left ≤ 0 → Wrote out₀ to (literals_bytes (select ks b)) at out
spelling-end {ks} {b} {k = k} s h = printing-end s.printing (empty (chosen_from ks b k) (omega (arith, s.many, h)))

-- ---- a clause

conjunction-none : (l : List ℕ) → length l ≡ 0 → encode_face (conjunction l) ≡ 1 ∷ []
unfolding conjunction encode_face
conjunction-none [] e = refl
conjunction-none (k ∷ l) e = absurd (omega (arith, e))

conjunction-some : (l : List ℕ) (m : ℕ) → length l ≡ m → (m ≡ 0 → ⊥) → encode_face (conjunction l) ≡ replicate (m - 1) 4 ++ literals_bytes l
conjunction-some [] m e h = absurd (h (sym e))
conjunction-some (k ∷ l) m e h =
    let n : length l ≡ m - 1 = omega (arith, e) in
    conjunction-bytes k l ∙ ap (λ (n : ℕ). replicate n 4 ++ literals_bytes (k ∷ l)) n

-- A clause whose literals are counted.
module _ (ks : List ℕ) (c : Bits) (e : length ks ≡ 256) {m : ℕ} (k : m ≡ count (bits c)) where
  pub clause-none : m ≡ 0 → clause_form ks c ≡ 1 ∷ []
  unfolding clause_form
  clause-none z = conjunction-none (select ks (bits c)) (clause-count ks c e ∙ sym k ∙ z)

  clause-some : (m ≡ 0 → ⊥) → clause_form ks c ≡ replicate (m - 1) 4 ++ literals_bytes (select ks (bits c))
  unfolding clause_form
  clause-some h = conjunction-some (select ks (bits c)) m (clause-count ks c e ∙ sym k) h

  -- Room for its bytes is room for the first ones, and then for the literals.
  pub clause-first : (to : ℕ) {n : ℕ} → (m ≡ 0 → ⊥) → to + length (clause_form ks c) ≤ n → to + (m - 1) ≤ n
  clause-first to h r = times-room 4 (m - 1) to (literals_bytes (select ks (bits c))) (clause-some h) r

  pub clause-rest : {out out' : List ℕ} {to at : ℕ} → (m ≡ 0 → ⊥) → to + length (clause_form ks c) ≤ length out → Wrote out to (replicate (m - 1) 4) at out' → at + length (literals_bytes (select ks (bits c))) ≤ length out'
  clause-rest h r w = omega (arith, r, ap length (clause-some h), length-append (replicate (m - 1) 4) (literals_bytes (select ks (bits c))), w.next, wrote-length w)

  pub clause-wrote : {out out' out'' : List ℕ} {to at r : ℕ} → (m ≡ 0 → ⊥) → Wrote out to (replicate (m - 1) 4) at out' → Wrote out' at (literals_bytes (select ks (bits c))) r out'' → Wrote out to (clause_form ks c) r out''
  clause-wrote h v w = wrote_as (sym (clause-some h)) (wrote-next v w)
