-- Fields and judgements: what was written is read back, and what was read was written.
use mathlib.Core.Path.{◌≡◌, refl, sym, ap, ap₂, ◌∙◌}
use mathlib.Core.Bool.{Bool, true, false, and-eq-true_iff}
use mathlib.Core.List.{List, [], ◌∷◌, ◌++◌, append_assoc}
use Prim.Native.Nat.{ℕ, zero, suc, ◌+◌, ◌*◌, ◌/◌, ◌%◌, ◌≤◌, ◌<◌}
use native.Mathlib.Omega.{arith}
use borrow.Author.Tests.{leb-true}
use lib.ListN.{length, get_or}
use Rattle.formula.specs.declared.Sort.{Sort}
use Rattle.formula.specs.declared.Sort.TheVariants.{Faces, Intervals}
use Rattle.formula.specs.Formula.{Face}
use Rattle.formula.specs.Bytes.{Tree, encode, encode_face, Got, nothing, got, then, read}
use Rattle.formula.proofs.Reading.{got-value, read-encode, encode-read}
use Rattle.calculus.specs.Judgement.{Judgement}
use Rattle.calculus.specs.Table
use Rattle.calculus.specs.Table.{Pred, predicate}
use Rattle.calculus.specs.Rules.{AllBelow}
use Rattle.calculus.specs.Search.{nodes_context}
use Rattle.calculus.specs.Record.{little_endian, Field, number, index, context, end, formula, Value, faces_bytes, field_bytes, allowed, fields, Values, operands, values_bytes, operand_bytes, all_allowed}
use Rattle.calculus.specs.Parse.{only, take_little, read_faces, read_field, read_values, judgement_of}
use Rattle.calculus.proofs.Searching.{nodes-positive}

-- What holds of a reading, if there is one ------------------------------------------------

pub data Post {A : Type 0} (P : A → List ℕ → Type 0) : Got A → Type 0 where
  fails : Post P nothing
  reads : {a : A} {m : List ℕ} → P a m → Post P (got a m)

pub post-then : {A B : Type 0} {P : A → List ℕ → Type 0} {Q : B → List ℕ → Type 0} {r : Got A} {k : A → List ℕ → Got B}
    → Post P r → ((a : A) (m : List ℕ) → P a m → Post Q (k a m)) → Post Q (then r k)
post-then fails h = fails
post-then (reads {a} {m} p) h = h a m p

pub post-only : {A : Type 0} {P : A → List ℕ → Type 0} (r : Got A) (b : Bool) → (b ≡ true → Post P r) → Post P (only b r)
post-only r true h = h refl
post-only r false h = fails

pub post-map : {A : Type 0} {P Q : A → List ℕ → Type 0} {r : Got A} → Post P r → ((a : A) (m : List ℕ) → P a m → Q a m) → Post Q r
post-map fails h = fails
post-map (reads {a} {m} p) h = reads (h a m p)

pub post-got : {A : Type 0} {P : A → List ℕ → Type 0} {a : A} {m : List ℕ} → Post P (got a m) → P a m
post-got (reads p) = p

-- Lists of bytes ----------------------------------------------------------------------------

pub below-append : (n : ℕ) (x y : List ℕ) → AllBelow n (x ++ y) → AllBelow n x × AllBelow n y
below-append n [] y h = (tt, h)
below-append n (b ∷ x) y h = let t = below-append n x y h.1 in ((h.0, t.0), t.1)

-- All numbers of a list are below n when each is.
pub below_each : (n : ℕ) (l : List ℕ) → ((i : ℕ) → i < length l → get_or l i 0 < n) → AllBelow n l
below_each n [] h = tt
below_each n (b ∷ l) h = (h 0 (omega arith), below_each n l (λ i p. h (suc i) (omega arith)))

-- What follows a part of a list of bytes is one.
pub below_rest : {l : List ℕ} (x m : List ℕ) → l ≡ x ++ m → AllBelow 256 l → AllBelow 256 m
below_rest x m e h = (below-append 256 x m (rw e at h)).1

-- Numbers -------------------------------------------------------------------------------------

-- How many numbers so many bytes can write.
abbrev pub capacity : ℕ → ℕ
capacity zero = 1
capacity (suc w) = 256 * capacity w

pub read-little : (w n : ℕ) (m : List ℕ) → n < capacity w → take_little w (little_endian w n ++ m) ≡ got n m
unfolding take_little
read-little zero n m h = let e : 0 ≡ n = omega arith in ap (λ (k : ℕ). got k m) e
read-little (suc w) n m h =
    let e : n % 256 + 256 * (n / 256) ≡ n = omega arith in
    ap (λ (r : Got ℕ). then r (λ k. got (n % 256 + 256 * k))) (read-little w (n / 256) m (omega arith)) ∙ ap (λ (k : ℕ). got k m) e

pub little-read : (w : ℕ) (l : List ℕ) → AllBelow 256 l → Post (λ n m. l ≡ little_endian w n ++ m) (take_little w l)
unfolding take_little
little-read zero l h = reads refl
little-read (suc w) [] h = fails
little-read (suc w) (b ∷ l) h = post-then (little-read w l h.1) (λ n m e. reads (cons n m e))
  where
    cons : (n : ℕ) (m : List ℕ) → l ≡ little_endian w n ++ m → b ∷ l ≡ little_endian (suc w) (b + 256 * n) ++ m
    cons n m e =
        let p : (b + 256 * n) % 256 ≡ b = omega arith in
        let q : (b + 256 * n) / 256 ≡ n = omega arith in
        rw (p, q, e)

-- A formula that is read was written.
pub formula-read : (s : Sort) (l : List ℕ) → Post (λ t m. l ≡ encode s t ++ m) (read s l)
formula-read s l = go (read s l) refl
  where
    go : (r : Got (Tree s)) → read s l ≡ r → Post (λ t m. l ≡ encode s t ++ m) r
    go nothing e = fails
    go (got t m) e = reads (encode-read s l t m e)

-- Contexts --------------------------------------------------------------------------------------

pub read-faces : (G : List Face) (m : List ℕ) → read_faces (length G) (faces_bytes G ++ m) ≡ got G m
unfolding read_faces faces_bytes
read-faces [] m = refl
read-faces (f ∷ G) m = rw (append_assoc (encode_face f) (faces_bytes G) m, read-encode Faces f (faces_bytes G ++ m), read-faces G m)

pub faces-read : (n : ℕ) (l : List ℕ) → Post (λ G m. (l ≡ faces_bytes G ++ m) × (length G ≡ n)) (read_faces n l)
unfolding read_faces faces_bytes
faces-read zero l = reads (refl, refl)
faces-read (suc n) l = post-then (formula-read Faces l) (λ f m e. post-then (faces-read n m) (λ G r h. reads (rw (e, h.0, append_assoc), ap suc h.1)))

-- A context has at least as many nodes as faces.
pub faces-nodes : (G : List Face) → length G ≤ nodes_context G
unfolding nodes_context
faces-nodes [] = omega arith
faces-nodes (f ∷ G) = omega (arith, faces-nodes G, nodes-positive f)

-- Fields -----------------------------------------------------------------------------------------

pub read-field : (c : Field) (x : Value c) (m : List ℕ) → allowed c x ≡ true → read_field c (field_bytes c x ++ m) ≡ got x m
read-field number n m h = refl
read-field index k m h = refl
read-field context G m h =
    let few = leb-true (nodes_context G) 511 ((and-eq-true_iff _ _).0 h).0 in
    ap (λ (r : Got ℕ). then r read_faces) (read-little 2 (length G) (faces_bytes G ++ m) (omega (arith, faces-nodes G))) ∙ read-faces G m
read-field end r m h = read-encode Intervals r m
read-field (formula s) t m h = read-encode s t m

pub field-read : (c : Field) (l : List ℕ) → AllBelow 256 l → Post (λ x m. l ≡ field_bytes c x ++ m) (read_field c l)
field-read number [] h = fails
field-read number (n ∷ l) h = reads refl
field-read index [] h = fails
field-read index (k ∷ l) h = reads refl
field-read context l h = post-then (little-read 2 l h) (λ n m e. post-map (faces-read n m) (λ G r i. rw (e, i.1, i.0)))
field-read end l h = formula-read Intervals l
field-read (formula s) l h = formula-read s l

-- Values -----------------------------------------------------------------------------------------

-- The first value stands in front of the others.
pub values-front : (c : Field) (cs : List Field) (xs : Values (c ∷ cs)) (m : List ℕ) → values_bytes (c ∷ cs) xs ++ m ≡ field_bytes c xs.0 ++ (values_bytes cs xs.1 ++ m)
values-front c [] xs m = refl
values-front c (e ∷ cs) xs m = append_assoc (field_bytes c xs.0) (values_bytes (e ∷ cs) xs.1) m

pub read-values : (cs : List Field) (xs : Values cs) (m : List ℕ) → all_allowed cs xs ≡ true → read_values cs (values_bytes cs xs ++ m) ≡ got xs m
unfolding read_values
read-values [] xs m h = refl
read-values (c ∷ cs) xs m h =
    let p = (and-eq-true_iff (allowed c xs.0) (all_allowed cs xs.1)).0 h in
    rw (values-front c cs xs m, read-field c xs.0 (values_bytes cs xs.1 ++ m) p.0, p.0, read-values cs xs.1 m p.1)

pub values-read : (cs : List Field) (l : List ℕ) → AllBelow 256 l → Post (λ xs m. (l ≡ values_bytes cs xs ++ m) × (all_allowed cs xs ≡ true)) (read_values cs l)
unfolding read_values
values-read [] l h = reads (refl, refl)
values-read (c ∷ cs) l h =
    post-then (field-read c l h) (λ x m e.
    post-only _ (allowed c x) (λ a.
    post-then (values-read cs m (below_rest (field_bytes c x) m e h)) (λ xs r i.
    reads (e ∙ ap (λ (z : List ℕ). field_bytes c x ++ z) i.0 ∙ sym (values-front c cs (x, xs) r), (and-eq-true_iff (allowed c x) (all_allowed cs xs)).1 (a, i.1)))))

-- Judgements ---------------------------------------------------------------------------------------

-- A ledger may hold the judgement.
abbrev pub Allowed : Judgement → Type 0
Allowed j = all_allowed (fields (predicate j)) (operands j) ≡ true

-- A judgement is that of its predicate and its operands.
pub rebuilt : (j : Judgement) → judgement_of (predicate j) (operands j) ≡ j
rebuilt (Judgement.lt m n) = refl
rebuilt (Judgement.le m n) = refl
rebuilt (Judgement.interval d r) = refl
rebuilt (Judgement.face d f) = refl
rebuilt (Judgement.member f G) = refl
rebuilt (Judgement.take G f D) = refl
rebuilt (Judgement.cover G g) = refl
rebuilt (Judgement.entails d a b) = refl
rebuilt (Judgement.boundary r a b) = refl
rebuilt (Judgement.local d f r e) = refl
rebuilt (Judgement.fforall f k g) = refl
rebuilt (Judgement.ishift r k s) = refl
rebuilt (Judgement.isubst r k t s) = refl
rebuilt (Judgement.fshift f k g) = refl
rebuilt (Judgement.fsubst f k t g) = refl

-- Operands of a predicate are those of a judgement with that predicate.
pub data Built : (p : Pred) → Values (fields p) → Type 0 where
  built : (j : Judgement) → Built (predicate j) (operands j)

pub build : (p : Pred) (xs : Values (fields p)) → Built p xs
build Table.p_lt xs = built (Judgement.lt xs.0 xs.1.0)
build Table.p_le xs = built (Judgement.le xs.0 xs.1.0)
build Table.p_interval xs = built (Judgement.interval xs.0 xs.1.0)
build Table.p_face xs = built (Judgement.face xs.0 xs.1.0)
build Table.p_member xs = built (Judgement.member xs.0 xs.1.0)
build Table.p_take xs = built (Judgement.take xs.0 xs.1.0 xs.1.1.0)
build Table.p_cover xs = built (Judgement.cover xs.0 xs.1.0)
build Table.p_entails xs = built (Judgement.entails xs.0 xs.1.0 xs.1.1.0)
build Table.p_boundary xs = built (Judgement.boundary xs.0 xs.1.0 xs.1.1.0)
build Table.p_local xs = built (Judgement.local xs.0 xs.1.0 xs.1.1.0 xs.1.1.1.0)
build Table.p_fforall xs = built (Judgement.fforall xs.0 xs.1.0 xs.1.1.0)
build Table.p_ishift xs = built (Judgement.ishift xs.0 xs.1.0 xs.1.1.0)
build Table.p_isubst xs = built (Judgement.isubst xs.0 xs.1.0 xs.1.1.0 xs.1.1.1.0)
build Table.p_fshift xs = built (Judgement.fshift xs.0 xs.1.0 xs.1.1.0)
build Table.p_fsubst xs = built (Judgement.fsubst xs.0 xs.1.0 xs.1.1.0 xs.1.1.1.0)

-- Reading the operands of a predicate as a judgement.
read_judgement : Pred → List ℕ → Got Judgement
read_judgement p l = then (read_values (fields p) l) (λ xs. got (judgement_of p xs))

read-judgement : (j : Judgement) (m : List ℕ) → Allowed j → read_judgement (predicate j) (operand_bytes j ++ m) ≡ got j m
unfolding read_judgement
read-judgement j m a = rw (read-values (fields (predicate j)) (operands j) m a, rebuilt j)

-- The same predicate and the same bytes: the same judgement, of those that a ledger may hold.
pub operands-injective : (j k : Judgement) → Allowed j → Allowed k → predicate j ≡ predicate k → operand_bytes j ≡ operand_bytes k → j ≡ k
operands-injective j k a b p e =
    let x = read-judgement j [] a in
    let y = read-judgement k [] b in
    got-value (sym x ∙ ap₂ (λ (q : Pred) (l : List ℕ). read_judgement q (l ++ [])) p e ∙ y)
