-- Records and ledgers: what was written is read back, and what was read was written.
use mathlib.Core.Path.{◌≡◌, refl, sym, ap, ap₂, subst, ◌∙◌}
use mathlib.Core.Bool.{true, ◌&&◌, and-eq-true_iff}
use mathlib.Core.Option.{Option, none, some, none-ne-some, some-injective}
use mathlib.Core.List.{List, [], ◌∷◌, ◌++◌, map, append_assoc, append-nil}
use Prim.Native.Nat.{ℕ, zero, suc, ◌+◌, ◌*◌, ◌-◌, ◌≤◌, ◌<◌}
use Prim.Native.String.{String}
use native.Mathlib.Omega.{arith}
use borrow.Author.Tests.{leb-true, le-leb, ltb-true, lt-ltb, eqb-true}
use lib.Dec.{leb, ltb, eqb}
use lib.ListN.{length, get_or, take, drop, replicate, length-append, length-replicate, length-map, take-append-drop, get_or-eq_default}
use lib.Seq.{take-append_seam, drop-append_seam, drop-append-add, drop_at, length-take-le}
use Rattle.formula.specs.Bytes.{Got, nothing, got, then, wholly}
use Rattle.calculus.specs.Judgement.{Step}
use Rattle.calculus.specs.Table.{Pred, Entry, entry, unlisted, entry_of, predicate}
use Rattle.calculus.specs.Rules.{judgement_at, AllBelow}
use Rattle.calculus.specs.Record.{little_endian, fields, Values, operands, values_bytes, operand_bytes, all_allowed, references_bytes, body_bytes, record_bytes, steps_bytes, size, ledger_bytes, FormedStep, FormedFrom, WellFormed, max_ledger, Holds}
use Rattle.calculus.specs.Parse.{only, take_little, take_part, judgement_of, read_references, read_as, read_body, used, read_record, read_steps, all_zero, read_ledger, operands_of, operands_at}
use Rattle.calculus.proofs.Tables.{listed-range}
use Rattle.calculus.proofs.Fields.{Post, fails, reads, post-then, post-map, post-only, below-append, below_rest, capacity, read-little, little-read, read-values, values-read, rebuilt, Built, built, build}

-- References ---------------------------------------------------------------------------------

pub read-references : (i : ℕ) (is : List ℕ) (m : List ℕ) → i ≤ capacity 4 → AllBelow i is → read_references i (length is) (references_bytes is ++ m) ≡ got is m
unfolding read_references references_bytes
read-references i [] m c h = refl
read-references i (j ∷ is) m c h =
    rw (append_assoc (little_endian 4 j) (references_bytes is) m, read-little 4 j (references_bytes is ++ m) (omega arith), lt-ltb j i h.0, read-references i is m c h.1)

pub references-read : (i n : ℕ) (l : List ℕ) → AllBelow 256 l → Post (λ is m. (l ≡ references_bytes is ++ m) × (length is ≡ n) × AllBelow i is) (read_references i n l)
unfolding read_references references_bytes
references-read i zero l h = reads (refl, refl, tt)
references-read i (suc n) l h =
    post-then (little-read 4 l h) (λ j m e.
    post-only _ (ltb j i) (λ b.
    post-then (references-read i n m (below_rest (little_endian 4 j) m e h)) (λ is r p.
    reads (rw (e, p.0), ap suc p.1, (ltb-true j i b, p.2)))))

-- Records --------------------------------------------------------------------------------------

pub read-body : (i : ℕ) (s : Step) (m : List ℕ) → i ≤ capacity 4 → FormedStep i s → read_body i (body_bytes s ++ m) ≡ got s m
unfolding read_body body_bytes
read-body i s m c f =
    let after = references_bytes s.references ++ operand_bytes s.judgement ++ m in
    ap (λ (r : Got ℕ). then r (λ k. read_as i k (entry_of k))) (read-little 2 s.kind after (omega (arith, (listed-range f.listed).1)))
    ∙ rw (
      f.listed.listed,
      append_assoc,
      read-references i s.references (operand_bytes s.judgement ++ m) c f.earlier,
      read-values (fields (predicate s.judgement)) (operands s.judgement) m f.limits,
      rebuilt s.judgement,
    )

-- A step from its parts.
made : (i k n : ℕ) (name : String) {p : Pred} {xs : Values (fields p)} → Built p xs → entry_of k ≡ entry name n p → (m : List ℕ) (is t r : List ℕ)
    → (m ≡ references_bytes is ++ t) × (length is ≡ n) × AllBelow i is → (t ≡ values_bytes (fields p) xs ++ r) × (all_allowed (fields p) xs ≡ true)
    → Post (λ s r. (little_endian 2 k ++ m ≡ body_bytes s ++ r) × FormedStep i s) (got (record { kind = k; references = is; judgement = judgement_of p xs }) r)
unfolding body_bytes
made i k n name (built j) e m is t r a b =
    let bytes : little_endian 2 k ++ m ≡ body_bytes (record { kind = k; references = is; judgement = j }) ++ r = rw (a.0, b.0) (simp append_assoc) in
    let count : entry_of k ≡ entry name (length is) (predicate j) = rw a.1 e in
    rw (rebuilt j) (reads (bytes, record { listed = record { name = name; listed = count }; earlier = a.2; limits = b.1 }))

-- By the entry of the kind.
as_read : (i k : ℕ) (x : Entry) → entry_of k ≡ x → (m : List ℕ) → AllBelow 256 m → Post (λ s r. (little_endian 2 k ++ m ≡ body_bytes s ++ r) × FormedStep i s) (read_as i k x m)
unfolding body_bytes
as_read i k (entry name n p) e m h =
    post-then (references-read i n m h) (λ is t a.
    post-then (values-read (fields p) t (below_rest (references_bytes is) t a.0 h)) (λ xs r b.
    made i k n name (build p xs) e m is t r a b))
as_read i k unlisted e m h = fails

pub body-read : (i : ℕ) (l : List ℕ) → AllBelow 256 l → Post (λ s m. (l ≡ body_bytes s ++ m) × FormedStep i s) (read_body i l)
unfolding read_body
body-read i l h = post-then (little-read 2 l h) (λ k m e. post-map (as_read i k (entry_of k) refl m (below_rest (little_endian 2 k) m e h)) (λ s r p. (e ∙ p.0, p.1)))

-- A part of that length.
read-part : (x m : List ℕ) → take_part (length x) (x ++ m) ≡ got x m
unfolding take_part
read-part x m = rw (le-leb (length x) (length (x ++ m)) (omega (arith, length-append x m)), take-append_seam x m, drop-append_seam x m)

part-read : (n : ℕ) (l : List ℕ) → Post (λ x m. (l ≡ x ++ m) × (length x ≡ n)) (take_part n l)
unfolding take_part
part-read n l = post-only _ (leb n (length l)) (λ b. reads (sym (take-append-drop n l), length-take-le n l (leb-true n (length l) b)))

-- Reading a whole part.
post-used : {A : Type 0} {P Q : A → List ℕ → Type 0} {g : Got A} (r : List ℕ) → Post P g → ((a : A) → P a [] → Q a r) → Post Q (used (wholly g) r)
post-used r fails h = fails
post-used r (reads {a} {m = []} p) h = reads (h a p)
post-used r (reads {m = b ∷ m} p) h = fails

pub read-record : (i : ℕ) (s : Step) (m : List ℕ) → i ≤ capacity 4 → length (body_bytes s) < capacity 4 → FormedStep i s → read_record i (record_bytes s ++ m) ≡ got s m
unfolding read_record record_bytes
read-record i s m c d f =
    ap (λ (r : Got ℕ). then r (λ n t. then (take_part n t) (λ part. used (wholly (read_body i part))))) (read-little 4 (length (body_bytes s)) (body_bytes s ++ m) d)
    ∙ rw (read-part (body_bytes s) m) (ap (λ (r : Got Step). used (wholly r) m) (ap (read_body i) (sym (append-nil (body_bytes s))) ∙ read-body i s [] c f))

-- A record from its parts.
whole-record : (n : ℕ) (m x r : List ℕ) (s : Step) → (m ≡ x ++ r) × (length x ≡ n) → x ≡ body_bytes s ++ [] → little_endian 4 n ++ m ≡ record_bytes s ++ r
unfolding record_bytes
whole-record n m x r s p q =
    let e : x ≡ body_bytes s = q ∙ append-nil (body_bytes s) in
    rw (← p.1, p.0, e)

pub record-read : (i : ℕ) (l : List ℕ) → AllBelow 256 l → Post (λ s m. (l ≡ record_bytes s ++ m) × FormedStep i s) (read_record i l)
unfolding read_record
record-read i l h =
    post-then (little-read 4 l h) (λ n m e.
    post-then (part-read n m) (λ x r p.
    post-used r (body-read i x (below-append 256 x r (rw p.0 at (below_rest (little_endian 4 n) m e h))).0) (λ s q.
    (e ∙ whole-record n m x r s p q.0, q.1))))

-- Steps ------------------------------------------------------------------------------------------

-- A record is at least its four bytes of length.
pub record-length : (s : Step) → length (record_bytes s) ≡ 4 + length (body_bytes s)
unfolding record_bytes
record-length s = omega arith

-- The records of a longer ledger begin with those of the shorter.
pub steps-append : (L T : List Step) → steps_bytes (L ++ T) ≡ steps_bytes L ++ steps_bytes T
unfolding steps_bytes
steps-append [] T = refl
steps-append (s ∷ L) T = rw (steps-append L T) (sym (append_assoc (record_bytes s) (steps_bytes L) (steps_bytes T)))

-- Where bytes are left there is a record.
pub steps-cons : (n i : ℕ) (l : List ℕ) → 0 < length l → read_steps (suc n) i l ≡ then (read_record i l) (λ s m. then (read_steps n (suc i) m) (λ L. got (s ∷ L)))
unfolding read_steps
steps-cons n i [] h = absurd (omega arith)
steps-cons n i (b ∷ l) h = refl

-- A number of w bytes takes w bytes, and a record takes more than none.
little-length : (w : ℕ) (l : List ℕ) → Post (λ n m. length l ≡ w + length m) (take_little w l)
unfolding take_little
little-length zero l = reads {m = l} (omega arith)
little-length (suc w) [] = fails
little-length (suc w) (b ∷ l) = post-then (little-length w l) (λ n m e. reads {m = m} (omega arith))

record-shorter : (i : ℕ) (l : List ℕ) → Post (λ s m. length m < length l) (read_record i l)
unfolding read_record
record-shorter i l =
    post-then (little-length 4 l) (λ n m e.
    post-then (part-read n m) (λ x r p.
    post-used r (any (read_body i x)) (λ s q. omega (arith, ap length p.0, length-append x r))))
  where
    any : (g : Got Step) → Post (λ s m. Unit {0}) g
    any nothing = fails
    any (got s m) = reads tt

-- What is read behind a record is read from fewer bytes.
behind : (n : ℕ) (F H : List ℕ → Got (List Step)) → ((m : List ℕ) → length m < n → F m ≡ H m) → {g : Got Step} → Post (λ s m. length m < n) g
    → then g (λ s m. then (F m) (λ L. got (s ∷ L))) ≡ then g (λ s m. then (H m) (λ L. got (s ∷ L)))
behind n F H h fails = refl
behind n F H h (reads {m} b) = rw (h m b)

-- Fuel for the bytes that are left suffices.
pub steps-fuel : (n k i : ℕ) (l : List ℕ) → length l ≤ n → length l ≤ k → read_steps n i l ≡ read_steps k i l
unfolding read_steps
steps-fuel zero zero i [] p q = refl
steps-fuel zero (suc k) i [] p q = refl
steps-fuel (suc n) zero i [] p q = refl
steps-fuel (suc n) (suc k) i [] p q = refl
steps-fuel zero k i (b ∷ l) p q = absurd (omega arith)
steps-fuel (suc n) zero i (b ∷ l) p q = absurd (omega arith)
steps-fuel (suc n) (suc k) i (b ∷ l) p q =
    behind (length (b ∷ l)) (read_steps n (suc i)) (read_steps k (suc i)) (λ m h. steps-fuel n k (suc i) m (omega arith) (omega arith)) (record-shorter i (b ∷ l))

-- One turn of a walk over records.
pub steps-turn : (i : ℕ) (l : List ℕ) → 0 < length l → read_steps (length l) i l ≡ then (read_record i l) (λ s m. then (read_steps (length m) (suc i) m) (λ L. got (s ∷ L)))
unfolding read_steps
steps-turn i [] h = absurd (omega arith)
steps-turn i (b ∷ l) h =
    behind (length (b ∷ l)) (read_steps (length l) (suc i)) (λ m. read_steps (length m) (suc i) m) (λ m p. steps-fuel (length l) (length m) (suc i) m (omega arith) (omega arith)) (record-shorter i (b ∷ l))

pub read-steps : (n i : ℕ) (L : List Step) → i + length (steps_bytes L) ≤ capacity 4 → length (steps_bytes L) ≤ n → FormedFrom i L → read_steps n i (steps_bytes L) ≡ got L []
unfolding read_steps steps_bytes
read-steps zero i [] c d f = refl
read-steps (suc n) i [] c d f = refl
read-steps zero i (s ∷ L) c d f = absurd (omega (arith, record-length s, length-append (record_bytes s) (steps_bytes L)))
read-steps (suc n) i (s ∷ L) c d f =
    let a = record-length s in
    let b = length-append (record_bytes s) (steps_bytes L) in
    steps-cons n i (record_bytes s ++ steps_bytes L) (omega arith)
    ∙ rw (read-record i s (steps_bytes L) (omega arith) (omega arith) f.0, read-steps n (suc i) L (omega arith) (omega arith) f.1)

pub steps-read : (n i : ℕ) (l : List ℕ) → AllBelow 256 l → Post (λ L m. (l ≡ steps_bytes L) × (m ≡ []) × FormedFrom i L) (read_steps n i l)
unfolding read_steps steps_bytes
steps-read zero i [] h = reads (refl, refl, tt)
steps-read zero i (b ∷ l) h = fails
steps-read (suc n) i [] h = reads (refl, refl, tt)
steps-read (suc n) i (b ∷ l) h =
    post-then (record-read i (b ∷ l) h) (λ s m e.
    post-then (steps-read n (suc i) m (below_rest (record_bytes s) m e.0 h)) (λ L r p.
    reads (e.0 ∙ ap (λ (z : List ℕ). record_bytes s ++ z) p.0, p.1, (e.1, p.2))))

-- Ledgers ----------------------------------------------------------------------------------------

read-zeros : (n : ℕ) → all_zero (replicate n 0) ≡ true
unfolding all_zero
read-zeros zero = refl
read-zeros (suc n) = read-zeros n

zeros-read : (l : List ℕ) → all_zero l ≡ true → l ≡ replicate (length l) 0
unfolding all_zero
zeros-read [] h = refl
zeros-read (b ∷ l) h = let p = (and-eq-true_iff (eqb b 0) (all_zero l)).0 h in ap₂ (λ (x : ℕ) (z : List ℕ). x ∷ z) (eqb-true b 0 p.0) (zeros-read l p.1)

-- The bytes of a ledger with a step appended.
pub ledger-append : (n : ℕ) (L : List Step) (s : Step)
    → ledger_bytes n (L ++ s ∷ []) ≡ little_endian 4 (length (steps_bytes L ++ record_bytes s)) ++ (steps_bytes L ++ (record_bytes s ++ replicate (n - (4 + length (steps_bytes L ++ record_bytes s))) 0))
unfolding ledger_bytes steps_bytes
ledger-append n L s = rw (steps-append L (s ∷ []), append-nil (record_bytes s)) (ap (λ (t : List ℕ). little_endian 4 (length (steps_bytes L ++ record_bytes s)) ++ t) (append_assoc (steps_bytes L) (record_bytes s) _))

-- A ledger of n bytes has n.
pub ledger-length : (n : ℕ) (L : List Step) → size L ≤ n → length (ledger_bytes n L) ≡ n
unfolding ledger_bytes
ledger-length n L h = simp (length-append, length-replicate) (omega arith)

read-inside : (n : ℕ) (L : List Step) → size L ≤ n → n ≤ max_ledger → WellFormed L
    → then (take_little 4 (ledger_bytes n L)) (λ n m. then (take_part n m) (λ part rest. only (all_zero rest) (read_steps (length part) 0 part))) ≡ got L []
unfolding ledger_bytes
read-inside n L h d f =
    ap (λ (r : Got ℕ). then r (λ n m. then (take_part n m) (λ part rest. only (all_zero rest) (read_steps (length part) 0 part))))
    (read-little 4 (length (steps_bytes L)) (steps_bytes L ++ replicate (n - size L) 0) (omega arith))
    ∙ rw (read-part (steps_bytes L) (replicate (n - size L) 0), read-zeros (n - size L)) (read-steps (length (steps_bytes L)) 0 L (omega arith) (omega arith) f)

read-ledger-bytes : (n : ℕ) (L : List Step) → size L ≤ n → n ≤ max_ledger → WellFormed L → read_ledger (ledger_bytes n L) ≡ some L
unfolding read_ledger
read-ledger-bytes n L h d f = rw (ledger-length n L h, le-leb 4 n (omega arith), le-leb n max_ledger d, read-inside n L h d f)

-- Theorem 8: the bytes of well-formed steps that fit are read as those steps.
pub read-ledger : {l : List ℕ} {L : List Step} → Holds l L → read_ledger l ≡ some L
read-ledger {l} {L} h = ap read_ledger h.bytes ∙ read-ledger-bytes (length l) L h.fits h.small h.formed

-- A ledger from its parts.
whole-ledger : (l : List ℕ) (L : List Step) (n : ℕ) (m x r : List ℕ) → length l ≤ max_ledger → l ≡ little_endian 4 n ++ m → (m ≡ x ++ r) × (length x ≡ n)
    → r ≡ replicate (length r) 0 → x ≡ steps_bytes L → WellFormed L → Holds l L
unfolding ledger_bytes
whole-ledger l L n m x r d e p z s f =
    let a = ap length e in
    let b = ap length p.0 in
    let c = length-append x r in
    let g = ap length s in
    let i : length r ≡ length l - size L = omega arith in
    let j : n ≡ length (steps_bytes L) = omega arith in
    let k : m ≡ steps_bytes L ++ replicate (length l - size L) 0 = p.0 ∙ ap₂ (λ (y t : List ℕ). y ++ t) s (z ∙ ap (λ (w : ℕ). replicate w 0) i) in
    record { bytes = e ∙ ap₂ (λ (w : ℕ) (t : List ℕ). little_endian 4 w ++ t) j k; fits = omega arith; small = d; formed = f }

wholly-post : {A : Type 0} {P : A → List ℕ → Type 0} {g : Got A} {a : A} → Post P g → wholly g ≡ some a → P a []
wholly-post {a} fails e = absurd (none-ne-some a e)
wholly-post {P} (reads {a} {m = []} p) e = subst (λ x. P x []) (some-injective a _ e) p
wholly-post {a} (reads {m = b ∷ m} p) e = absurd (none-ne-some a e)

-- Theorem 8: bytes that are read as steps are the bytes of those steps, which are well formed and fit.
pub ledger-read : (l : List ℕ) (L : List Step) → AllBelow 256 l → read_ledger l ≡ some L → Holds l L
unfolding read_ledger
ledger-read l L h e = wholly-post {P = λ L m. Holds l L} (
    post-only _ (leb 4 (length l) && leb (length l) max_ledger) (λ t.
    post-then (little-read 4 l h) (λ n m i.
    post-then (part-read n m) (λ x r p.
    post-only _ (all_zero r) (λ z.
    post-map (steps-read (length x) 0 x (below-append 256 x r (rw p.0 at (below_rest (little_endian 4 n) m i h))).0) (λ L q s.
    whole-ledger l L n m x r (leb-true (length l) max_ledger ((and-eq-true_iff (leb 4 (length l)) (leb (length l) max_ledger)).0 t).1) i p (zeros-read r z) s.0 s.2)))))) e

-- The part of a step ---------------------------------------------------------------------------

-- Where the operands of step i begin among the records: behind the records before it, and its length, kind and references.
unfoldable pub operands_place : List Step → ℕ → ℕ
operands_place [] i = 0
operands_place (s ∷ L) zero = 6 + 4 * length s.references
operands_place (s ∷ L) (suc i) = length (record_bytes s) + operands_place L i

references-length : (is : List ℕ) → length (references_bytes is) ≡ 4 * length is
unfolding references_bytes
references-length [] = refl
references-length (i ∷ is) = omega (arith, references-length is)

-- The operands of a record stand behind its length, kind and references.
at_front : (s : Step) (m : List ℕ) → take (length (operand_bytes s.judgement)) (drop (6 + 4 * length s.references) (record_bytes s ++ m)) ≡ operand_bytes s.judgement
unfolding record_bytes body_bytes
at_front s m =
    let head = little_endian 4 (length (body_bytes s)) ++ (little_endian 2 s.kind ++ references_bytes s.references) in
    let n : length head ≡ 6 + 4 * length s.references = omega (arith, references-length s.references) in
    let e : record_bytes s ++ m ≡ head ++ (operand_bytes s.judgement ++ m) = simp append_assoc in
    rw (e, drop_at head (operand_bytes s.judgement ++ m) (6 + 4 * length s.references) n, take-append_seam (operand_bytes s.judgement) m)

-- The operands stand at their place, whatever follows.
operands-among : (L : List Step) (m : List ℕ) (i : ℕ) → i < length L
    → get_or (map (λ (s : Step). operand_bytes s.judgement) L) i [] ≡ take (length (operand_bytes (judgement_at L i))) (drop (operands_place L i) (steps_bytes L ++ m))
unfolding operands_place steps_bytes
operands-among [] m i h = absurd (omega arith)
operands-among (s ∷ L) m zero h = rw (append_assoc, at_front s (steps_bytes L ++ m))
operands-among (s ∷ L) m (suc i) h = rw (append_assoc, drop-append-add (record_bytes s) (steps_bytes L ++ m) (operands_place L i)) (operands-among L m i (omega arith))

-- Theorem 8: the bytes of a step's judgement are the part of the ledger that its record says.
pub operands-part : (l : List ℕ) (L : List Step) → Holds l L → (i : ℕ) → i < length L
    → operands_at l i ≡ take (length (operand_bytes (judgement_at L i))) (drop (4 + operands_place L i) l)
unfolding operands_at ledger_bytes
operands-part l L h i b =
    let zeros = replicate {A = ℕ} (length l - size L) 0 in
    ap (λ (o : Option (List Step)). operands_of o i) (read-ledger h) ∙ operands-among L zeros i b ∙ ap (take (length (operand_bytes (judgement_at L i))))
    (sym (ap (drop (4 + operands_place L i)) h.bytes ∙ drop-append-add (little_endian 4 (length (steps_bytes L))) (steps_bytes L ++ zeros) (operands_place L i)))

-- There is none past the end, or where the ledger is ill formed.
pub operands-past : (l : List ℕ) (L : List Step) → read_ledger l ≡ some L → (i : ℕ) → length L ≤ i → operands_at l i ≡ []
unfolding operands_at
operands-past l L e i b = rw e (get_or-eq_default (map (λ (s : Step). operand_bytes s.judgement) L) [] (simp length-map b))

pub operands-ill-formed : (l : List ℕ) (i : ℕ) → read_ledger l ≡ none → operands_at l i ≡ []
unfolding operands_at
operands-ill-formed l i e = rw e
