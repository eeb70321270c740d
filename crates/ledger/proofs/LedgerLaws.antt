-- What stands at the places of a ledger that holds steps.
use Prim.Native.Nat.{ℕ, zero, suc, ◌+◌, ◌-◌, ◌*◌, ◌≤◌, ◌<◌}
use native.Mathlib.Omega.{arith}
use native.Mathlib.Nat.{add-zero, zero-add}
use mathlib.Core.Path.{◌≡◌, refl, sym, ap, ap₂, ◌∙◌, subst}
use mathlib.Core.List.{List, [], ◌∷◌, ◌++◌, append_assoc, append-nil}
use lib.ListN.{length, get_or, take, drop, replicate, length-append, take-append-drop}
use lib.Seq.{drop-cons, drop-drop, drop_at, drop-append-add, drop-append_seam, take_at, take_all, take-suc}
use Rattle.calculus.specs.Judgement.{Step}
use Rattle.calculus.specs.Table.{predicate, entry_of}
use Rattle.calculus.specs.Rules.{step_at, judgement_at, AllBelow}
use Rattle.calculus.specs.Record.{little_endian, operand_bytes, references_bytes, body_bytes, record_bytes, steps_bytes, size, ledger_bytes, FormedStep, FormedFrom, Holds}
use Rattle.calculus.proofs.Tables.{listed-range}
use Rattle.calculus.proofs.Records.{record-length, steps-append, read-ledger}
use Rattle.kinds.specs.Kinds.{number_of, entry_as}
use Rattle.records.specs.Places.{little_at}
use Rattle.std.specs.Prelude.{Some}
use Rattle.records.proofs.NumberLaws.{little-drop, little-front}
use Rattle.ledger.specs.Ledger.{steps_in, steps_of, Led, place_of}

pub references-length : (is : List ℕ) → length (references_bytes is) ≡ 4 * length is
unfolding references_bytes
references-length [] = refl
references-length (i ∷ is) = omega (arith, references-length is)

-- A ledger that holds steps is read as them.
pub holds-steps : {l : List ℕ} {L : List Step} → Holds l L → steps_of l ≡ L
unfolding steps_of
holds-steps h = ap steps_in (read-ledger h)

pub holds-led : {l : List ℕ} {L : List Step} → Holds l L → Led l
holds-led {l} h = subst (Holds l) (sym (holds-steps h)) h

-- The length in front.
pub used-law : {l : List ℕ} {L : List Step} → Holds l L → 4 + little_at 4 l 0 ≡ size L
unfolding ledger_bytes
used-law {l} {L} h =
    ap (λ (m : List ℕ). 4 + little_at 4 m 0) h.bytes
    ∙ ap (λ (n : ℕ). 4 + n) (little-front 4 (length (steps_bytes L)) (steps_bytes L ++ replicate (length l - size L) 0) (omega (arith, h.fits, h.small)))

-- The steps before number i, step i, and those behind it.
split : (L : List Step) (i : ℕ) → i < length L → steps_bytes L ≡ steps_bytes (take i L) ++ (record_bytes (step_at L i) ++ steps_bytes (drop (suc i) L))
unfolding steps_bytes
split L i b =
    ap steps_bytes (sym (take-append-drop i L))
    ∙ steps-append (take i L) (drop i L)
    ∙ ap (λ (M : List Step). steps_bytes (take i L) ++ steps_bytes M) (drop-cons L i _ b)

-- The next place.
pub place-next : (L : List Step) (i : ℕ) → i < length L → place_of L (suc i) ≡ place_of L i + (4 + length (body_bytes (step_at L i)))
unfolding steps_bytes
place-next L i b =
    let e : steps_bytes (take (suc i) L) ≡ steps_bytes (take i L) ++ (record_bytes (step_at L i) ++ []) = ap steps_bytes (take-suc L i _ b) ∙ steps-append (take i L) (step_at L i ∷ []) in
    omega (arith, simp (length-append, append-nil) at (ap length e), record-length (step_at L i))

-- The records end where the last one does.
pub place-last : (L : List Step) → place_of L (length L) ≡ size L
place-last L = ap (λ (M : List Step). 4 + length (steps_bytes M)) (take_all (length L) L (omega arith))

pub place_end : (L : List Step) (i : ℕ) → i < length L → place_of L (suc i) ≤ size L
place_end L i b =
    let e = simp length-append at (ap length (split L i b)) in
    omega (arith, place-next L i b, e, record-length (step_at L i))

-- What stands from the place of step i on: its record, and more.
behind : List ℕ → List Step → ℕ → List ℕ
behind l L i = steps_bytes (drop (suc i) L) ++ replicate (length l - size L) 0

append-three : (a b c d : List ℕ) → (a ++ (b ++ c)) ++ d ≡ a ++ (b ++ (c ++ d))
append-three a b c d = append_assoc a (b ++ c) d ∙ ap (λ (m : List ℕ). a ++ m) (append_assoc b c d)

at_place : {l : List ℕ} {L : List Step} → Holds l L → (i : ℕ) → i < length L → drop (place_of L i) l ≡ record_bytes (step_at L i) ++ behind l L i
unfolding ledger_bytes behind
at_place {l} {L} h i b =
    let zeros = replicate {A = ℕ} (length l - size L) 0 in
    let e : l ≡ little_endian 4 (length (steps_bytes L)) ++ (steps_bytes (take i L) ++ (record_bytes (step_at L i) ++ behind l L i)) =
    h.bytes ∙ ap (λ (m : List ℕ). little_endian 4 (length (steps_bytes L)) ++ m)
    (ap (λ (m : List ℕ). m ++ zeros) (split L i b) ∙ append-three (steps_bytes (take i L)) (record_bytes (step_at L i)) (steps_bytes (drop (suc i) L)) zeros) in
    ap (drop (place_of L i)) e
    ∙ drop-append-add (little_endian 4 (length (steps_bytes L))) _ (length (steps_bytes (take i L)))
    ∙ drop-append_seam (steps_bytes (take i L)) _

-- Behind its length stand kind, references and operands.
at_body : {l : List ℕ} {L : List Step} → Holds l L → (i : ℕ) → i < length L
    → drop (place_of L i + 4) l ≡ little_endian 2 (step_at L i).kind ++ (references_bytes (step_at L i).references ++ (operand_bytes (judgement_at L i) ++ behind l L i))
unfolding record_bytes body_bytes
at_body {l} {L} h i b =
    let s = step_at L i in
    sym (drop-drop 4 (place_of L i) l)
    ∙ ap (drop 4) (at_place h i b)
    ∙ ap (λ (m : List ℕ). little_endian 2 s.kind ++ m) (append_assoc (references_bytes s.references) (operand_bytes s.judgement) (behind l L i))

at-references : {l : List ℕ} {L : List Step} → Holds l L → (i : ℕ) → i < length L
    → drop (place_of L i + 6) l ≡ references_bytes (step_at L i).references ++ (operand_bytes (judgement_at L i) ++ behind l L i)
at-references {l} {L} h i b =
    let e : place_of L i + 6 ≡ place_of L i + 4 + 2 = omega arith in
    ap (λ (n : ℕ). drop n l) e ∙ sym (drop-drop 2 (place_of L i + 4) l) ∙ ap (drop 2) (at_body h i b)

-- Step i of a well-formed ledger is well formed.
pub formed-at : (k : ℕ) (L : List Step) (i : ℕ) → FormedFrom k L → i < length L → FormedStep (k + i) (step_at L i)
formed-at k [] i f b = absurd (omega arith)
formed-at k (s ∷ L) zero f b = subst (λ (n : ℕ). FormedStep n s) (sym (add-zero k)) f.0
formed-at k (s ∷ L) (suc i) f b = let e : suc k + i ≡ k + suc i = omega arith in subst (λ (n : ℕ). FormedStep n (step_at L i)) e (formed-at (suc k) L i f.1 (omega arith))

pub formed-at-0 : {l : List ℕ} {L : List Step} → Holds l L → (i : ℕ) → i < length L → FormedStep i (step_at L i)
formed-at-0 {L} h i b = subst (λ (n : ℕ). FormedStep n (step_at L i)) (zero-add i) (formed-at 0 L i h.formed b)

-- Reference j stands behind those before it.
drop-references : (is m : List ℕ) (j : ℕ) → j < length is → drop (4 * j) (references_bytes is ++ m) ≡ little_endian 4 (get_or is j 0) ++ (references_bytes (drop (suc j) is) ++ m)
unfolding references_bytes
drop-references [] m j q = absurd (omega arith)
drop-references (i ∷ is) m zero q = append_assoc (little_endian 4 i) (references_bytes is) m
drop-references (i ∷ is) m (suc j) q =
    let e : 4 * suc j ≡ 4 + 4 * j = omega arith in
    ap₂ drop e (append_assoc (little_endian 4 i) (references_bytes is) m) ∙ drop-append-add (little_endian 4 i) (references_bytes is ++ m) (4 * j) ∙ drop-references is m j (omega arith)

pub below_one : (n : ℕ) (is : List ℕ) (j : ℕ) → AllBelow n is → j < length is → get_or is j 0 < n
below_one n [] j h q = absurd (omega arith)
below_one n (i ∷ is) zero h q = h.0
below_one n (i ∷ is) (suc j) h q = below_one n is j h.1 (omega arith)

-- There are no more steps than bytes.
pub many : (L : List Step) (i : ℕ) → i < length L → i ≤ place_of L i
many L zero b = omega arith
many L (suc i) b = omega (arith, many L i (omega arith), place-next L i (omega arith))

-- A record takes its bytes.
body-length : (s : Step) → length (body_bytes s) ≡ 2 + 4 * length s.references + length (operand_bytes s.judgement)
unfolding body_bytes
body-length s = simp length-append (omega (arith, references-length s.references))

-- The fields of a record: the length of what follows, the kind, a reference, the operands.
pub place-length : {l : List ℕ} {L : List Step} → Holds l L → (i : ℕ) → i < length L → place_of L i + 4 + little_at 4 l (place_of L i) ≡ place_of L (suc i)
unfolding record_bytes
place-length {l} {L} h i b =
    let s = step_at L i in
    let e : little_at 4 l (place_of L i) ≡ length (body_bytes s) =
    little-drop 4 l (place_of L i) ∙ ap (λ (m : List ℕ). little_at 4 m 0) (at_place h i b)
    ∙ little-front 4 (length (body_bytes s)) (body_bytes s ++ behind l L i) (omega (arith, place-next L i b, place_end L i b, h.fits, h.small)) in
    omega (arith, e, place-next L i b)

pub place-kind : {l : List ℕ} {L : List Step} → Holds l L → (i : ℕ) → i < length L → little_at 2 l (place_of L i + 4) ≡ (step_at L i).kind
place-kind {l} {L} h i b =
    let s = step_at L i in
    little-drop 2 l (place_of L i + 4) ∙ ap (λ (m : List ℕ). little_at 2 m 0) (at_body h i b)
    ∙ little-front 2 s.kind (references_bytes s.references ++ (operand_bytes s.judgement ++ behind l L i)) (omega (arith, (listed-range (formed-at-0 h i b).listed).1))

pub place-reference : {l : List ℕ} {L : List Step} → Holds l L → (i : ℕ) → i < length L → (j : ℕ) → j < length (step_at L i).references
    → little_at 4 l (place_of L i + 6 + 4 * j) ≡ get_or (step_at L i).references j 0
place-reference {l} {L} h i b j q =
    let is = (step_at L i).references in
    little-drop 4 l (place_of L i + 6 + 4 * j)
    ∙ ap (λ (m : List ℕ). little_at 4 m 0) (sym (drop-drop (4 * j) (place_of L i + 6) l) ∙ ap (drop (4 * j)) (at-references h i b) ∙ drop-references is (operand_bytes (judgement_at L i) ++ behind l L i) j q)
    ∙ little-front 4 (get_or is j 0) (references_bytes (drop (suc j) is) ++ (operand_bytes (judgement_at L i) ++ behind l L i)) (omega (arith, below_one i is j (formed-at-0 h i b).earlier q, many L i b, place-next L i b, place_end L i b, h.fits, h.small))

pub place-operands : {l : List ℕ} {L : List Step} → Holds l L → (i : ℕ) → i < length L
    → take (place_of L (suc i) - (place_of L i + 6 + 4 * length (step_at L i).references)) (drop (place_of L i + 6 + 4 * length (step_at L i).references) l) ≡ operand_bytes (judgement_at L i)
place-operands {l} {L} h i b =
    let s = step_at L i in
    let n = 4 * length s.references in
    ap (take (place_of L (suc i) - (place_of L i + 6 + n))) (sym (drop-drop n (place_of L i + 6) l) ∙ ap (drop n) (at-references h i b) ∙ drop_at (references_bytes s.references) _ n (references-length s.references))
    ∙ take_at (operand_bytes s.judgement) (behind l L i) (place_of L (suc i) - (place_of L i + 6 + n)) (omega (arith, place-next L i b, body-length s))

-- The operands lie inside the record, and the record inside the ledger.
pub place_inside : {l : List ℕ} {L : List Step} → Holds l L → (i : ℕ) → i < length L
    → (place_of L i + 6 + 4 * length (step_at L i).references ≤ place_of L (suc i)) × (place_of L (suc i) ≤ length l)
place_inside {l} {L} h i b = (omega (arith, place-next L i b, body-length (step_at L i)), omega (arith, place_end L i b, h.fits))

-- What the table answers for its kind.
pub place-entry : {l : List ℕ} {L : List Step} → Holds l L → (i : ℕ) → i < length L
    → entry_as (entry_of (step_at L i).kind) ≡ Some (record { references = length (step_at L i).references; predicate = number_of (predicate (judgement_at L i)) })
place-entry {l} {L} h i b = ap entry_as (formed-at-0 h i b).listed.listed
