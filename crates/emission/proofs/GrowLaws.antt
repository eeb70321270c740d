-- Ledgers with a step more, and with fewer.
use Prim.Native.Nat.{ℕ, zero, suc, ◌+◌, ◌-◌, ◌*◌, ◌≤◌, ◌<◌}
use native.Mathlib.Omega.{arith}
use native.Mathlib.Nat.{zero-add, suc-add}
use native.Mathlib.Numerals.{add-one}
use mathlib.Core.Path.{◌≡◌, refl, sym, ap, ap₂, ◌∙◌, subst}
use Rattle.std.specs.Prelude.{Some, None}
use mathlib.Core.List.{List, [], ◌∷◌, ◌++◌, append_assoc, append-nil}
use lib.ListN.{length, get_or, take, drop, replicate, length-append, length-replicate}
use lib.Seq.{sets, take-suc, drop_at, length-take-le}
use Rattle.calculus.specs.Judgement.{Step}
use Rattle.calculus.specs.Record.{little_endian, references_bytes, body_bytes, record_bytes, steps_bytes, size, ledger_bytes, Holds}
use Rattle.calculus.proofs.Records.{steps-append, ledger-append}
use Rattle.records.proofs.NumberLaws.{sets-append, sets_behind, drop-zeros}
use Rattle.ledger.specs.Ledger.{steps_of, Led}
use Rattle.ledger.proofs.LedgerLaws.{references-length}
use Rattle.emission.specs.Emitting.{StandsFor, raw_record, Appends}

-- One reference more.
references-snoc : (is : List ℕ) (i : ℕ) → references_bytes (is ++ i ∷ []) ≡ references_bytes is ++ little_endian 4 i
unfolding references_bytes
references-snoc [] i = refl
references-snoc (k ∷ is) i = ap (λ (m : List ℕ). little_endian 4 k ++ m) (references-snoc is i) ∙ sym (append_assoc (little_endian 4 k) (references_bytes is) (little_endian 4 i))

pub references-more : (d : List ℕ) (at : ℕ) (is : List ℕ) (j : ℕ) → j < length is
    → sets (sets d at (references_bytes (take j is))) (at + 4 * j) (little_endian 4 (get_or is j 0)) ≡ sets d at (references_bytes (take (j + 1) is))
references-more d at is j h =
    let e : 4 * j ≡ length (references_bytes (take j is)) = omega (arith, references-length (take j is), length-take-le j is (omega arith)) in
    ap (λ (n : ℕ). sets (sets d at (references_bytes (take j is))) (at + n) (little_endian 4 (get_or is j 0))) e
    ∙ sets-append (references_bytes (take j is)) (little_endian 4 (get_or is j 0)) d at
    ∙ ap (sets d at) (sym (references-snoc (take j is) (get_or is j 0)) ∙ ap references_bytes (sym (take-suc is j 0 h) ∙ ap (λ (n : ℕ). take n is) (sym (add-one j))))

-- Length, kind, references and operands, one after another, are a record.
record-stores : (d : List ℕ) (at n kind : ℕ) (is x : List ℕ) → length is ≡ n
    → sets (sets (sets (sets d at (little_endian 4 (2 + 4 * n + length x))) (at + 4) (little_endian 2 kind)) (at + 6) (references_bytes is)) (at + 6 + 4 * n) x ≡ sets d at (raw_record kind is x)
unfolding raw_record
record-stores d at n kind is x e =
    let r = references_bytes is in
    let f : length (little_endian 2 kind ++ (r ++ x)) ≡ 2 + 4 * n + length x = simp length-append (omega (arith, references-length is)) in
    let g : at + 6 + 4 * n ≡ at + 6 + length r = omega (arith, references-length is) in
    ap (λ (k : ℕ). sets (sets (sets (sets d at (little_endian 4 (2 + 4 * n + length x))) (at + 4) (little_endian 2 kind)) (at + 6) r) k x) g
    ∙ sets-append r x (sets (sets d at (little_endian 4 (2 + 4 * n + length x))) (at + 4) (little_endian 2 kind)) (at + 6)
    ∙ six d at (little_endian 4 (2 + 4 * n + length x)) (little_endian 2 kind) (r ++ x) refl refl
    ∙ ap (λ (k : ℕ). sets d at (little_endian 4 k ++ (little_endian 2 kind ++ (r ++ x)))) (sym f)
  where
    six : (d : List ℕ) (at : ℕ) (a b c : List ℕ) → length a ≡ 4 → length b ≡ 2 → sets (sets (sets d at a) (at + 4) b) (at + 6) c ≡ sets d at (a ++ (b ++ c))
    six d at a b c p q =
        let h : at + 6 ≡ at + 4 + length b = omega arith in
        let i : at + 4 ≡ at + length a = omega arith in
        ap (λ (k : ℕ). sets (sets (sets d at a) (at + 4) b) k c) h ∙ sets-append b c (sets d at a) (at + 4) ∙ ap (λ (k : ℕ). sets (sets d at a) k (b ++ c)) i ∙ sets-append a (b ++ c) d at

pub four-stores : (d d₁ d₂ d₃ d₄ : List ℕ) (at n kind : ℕ) (is x : List ℕ) → length is ≡ n → d₁ ≡ sets d at (little_endian 4 (2 + 4 * n + length x)) → d₂ ≡ sets d₁ (at + 4) (little_endian 2 kind)
    → d₃ ≡ sets d₂ (at + 6) (references_bytes is) → d₄ ≡ sets d₃ (at + 6 + 4 * n) x → d₄ ≡ sets d at (raw_record kind is x)
four-stores d d₁ d₂ d₃ d₄ at n kind is x e p q r s =
    s ∙ ap (λ (t : List ℕ). sets t (at + 6 + 4 * n) x) (r ∙ ap (λ (t : List ℕ). sets t (at + 6) (references_bytes is)) (q ∙ ap (λ (t : List ℕ). sets t (at + 4) (little_endian 2 kind)) p))
    ∙ record-stores d at n kind is x e

-- The bytes of a record that stand for a step are its record.
pub stands-record : {s : Step} {kind : ℕ} {is x : List ℕ} → StandsFor s kind is x → raw_record kind is x ≡ record_bytes s
unfolding raw_record record_bytes body_bytes
stands-record {s} h = rw (← h.kinds, ← h.refers, ← h.judges)

pub raw-length : (kind : ℕ) (is x : List ℕ) → length (raw_record kind is x) ≡ 6 + 4 * length is + length x
unfolding raw_record
raw-length kind is x = simp length-append (omega (arith, references-length is))

-- How much room a step more takes.
pub size-more : (L : List Step) (s : Step) → size (L ++ s ∷ []) ≡ size L + length (record_bytes s)
unfolding steps_bytes
size-more L s = omega (arith, ap length (steps-append L (s ∷ [])), length-append (steps_bytes L) (record_bytes s ++ []), ap length (append-nil (record_bytes s)))

same : (n a b c : ℕ) → a + b ≡ c → n - a - b ≡ n - c
same n a b c e = omega arith

joined : (a b n : ℕ) → a ≤ b → b ≤ n → b - a + (n - b) ≡ n - a
joined a b n p q = omega arith

zeros-append : (n m : ℕ) → replicate {A = ℕ} n 0 ++ replicate m 0 ≡ replicate (n + m) 0
zeros-append zero m = ap (λ (k : ℕ). replicate {A = ℕ} k 0) (sym (zero-add m))
zeros-append (suc n) m = ap (λ (t : List ℕ). 0 ∷ t) (zeros-append n m) ∙ ap (λ (k : ℕ). replicate {A = ℕ} k 0) (sym (suc-add n m))

-- Stores over what stands in front.
over : (a t b : List ℕ) → length a ≡ length b → sets (a ++ t) 0 b ≡ b ++ t
over a t b e = sets_behind [] (a ++ t) b 0 refl (omega (arith, length-append a t)) ∙ ap (λ (m : List ℕ). b ++ m) (drop_at a t (length b) e)

-- A record stored behind the others, and the length in front, make the ledger with a step more.
pub append-bytes : {l : List ℕ} {L : List Step} → Holds l L → (s : Step) → size (L ++ s ∷ []) ≤ length l → (used : ℕ) → used + 4 ≡ size (L ++ s ∷ [])
    → sets (sets l (size L) (record_bytes s)) 0 (little_endian 4 used) ≡ ledger_bytes (length l) (L ++ s ∷ [])
unfolding ledger_bytes
append-bytes {l} {L} h s f used e =
    let x = steps_bytes L in
    let r = record_bytes s in
    let z = replicate {A = ℕ} (length l - size L) 0 in
    let m = size-more L s in
    let la = length-append x r in
    let first : sets l (size L) r ≡ little_endian 4 (length x) ++ (x ++ (r ++ replicate (length l - (4 + length (x ++ r))) 0)) =
    ap (λ (d : List ℕ). sets d (size L) r) (h.bytes ∙ sym (append_assoc (little_endian 4 (length x)) x z))
    ∙ sets_behind (little_endian 4 (length x) ++ x) z r (size L) (omega (arith, length-append (little_endian 4 (length x)) x)) (omega (arith, length-replicate {A = ℕ} (length l - size L) 0))
    ∙ append_assoc (little_endian 4 (length x)) x (r ++ drop (length r) z)
    ∙ ap (λ (t : List ℕ). little_endian 4 (length x) ++ (x ++ (r ++ t))) (drop-zeros (length r) (length l - size L) ∙ ap (λ (k : ℕ). replicate {A = ℕ} k 0) (same (length l) (size L) (length r) (4 + length (x ++ r)) (omega arith))) in
    let tail = x ++ (r ++ replicate (length l - (4 + length (x ++ r))) 0) in
    let u : used ≡ length (x ++ r) = omega arith in
    ap (λ (d : List ℕ). sets d 0 (little_endian 4 used)) first
    ∙ over (little_endian 4 (length x)) tail (little_endian 4 used) refl
    ∙ ap (λ (k : ℕ). little_endian 4 k ++ tail) u
    ∙ sym (ledger-append (length l) L s)

-- Zeros over the records behind the first, and their length in front, make the ledger with those only.
pub undo-bytes : {l : List ℕ} (L T : List Step) → Holds l (L ++ T) → (used : ℕ) → used ≡ length (steps_bytes L)
    → sets (sets l (size L) (replicate (size (L ++ T) - size L) 0)) 0 (little_endian 4 used) ≡ ledger_bytes (length l) L
unfolding ledger_bytes
undo-bytes {l} L T h used e =
    let x = steps_bytes L in
    let y = steps_bytes T in
    let z = replicate {A = ℕ} (length l - size (L ++ T)) 0 in
    let la : length (steps_bytes (L ++ T)) ≡ length x + length y = ap length (steps-append L T) ∙ length-append x y in
    let cleared = replicate {A = ℕ} (size (L ++ T) - size L) 0 in
    let lc : length cleared ≡ length y = length-replicate {A = ℕ} (size (L ++ T) - size L) 0 ∙ omega arith in
    let front = little_endian 4 (length (steps_bytes (L ++ T))) in
    let whole : l ≡ (front ++ x) ++ (y ++ z) = h.bytes ∙ ap (λ (m : List ℕ). front ++ (m ++ z)) (steps-append L T) ∙ ap (λ (m : List ℕ). front ++ m) (append_assoc x y z) ∙ sym (append_assoc front x (y ++ z)) in
    let first : sets l (size L) cleared ≡ front ++ (x ++ replicate (length l - size L) 0) =
    ap (λ (d : List ℕ). sets d (size L) cleared) whole
    ∙ sets_behind (front ++ x) (y ++ z) cleared (size L) (omega (arith, length-append front x)) (omega (arith, length-append y z))
    ∙ append_assoc front x (cleared ++ drop (length cleared) (y ++ z))
    ∙ ap (λ (t : List ℕ). front ++ (x ++ (cleared ++ t))) (drop_at y z (length cleared) (sym lc))
    ∙ ap (λ (t : List ℕ). front ++ (x ++ t)) (zeros-append (size (L ++ T) - size L) (length l - size (L ++ T)) ∙ ap (λ (k : ℕ). replicate {A = ℕ} k 0) (joined (size L) (size (L ++ T)) (length l) (omega arith) h.fits)) in
    ap (λ (d : List ℕ). sets d 0 (little_endian 4 used)) first
    ∙ over front (x ++ replicate (length l - size L) 0) (little_endian 4 used) refl
    ∙ ap (λ (k : ℕ). little_endian 4 k ++ (x ++ replicate (length l - size L) 0)) e

-- A step more, where there is room.
pub appends : {l : List ℕ} → Led l → (kind n at used : ℕ) (is x d l' : List ℕ) → length is ≡ n → at ≡ size (steps_of l) → size (steps_of l) + (6 + 4 * n + length x) ≤ length l
    → used + 4 ≡ size (steps_of l) + (6 + 4 * n + length x) → d ≡ sets l at (raw_record kind is x) → l' ≡ sets d 0 (little_endian 4 used)
    → (s : Step) → StandsFor s kind is x → Appends l s (Some at) l'
appends {l} h kind n at used is x d l' e g f u p q s t =
    let r = stands-record t in
    let m = size-more (steps_of l) s in
    let k : length (record_bytes s) ≡ 6 + 4 * n + length x = sym (ap length r) ∙ raw-length kind is x ∙ ap (λ (j : ℕ). 6 + 4 * j + length x) e in
    (omega arith, q ∙ ap (λ (b : List ℕ). sets b 0 (little_endian 4 used)) (p ∙ ap₂ (sets l) g r) ∙ append-bytes h s (omega arith) used (omega arith))

-- Where there is none, nothing changes.
pub keeps-all : (l : List ℕ) (kind n : ℕ) (is x : List ℕ) → length is ≡ n → length l < size (steps_of l) + (6 + 4 * n + length x)
    → (s : Step) → StandsFor s kind is x → Appends l s None l
keeps-all l kind n is x e f s t =
    let k : length (record_bytes s) ≡ 6 + 4 * n + length x = sym (ap length (stands-record t)) ∙ raw-length kind is x ∙ ap (λ (j : ℕ). 6 + 4 * j + length x) e in
    (omega (arith, size-more (steps_of l) s), refl)

pub undone : {l : List ℕ} → Led l → (end used to : ℕ) (d l' : List ℕ) → used + 4 ≡ end → to ≡ size (steps_of l) → d ≡ sets l end (replicate (to - end) 0) → l' ≡ sets d 0 (little_endian 4 used)
    → (L T : List Step) → steps_of l ≡ L ++ T → end ≡ size L → l' ≡ ledger_bytes (length l) L
undone {l} h end used to d l' u v p q L T e f =
    let i : Holds l (L ++ T) = subst (Holds l) e h in
    let w : to ≡ size (L ++ T) = v ∙ ap size e in
    q
    ∙ ap (λ (b : List ℕ). sets b 0 (little_endian 4 used)) (p ∙ ap₂ (λ (a b : ℕ). sets l a (replicate (b - a) 0)) f w)
    ∙ undo-bytes L T i used (omega arith)
