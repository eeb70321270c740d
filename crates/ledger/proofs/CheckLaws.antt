-- Counting the records of a list one at a time, and what a checked ledger holds.
use mathlib.Core.Path.{◌≡◌, refl, sym, ap, ◌∙◌}
use mathlib.Core.Bool.{Bool, true, false}
use mathlib.Core.Option.{Option, none, some}
use mathlib.Core.List.{List, [], ◌∷◌}
use Prim.Native.Nat.{ℕ, suc, ◌+◌, ◌-◌, ◌≤◌, ◌<◌}
use native.Mathlib.Omega.{arith}
use native.Mathlib.Numerals.{add-one}
use borrow.Author.Tests.{le-leb, lt-leb}
use lib.ListN.{length, take, drop, length-drop, drop_of_length-le}
use lib.Seq.{drop-drop}
use Rattle.formula.specs.Bytes.{Got, nothing, got, then, wholly}
use Rattle.formula.specs.Answers.{pick}
use Rattle.calculus.specs.Judgement.{Step}
use Rattle.calculus.specs.Rules.{AllBelow}
use Rattle.calculus.specs.Record.{max_ledger}
use Rattle.calculus.specs.Parse.{only, take_part, read_body, used, read_record, read_steps, all_zero, read_ledger}
use Rattle.calculus.proofs.Records.{steps-turn, ledger-read}
use Rattle.records.specs.Places.{little_at}
use Rattle.records.specs.Bodies.{is_some, readable}
use Rattle.records.proofs.PlaceLaws.{little-at, little-short}
use Rattle.refusals.specs.declared.Refusal.TheVariants.{IllFormedLedger}
use Rattle.std.specs.Prelude.{Result, Ok, Err}
use Rattle.refusals.specs.declared.Refusal.{Refusal}
use Rattle.ledger.specs.Ledger.{steps_in, steps_of, Led, place_of, Points}
use Rattle.ledger.specs.Checks.{step_count, records_in}
use Rattle.ledger.proofs.LedgerLaws.{holds-led}

-- Parts at places ---------------------------------------------------------------------------

-- A part as the code cuts it, from one place to another.
abbrev cut : List ℕ → ℕ → ℕ → List ℕ
cut l from to = take (to - from) (drop from l)

part_at : (n : ℕ) (l : List ℕ) (at : ℕ) → at + n ≤ length l → take_part n (drop at l) ≡ got (cut l at (at + n)) (drop (at + n) l)
unfolding take_part
part_at n l at h =
    let e : n ≡ at + n - at = omega arith in
    rw (le-leb n (length (drop at l)) (omega (arith, length-drop at l)), drop-drop n at l) (ap (λ (k : ℕ). got (take k (drop at l)) (drop (at + n) l)) e)

part-long : (n : ℕ) (l : List ℕ) (at : ℕ) → at ≤ length l → length l - at < n → take_part n (drop at l) ≡ nothing
unfolding take_part
part-long n l at b h = rw (lt-leb n (length (drop at l)) (omega (arith, length-drop at l)))

-- Records ------------------------------------------------------------------------------------

-- How many steps there are, with i before them.
abbrev count_from : ℕ → Option (List Step) → Result ℕ Refusal
count_from i none = Err IllFormedLedger
count_from i (some L) = Ok (i + length L)

-- The same for the records from a place to the end of a list.
pub left : ℕ → List ℕ → ℕ → Result ℕ Refusal
left i l at = count_from i (wholly (read_steps (length (drop at l)) i (drop at l)))

pub left-all : (l : List ℕ) → left 0 l 0 ≡ records_in l
unfolding left records_in
left-all l = go (wholly (read_steps (length l) 0 l))
  where
    go : (o : Option (List Step)) → count_from 0 o ≡ step_count o
    go none = refl
    go (some L) = let e : 0 + length L ≡ length L = omega arith in ap Ok e

pub left-none : (i : ℕ) (l : List ℕ) (at : ℕ) → length l ≤ at → left i l at ≡ Ok i
unfolding left read_steps
left-none i l at h = let e : i + 0 ≡ i = omega arith in ap (λ (m : List ℕ). count_from i (wholly (read_steps (length m) i m))) (drop_of_length-le l {i = at} h) ∙ ap Ok e

-- The step of a part.
abbrev body_of : ℕ → Got (List ℕ) → Got Step
body_of i g = then g (λ part. used (wholly (read_body i part)))

-- What is left, by the record in front of it.
behind : ℕ → Got Step → Result ℕ Refusal
behind i g = count_from i (wholly (then g (λ s m. then (read_steps (length m) (suc i) m) (λ L. got (s ∷ L)))))

left-turn : (i : ℕ) (l : List ℕ) (at : ℕ) → at < length l → left i l at ≡ behind i (read_record i (drop at l))
unfolding left behind
left-turn i l at h = ap (λ (g : Got (List Step)). count_from i (wholly g)) (steps-turn i (drop at l) (omega (arith, length-drop at l)))

pub left-short : (i : ℕ) (l : List ℕ) (at : ℕ) → at < length l → length l - at < 4 → left i l at ≡ Err IllFormedLedger
unfolding behind read_record
left-short i l at h b = left-turn i l at h ∙ ap (λ (g : Got ℕ). behind i (then g (λ n m. body_of i (take_part n m)))) (little-short 4 (drop at l) (omega (arith, length-drop at l)))

module _ (i : ℕ) (l : List ℕ) (at : ℕ) (h : at + 4 ≤ length l) {n : ℕ} (e : n ≡ little_at 4 l at) where
  left-part : left i l at ≡ behind i (body_of i (take_part n (drop (at + 4) l)))
  unfolding read_record
  left-part =
      left-turn i l at (omega arith)
      ∙ ap (λ (g : Got ℕ). behind i (then g (λ n m. body_of i (take_part n m)))) (little-at 4 l at h ∙ ap (λ (k : ℕ). got k (drop (at + 4) l)) (sym e))

  pub left-long : length l - (at + 4) < n → left i l at ≡ Err IllFormedLedger
  unfolding behind
  left-long b = left-part ∙ ap (λ (g : Got (List ℕ)). behind i (body_of i g)) (part-long n l (at + 4) h b)

  -- A record that fits, by whether its body does.
  pub left-record : at + 4 + n ≤ length l → {t : Bool} → readable (read_body i (cut l (at + 4) (at + 4 + n))) ≡ t → left i l at ≡ pick t (left (i + 1) l (at + 4 + n)) (Err IllFormedLedger)
  unfolding behind left
  left-record b {t} f =
      left-part
      ∙ ap (λ (g : Got (List ℕ)). behind i (body_of i g)) (part_at n l (at + 4) b)
      ∙ on (wholly (read_body i (cut l (at + 4) (at + 4 + n))))
      ∙ ap (λ (t : Bool). pick t (left (suc i) l (at + 4 + n)) (Err IllFormedLedger)) f
      ∙ ap (λ (k : ℕ). pick t (left k l (at + 4 + n)) (Err IllFormedLedger)) (sym (add-one i))
    where
      more : (s : Step) (g : Got (List Step)) → count_from i (wholly (then g (λ L. got (s ∷ L)))) ≡ count_from (suc i) (wholly g)
      more s nothing = refl
      more s (got L []) = let q : i + suc (length L) ≡ suc i + length L = omega arith in ap Ok q
      more s (got L (b ∷ m)) = refl

      on : (o : Option Step) → behind i (used o (drop (at + 4 + n) l)) ≡ pick (is_some o) (left (suc i) l (at + 4 + n)) (Err IllFormedLedger)
      on none = refl
      on (some s) = more s (read_steps (length (drop (at + 4 + n) l)) (suc i) (drop (at + 4 + n) l))

-- Ledgers --------------------------------------------------------------------------------------

-- The steps of a part before zeros.
abbrev steps_of_part : Got (List ℕ) → Got (List Step)
steps_of_part g = then g (λ part rest. only (all_zero rest) (read_steps (length part) 0 part))

pub ledger-short : (l : List ℕ) → length l < 4 → step_count (read_ledger l) ≡ Err IllFormedLedger
unfolding read_ledger
ledger-short l h = rw (lt-leb 4 (length l) h)

pub ledger-big : (l : List ℕ) → max_ledger < length l → step_count (read_ledger l) ≡ Err IllFormedLedger
unfolding read_ledger
ledger-big l h = rw (le-leb 4 (length l) (omega arith), lt-leb (length l) max_ledger h)

module _ (l : List ℕ) (h : 4 ≤ length l) (b : length l ≤ max_ledger) {n : ℕ} (e : n ≡ little_at 4 l 0) where
  ledger-in : step_count (read_ledger l) ≡ step_count (wholly (steps_of_part (take_part n (drop 4 l))))
  unfolding read_ledger
  ledger-in =
      rw (le-leb 4 (length l) h, le-leb (length l) max_ledger b)
      (ap (λ (g : Got ℕ). step_count (wholly (then g (λ n m. steps_of_part (take_part n m)))))
      (little-at 4 l 0 h ∙ ap (λ (k : ℕ). got k (drop 4 l)) (sym e)))

  pub ledger-long : length l - 4 < n → step_count (read_ledger l) ≡ Err IllFormedLedger
  ledger-long f = ledger-in ∙ ap (λ (g : Got (List ℕ)). step_count (wholly (steps_of_part g))) (part-long n l 4 h f)

  -- A length that fits, by whether only zeros follow the records.
  pub ledger-rest : 4 + n ≤ length l → {t : Bool} → all_zero (drop (4 + n) l) ≡ t → step_count (read_ledger l) ≡ pick t (records_in (cut l 4 (4 + n))) (Err IllFormedLedger)
  unfolding records_in
  ledger-rest f z =
      ledger-in
      ∙ ap (λ (g : Got (List ℕ)). step_count (wholly (steps_of_part g))) (part_at n l 4 f)
      ∙ on (all_zero (drop (4 + n) l)) (read_steps (length (cut l 4 (4 + n))) 0 (cut l 4 (4 + n)))
      ∙ ap (λ (t : Bool). pick t (records_in (cut l 4 (4 + n))) (Err IllFormedLedger)) z
    where
      on : (t : Bool) (g : Got (List Step)) → step_count (wholly (only t g)) ≡ pick t (step_count (wholly g)) (Err IllFormedLedger)
      on true g = refl
      on false g = refl

-- A step to seek ------------------------------------------------------------------------------

-- As many steps as the check counts, and what bytes are a ledger.
pub counted-steps : (l : List ℕ) {n : ℕ} → step_count (read_ledger l) ≡ Ok n → length (steps_of l) ≡ n
unfolding steps_of
counted-steps l {n} h = go (read_ledger l) h
  where
    go : (o : Option (List Step)) → step_count o ≡ Ok n → length (steps_in o) ≡ n
    go none h = absurd (let z : ◌≡◌ {A = ℕ} 0 1 = cc in omega arith)
    go (some L) h = cc

pub counted-led : (l : List ℕ) → AllBelow 256 l → {n : ℕ} → step_count (read_ledger l) ≡ Ok n → Led l × (n ≡ length (steps_of l))
counted-led l a {n} h = (go (read_ledger l) refl h, sym (counted-steps l h))
  where
    go : (o : Option (List Step)) → read_ledger l ≡ o → step_count o ≡ Ok n → Led l
    go none r h = absurd (let z : ◌≡◌ {A = ℕ} 0 1 = cc in omega arith)
    go (some L) r h = holds-led (ledger-read l L a r)

module _ (l : List ℕ) (i : ℕ) where
  -- Below the number that the check answers there is a step to seek.
  pub sought : AllBelow 256 l → {n : ℕ} → step_count (read_ledger l) ≡ Ok n → i < n → Led l × (i < length (steps_of l))
  sought a h b = let k = counted-led l a h in (k.0, omega (arith, k.1))

  module _ (p : Led l × (i < length (steps_of l))) where
    pub sought-points : {step at : ℕ} → (step ≡ i) × (at ≡ place_of (steps_of l) i) → Points l step at
    sought-points e = record { led = p.0; inside = omega (arith, e.0, p.1); place = e.1 ∙ ap (place_of (steps_of l)) (sym e.0) }
