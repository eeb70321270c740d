-- What is known of a step that is looked up, and where there is none.
use mathlib.Core.Path.{◌≡◌, refl, sym, ap, ap₂, ◌∙◌}
use mathlib.Core.Bool.{Bool, true, false}
use mathlib.Core.Option.{Option, none, some}
use mathlib.Core.List.{List, [], ◌∷◌}
use Prim.Native.Nat.{ℕ, zero, suc, ◌+◌, ◌-◌, ◌*◌, ◌≤◌, ◌<◌}
use native.Mathlib.Omega.{arith}
use native.Mathlib.Nat.{zero-add}
use borrow.Author.Tests.{ltb-true, ltb-false, lt-ltb, le-ltb}
use lib.Dec.{ltb}
use lib.ListN.{length, get_or, take, drop, length-drop}
use lib.Seq.{length-take-le, sets}
use Rattle.formula.specs.Answers.{pick}
use Rattle.calculus.specs.Judgement.{Step}
use Rattle.calculus.specs.Rules.{step_at, judgement_at, AllBelow}
use Rattle.calculus.specs.Record.{operand_bytes, max_ledger}
use Rattle.calculus.specs.Parse.{read_ledger, operands_of, operands_at}
use Rattle.calculus.proofs.Records.{read-ledger, ledger-read, operands-past, operands-ill-formed}
use Rattle.ledger.specs.Checks.{step_count}
use Rattle.ledger.specs.Ledger.{steps_in, steps_of, Led, place_of}
use Rattle.ledger.proofs.LedgerLaws.{holds-led, formed-at-0, below_one}
use Rattle.ledger.proofs.CheckLaws.{counted-steps, sought-points}
use Rattle.ledger.proofs.PointLaws.{inside, points-operands}
use Rattle.kinds.specs.Kinds.{name_bytes}
use Rattle.std.specs.Prelude.{Ok, Err}
use Rattle.refusals.specs.declared.Refusal.{Refusal}
use Rattle.refusals.specs.declared.Refusal.TheVariants.{ShortOutput}
use Rattle.writing.specs.Writing.{Wrote}
use Rattle.writing.proofs.DeliverLaws.{short-delivers, wrote-delivers}
use Rattle.lookup.specs.Lookup.{operands_start, operands_length, kind_of, reference_of, WritesRule}

-- No step where the check refuses.
counted-ill : (o : Option (List Step)) {e : Refusal} → step_count o ≡ Err e → steps_in o ≡ []
counted-ill none h = refl
counted-ill (some L) h = absurd (let z : ◌≡◌ {A = ℕ} 0 1 = cc in omega arith)

module _ (l : List ℕ) (i : ℕ) where
  pub has-past : {n : ℕ} → step_count (read_ledger l) ≡ Ok n → n ≤ i → ltb i (length (steps_of l)) ≡ false
  has-past h b = le-ltb i (length (steps_of l)) (omega (arith, counted-steps l h, b))

  pub has-ill : {e : Refusal} → step_count (read_ledger l) ≡ Err e → ltb i (length (steps_of l)) ≡ false
  unfolding steps_of
  has-ill h = ap (λ (L : List Step). ltb i (length L)) (counted-ill (read_ledger l) h) ∙ le-ltb i 0 (omega arith)

  -- Bytes with a step are a ledger.
  found : AllBelow 256 l → ltb i (length (steps_of l)) ≡ true → Led l × (i < length (steps_of l))
  unfolding steps_of
  found a e = (go (read_ledger l) refl (ltb-true i (length (steps_of l)) e), ltb-true i (length (steps_of l)) e)
    where
      go : (o : Option (List Step)) → read_ledger l ≡ o → i < length (steps_in o) → Led l
      go none h b = absurd (omega arith)
      go (some L) h b = holds-led (ledger-read l L a h)

-- Where there is such a step.
module _ {l : List ℕ} {i : ℕ} (p : Led l × (i < length (steps_of l))) where
  is_found : ltb i (length (steps_of l)) ≡ true
  is_found = lt-ltb i (length (steps_of l)) p.1

  module _ {step at : ℕ} (e : (step ≡ i) × (at ≡ place_of (steps_of l) i)) where
    -- Where the operands begin and end, and how long they are.
    pub located : {from to : ℕ} → from ≡ at + 6 + 4 * length (step_at (steps_of l) step).references → to ≡ place_of (steps_of l) (suc step)
        → (from ≡ operands_start (steps_of l) i) × (to - from ≡ operands_length (steps_of l) i)
    unfolding operands_start operands_length
    located {from} {to} f g =
        let q = sought-points l i p e in
        let k = inside q in
        let n : length (take (to - from) (drop from l)) ≡ to - from = length-take-le (to - from) (drop from l) (omega (arith, length-drop from l, k.operands, k.whole, f, g)) in (
          rw is_found (f ∙ ap₂ (λ (s a : ℕ). a + 6 + 4 * length (step_at (steps_of l) s).references) e.0 e.1),
          rw is_found (sym n ∙ ap length (points-operands q from to f g) ∙ ap (λ (s : ℕ). length (operand_bytes (judgement_at (steps_of l) s))) e.0),
        )

    pub kind-found : {r : ℕ} → r ≡ (step_at (steps_of l) step).kind → r ≡ kind_of (steps_of l) i
    unfolding kind_of
    kind-found h = rw is_found (h ∙ ap (λ (s : ℕ). (step_at (steps_of l) s).kind) e.0)

    -- A reference names an earlier step.
    pub reference-low : {j r : ℕ} → j < length (step_at (steps_of l) step).references → r ≡ get_or (step_at (steps_of l) step).references j 0 → r < step
    reference-low {j} b h =
        let q = sought-points l i p e in
        omega (arith, h, below_one step (step_at (steps_of l) step).references j (formed-at-0 p.0 step q.inside).earlier b)

    references : List ℕ
    references = (step_at (steps_of l) step).references

    -- What is answered of a reference, by whether there is such a one.
    by_count : (j : ℕ) {t : Bool} → ltb j (length references) ≡ t → pick t (1 + get_or references j 0) 0 ≡ reference_of (steps_of l) i j
    unfolding reference_of references
    by_count j h = rw is_found (sym (ap (λ (t : Bool). pick t (1 + get_or references j 0) 0) h) ∙ ap (λ (s : ℕ). pick (ltb j (length (step_at (steps_of l) s).references)) (1 + get_or (step_at (steps_of l) s).references j 0) 0) e.0)

    pub reference-found : {j r : ℕ} → j < length (step_at (steps_of l) step).references → r ≡ get_or (step_at (steps_of l) step).references j 0 → 1 + r ≡ reference_of (steps_of l) i j
    unfolding references
    reference-found {j} b h = ap (λ (n : ℕ). 1 + n) h ∙ by_count j (lt-ltb j (length references) b)

    pub reference-none : (j : ℕ) → length (step_at (steps_of l) step).references ≤ j → 0 ≡ reference_of (steps_of l) i j
    unfolding references
    reference-none j b = by_count j (le-ltb j (length references) b)

-- Where there is no such step.
module _ (L : List Step) (i : ℕ) (e : ltb i (length L) ≡ false) where
  pub located-none : (0 ≡ operands_start L i) × (0 ≡ operands_length L i)
  unfolding operands_start operands_length
  located-none = (rw e, rw e)

  pub kind-none : 0 ≡ kind_of L i
  unfolding kind_of
  kind-none = rw e

  pub step-none : (j : ℕ) → 0 ≡ reference_of L i j
  unfolding reference_of
  step-none j = rw e

-- The part of a step -----------------------------------------------------------------------------

-- The bytes of the judgement of step i.
among : (L : List Step) (i : ℕ) → i < length L → operand_bytes (judgement_at L i) ≡ operands_of (some L) i
among [] i b = absurd (omega arith)
among (s ∷ L) zero b = refl
among (s ∷ L) (suc i) b = among L i (omega arith)

-- It lies in the ledger, and its bytes are those of the judgement; the empty part where there is none.
pub record PartIn (l : List ℕ) (i : ℕ) : Type 0 where
  pub whole : operands_start (steps_of l) i + operands_length (steps_of l) i ≤ length l
  pub small : operands_start (steps_of l) i + operands_length (steps_of l) i ≤ max_ledger
  pub bytes : take (operands_length (steps_of l) i) (drop (operands_start (steps_of l) i) l) ≡ operands_at l i

module _ {l : List ℕ} {i : ℕ} (p : Led l × (i < length (steps_of l))) where
  pub judgement-bytes : operand_bytes (judgement_at (steps_of l) i) ≡ operands_at l i
  unfolding operands_at
  judgement-bytes = among (steps_of l) i p.1 ∙ ap (λ (o : Option (List Step)). operands_of o i) (sym (read-ledger p.0))

  pub part-found : PartIn l i
  part-found =
      let q = sought-points l i p (refl, refl) in
      let k = inside q in
      let x = located p (refl, refl) refl refl in
      record {
        whole = omega (arith, x.0, x.1, k.operands, k.whole);
        small = omega (arith, x.0, x.1, k.operands, k.whole, k.small);
        bytes = sym (ap₂ (λ (a b : ℕ). take b (drop a l)) x.0 x.1) ∙ points-operands q _ _ refl refl ∙ judgement-bytes;
      }

module _ (l : List ℕ) (i : ℕ) where
  past : ltb i (length (steps_of l)) ≡ false → operands_at l i ≡ []
  unfolding steps_of
  past e = go (read_ledger l) refl (ltb-false i (length (steps_of l)) e)
    where
      go : (o : Option (List Step)) → read_ledger l ≡ o → length (steps_in o) ≤ i → operands_at l i ≡ []
      go none h b = operands-ill-formed l i h
      go (some L) h b = operands-past l L h i b

  pub part_in : AllBelow 256 l → PartIn l i
  part_in a = go (ltb i (length (steps_of l))) refl
    where
      go : (t : Bool) → ltb i (length (steps_of l)) ≡ t → PartIn l i
      go true e = part-found (found l i a e)
      go false e =
          let x = located-none (steps_of l) i e in
          record {
            whole = omega (arith, x.0, x.1);
            small = omega (arith, x.0, x.1);
            bytes = sym (ap₂ (λ (a b : ℕ). take b (drop a l)) x.0 x.1) ∙ sym (past e);
          }

-- The part as the code cuts it.
pub part_cut : {l : List ℕ} {i start len : ℕ} → PartIn l i → start ≡ operands_start (steps_of l) i → len ≡ operands_length (steps_of l) i → take (start + len - start) (drop start l) ≡ operands_at l i
part_cut {l} {i} {start} {len} p e f =
    let n : start + len - start ≡ operands_length (steps_of l) i = omega (arith, f) in
    ap₂ (λ (a b : ℕ). take b (drop a l)) e n ∙ p.bytes

-- The name of a rule -----------------------------------------------------------------------------

module _ (kind : ℕ) {n : ℕ} (e : n ≡ length (name_bytes kind)) where
  -- A name of n bytes in front of an output.
  wrote : {m m' : List ℕ} → m' ≡ sets m 0 (name_bytes kind) → Wrote (name_bytes kind) m 0 n m'
  wrote h = record { end = e ∙ sym (zero-add (length (name_bytes kind))); bytes = h }

  pub name-short : (out : List ℕ) → length out < n → WritesRule kind out (Err ShortOutput) out
  name-short out b = record { equal = (short-delivers (wrote {m = out} refl) b refl).equal }

  pub name-written : {out out' : List ℕ} → n ≤ length out → out' ≡ sets out 0 (name_bytes kind) → WritesRule kind out (Ok n) out'
  name-written b h = record { equal = (wrote-delivers (wrote h) b (wrote h)).equal }
