-- The step that a call answers can be looked up: its kind is one, and its operands are those of the call's own judgement.
use mathlib.Core.Path.{◌≡◌, refl, sym, ap, ap₂, ◌∙◌, subst}
use mathlib.Core.Option.{Option, none, some}
use mathlib.Core.List.{List, [], ◌∷◌}
use Prim.Native.Nat.{ℕ, ◌/◌, ◌%◌, ◌≤◌, ◌<◌}
use native.Mathlib.Omega.{arith}
use lib.ListN.{length, take, drop}
use Rattle.calculus.specs.Judgement.{Step}
use Rattle.calculus.specs.Rules.{AllBelow, judgement_at}
use Rattle.calculus.specs.Record.{operand_bytes, max_ledger, Holds}
use Rattle.calculus.specs.Parse.{read_ledger}
use Rattle.calculus.specs.Door
use Rattle.calculus.specs.Door.{Call, Task, task_of, Measure, answered, Reply, reply}
use Rattle.calculus.proofs.Tables.{listed-range}
use Rattle.calculus.proofs.Records.{ledger-read}
use Rattle.calculus.proofs.Doors
use Rattle.calculus.proofs.Doors.{answer-no-refusal, call-keeps}
use Rattle.ledger.specs.Ledger.{steps_of, Led}
use Rattle.ledger.proofs.LedgerLaws.{holds-steps, holds-led, formed-at-0}
use Rattle.lookup.specs.Lookup.{operands_start, operands_length, kind_of}
use Rattle.lookup.proofs.LookupLaws.{kind-found, judgement-bytes, part-found}
use Rattle.numbers.specs.Answers.{reply_number, part_number, Numbers}
use Rattle.refusals.proofs.Numbers.{number-range}
use Rattle.exports.proofs.FitLaws.{step-low}

-- A step of the ledger l with the judgement of the call: `k` is its kind, and `x` says where its operands begin and how long they are.
pub record Shown (c : Call) (l : List ℕ) (k x : ℕ) : Type 0 where
  pub task : Task
  pub reads : task_of c ≡ some task
  pub kind : (1 ≤ k) × (k ≤ 75)
  pub bytes : take (x / 4294967296) (drop (x % 4294967296) l) ≡ operand_bytes task.own

-- A step of a ledger by its number, as it is looked up.
module _ {l : List ℕ} {L : List Step} (h : Holds l L) {n : ℕ} (b : n < length L) where
  here : Led l × (n < length (steps_of l))
  here = (holds-led h, omega (arith, ap length (holds-steps h), b))

  kind-shown : (1 ≤ kind_of (steps_of l) n) × (kind_of (steps_of l) n ≤ 75)
  kind-shown =
      let e = kind-found here (refl, refl) refl in
      let r = listed-range (formed-at-0 here.0 n here.1).listed in
      (omega (arith, e, r.0), omega (arith, e, r.1))

  bytes-shown : (x : ℕ) → x ≡ part_number (operands_start (steps_of l) n) (operands_length (steps_of l) n) → take (x / 4294967296) (drop (x % 4294967296) l) ≡ operand_bytes (judgement_at L n)
  bytes-shown x e =
      let p = part-found here in
      let s : x % 4294967296 ≡ operands_start (steps_of l) n = omega (arith, e, p.small) in
      let m : x / 4294967296 ≡ operands_length (steps_of l) n = omega (arith, e, p.small) in
      ap₂ (λ (a b : ℕ). take b (drop a l)) s m ∙ p.bytes ∙ sym (judgement-bytes here) ∙ ap (λ (M : List Step). operand_bytes (judgement_at M n)) (holds-steps h)

-- The step in the number of an answer.
answered-step : (n : ℕ) (ms : List Measure) {r : ℕ} → n < max_ledger → r ≡ reply_number (answered n ms) → r % 4294967296 ≡ n
answered-step n [] b e = omega (arith, b, e)
answered-step n (m ∷ ms) b e = omega (arith, b, e)

-- Where the number of a call on a ledger is not negative, `lf_kind` and `lf_operands` show the step that it answers.
pub looked-up : (c : Call) (l : List ℕ) {l' : List ℕ} {outs : List (List ℕ)} {r : ℕ} → AllBelow 256 l → Numbers (reply c l) r l' outs → r < 9223372036854775808
    → (k : ℕ) → k ≡ kind_of (steps_of l') (r % 4294967296)
    → (x : ℕ) → x ≡ part_number (operands_start (steps_of l') (r % 4294967296)) (operands_length (steps_of l') (r % 4294967296))
    → Shown c l' k x
looked-up c l {l'} {r = r} a h b k e x f = go (reply c l).answer refl (read_ledger l) refl
  where
    go : (y : Door.Answer) → (reply c l).answer ≡ y → (o : Option (List Step)) → read_ledger l ≡ o → Shown c l' k x
    go (Door.refused q) i o j = absurd (omega (arith, b, h.numbered ∙ ap reply_number i, (number-range q).1))
    go (answered n ms) i none j = answer-no-refusal (sym i ∙ ap (λ (z : Reply). z.answer) (Doors.unreadable c l j))
    go (answered n ms) i (some L) j =
        let g = call-keeps c l L (ledger-read l L a j) in
        let o = g.own n ms i in
        let d : Holds l' g.steps = subst (λ (m : List ℕ). Holds m g.steps) (sym h.ledger) g.holds in
        let s : r % 4294967296 ≡ n = answered-step n ms (step-low g.holds o.2.inside) (h.numbered ∙ ap reply_number i) in
        let v = kind-shown d o.2.inside in
        let w : k ≡ kind_of (steps_of l') n = e ∙ ap (kind_of (steps_of l')) s in
        record {
          task = o.0;
          reads = o.1;
          kind = (omega (arith, v.0, w), omega (arith, v.1, w));
          bytes = bytes-shown d o.2.inside x (f ∙ ap (λ (n : ℕ). part_number (operands_start (steps_of l') n) (operands_length (steps_of l') n)) s) ∙ ap operand_bytes o.2.same;
        }
