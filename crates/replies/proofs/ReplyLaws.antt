-- The reply of a call that runs: from its run, the ending, and the results.
use Rattle.std.specs.Prelude.{Result, Ok, Err, is_ok}
use mathlib.Core.Path.{◌≡◌, refl, sym, ap, ◌∙◌, subst}
use mathlib.Core.Bool.{true, false, ◌&&◌}
use mathlib.Core.Option.{some}
use mathlib.Core.List.{List, [], ◌∷◌, ◌++◌, map}
use Prim.Native.Nat.{ℕ, ◌+◌, ◌≤◌}
use native.Mathlib.Omega.{arith}
use lib.ListN.{length, drop}
use lib.Seq.{sets, sets-eq}
use borrow.Author.Tests.{le-leb}
use Rattle.formula.specs.Bytes.{max_nodes, max_bound}
use Rattle.calculus.specs.Judgement.{Step}
use Rattle.calculus.specs.Record.{nodes_in, bound_in, few_nodes, low_bound, size, ledger_bytes}
use Rattle.calculus.specs.Emit.{not-below, not-implied, Program, Outcome, done, stopped, full, within, run}
use Rattle.refusals.specs.declared.Refusal.{Refusal}
use Rattle.refusals.specs.declared.Refusal.TheVariants.{LargeResult, ShortOutput, FullLedger, NotBelow as below, NotImplied as implied}
use Rattle.calculus.specs.Door.{Call, Item, item, Task, task_of, outputs_of, measure, answered, Reply, refuse, every, long_enough, written, concluded, reply}
use Rattle.calculus.proofs.Doors.{ItemsKeep, turned-away, comes-to-run}
use Rattle.calculus.proofs.Records.{read-ledger}
use Rattle.calculus.proofs.Rooms.{size-extends}
use Rattle.calculus.proofs.Growing.{Extends}
use Rattle.ledger.specs.Ledger.{steps_of, Led}
use Rattle.ledger.proofs.LedgerLaws.{holds-steps}
use Rattle.steps.specs.Running.{Ran, book, Leaves, Ends, RunsOn}
use Rattle.steps.proofs.RunLaws.{runs-grew, runs-led}
use Rattle.replies.specs.Replying.{said, Replies}
use Rattle.replies.specs.Ending.{EndingBy, Ending, out_by}

-- What a call with these outputs and results replies, by its answer and the ledger after it.
abbrev pub finished : List (List ℕ) → List Item → Result ℕ Refusal → List ℕ → Reply
finished outs rs (Ok n) l = record { answer = answered n (map measure rs); ledger = l; outputs = written rs outs }
finished outs rs (Err e) l = refuse e l outs

-- The ending of a run ------------------------------------------------------------------------------

module _ {l l₁ : List ℕ} {p : Program} {r : Ran} {end : ℕ} (d : Led l) (h : RunsOn l p r l₁) (e : end ≡ size (steps_of l)) where
  -- A run leaves the used bytes behind it, so that they can be gone back to.
  pub end-inside : Led l₁ × (4 ≤ end) × (end ≤ size (steps_of l₁))
  end-inside =
      let g = runs-grew h.runs in
      let x : Extends (steps_of l) (steps_of l₁) = record { more = g.more; whole = holds-steps g.leaves.holds } in
      ((runs-led h.runs).led, omega (arith, e), omega (arith, e, size-extends x))

  pub ended : {l₂ : List ℕ} {a : Result ℕ Refusal} → Ending l₁ end r a l₂ → (outs : List (List ℕ)) (rs : List Item) → concluded l outs rs (run (within (length l)) p (steps_of l)) ≡ finished outs rs a l₂
  ended {l₂} {a} k outs rs = go (run (within (length l)) p (steps_of l)) h.runs.ends
    where
      -- The answer b with the ledger that holds M.
      as-left : (b : Result ℕ Refusal) (M : List Step) → Leaves (book l h.before) M (book l₁ h.after) → (a ≡ b) × (l₂ ≡ l₁) → finished outs rs b (ledger_bytes (length l) M) ≡ finished outs rs a l₂
      as-left b M v k =
          let u : ledger_bytes (length l) M ≡ l₂ = ap (λ (n : ℕ). ledger_bytes n M) (sym v.long) ∙ sym v.holds.bytes ∙ sym k.1 in
          ap (finished outs rs b) u ∙ ap (λ (x : Result ℕ Refusal). finished outs rs x l₂) (sym k.0)

      go : (o : Outcome) → Ends (book l h.before) o r (book l₁ h.after) → concluded l outs rs o ≡ finished outs rs a l₂
      go (done n M) x = as-left (Ok n) M x.1 (subst (λ (s : Ran). EndingBy l₁ end s a l₂) x.0 k.by)
      go (stopped not-below M) x = as-left (Err below) M x.1 (subst (λ (s : Ran). EndingBy l₁ end s a l₂) x.0 k.by)
      go (stopped not-implied M) x = as-left (Err implied) M x.1 (subst (λ (s : Ran). EndingBy l₁ end s a l₂) x.0 k.by)
      go full x =
          let k' = subst (λ (s : Ran). EndingBy l₁ end s a l₂) x.0 k.by in
          let g = x.1 in
          let u : l₂ ≡ ledger_bytes (length l₁) (steps_of l) = k'.1 (steps_of l) g.more (holds-steps g.leaves.holds) e in
          let v : l ≡ l₂ = d.bytes ∙ ap (λ (n : ℕ). ledger_bytes n (steps_of l)) (sym g.leaves.long) ∙ sym u in
          ap (finished outs rs (Err FullLedger)) v ∙ ap (λ (x : Result ℕ Refusal). finished outs rs x l₂) (sym k'.0)

-- Questions 3 to 6 ----------------------------------------------------------------------------------

-- Items that keep the limits pass their questions.
kept-few : (xs : List Item) → ItemsKeep xs → every few_nodes xs ≡ true
kept-few [] h = refl
kept-few (item c x ∷ xs) h = rw (le-leb (nodes_in c x) max_nodes h.0.0, kept-few xs h.1)

kept_low : (xs : List Item) → ItemsKeep xs → every low_bound xs ≡ true
kept_low [] h = refl
kept_low (item c x ∷ xs) h = rw (le-leb (bound_in c x) max_bound h.0.1, kept_low xs h.1)

module _ (c : Call) (t : Task) (l : List ℕ) (d : Led l) (e : task_of c ≡ some t) (h : ItemsKeep t.operands) where
  pub too_large : (every few_nodes t.results && every low_bound t.results) ≡ false → reply c l ≡ refuse LargeResult l (outputs_of c)
  too_large b = turned-away c t LargeResult l (steps_of l) (read-ledger d) e (rw (kept-few t.operands h, kept_low t.operands h, b))

  module _ (i : ItemsKeep t.results) where
    pub too_short : long_enough t.results (outputs_of c) ≡ false → reply c l ≡ refuse ShortOutput l (outputs_of c)
    too_short b = turned-away c t ShortOutput l (steps_of l) (read-ledger d) e (rw (kept-few t.operands h, kept_low t.operands h, kept-few t.results i, kept_low t.results i, b))

    -- The reply of a call that comes to run.
    pub replied : {l₁ l₂ : List ℕ} {r : Ran} {end : ℕ} {a : Result ℕ Refusal} → long_enough t.results (outputs_of c) ≡ true → RunsOn l t.program r l₁ → end ≡ size (steps_of l) → Ending l₁ end r a l₂
        → reply c l ≡ finished (outputs_of c) t.results a l₂
    replied b k m n =
        comes-to-run c t l (steps_of l) (read-ledger d) e (rw (kept-few t.operands h, kept_low t.operands h, kept-few t.results i, kept_low t.results i, b))
        ∙ ended d k m n (outputs_of c) t.results

-- Without results the answer is all.
pub finished-none : (a : Result ℕ Refusal) (l : List ℕ) → finished [] [] a l ≡ record { answer = said a; ledger = l; outputs = [] }
finished-none (Ok n) l = refl
finished-none (Err e) l = refl

-- A refusal with every byte as it was.
pub refuses : (c : Call) (l : List ℕ) (e : Refusal) → reply c l ≡ refuse e l (outputs_of c) → Replies c l (said (Err e)) l (outputs_of c)
refuses c l e h = record { equal = h }

-- A result written in front.
pub set_front : (x d : List ℕ) → length x ≤ length d → sets d 0 x ≡ x ++ drop (length x) d
set_front x d h = sets-eq x d 0 (omega (arith, h)) ∙ (let e : 0 + length x ≡ length x = omega arith in ap (λ (n : ℕ). x ++ drop n d) e)

pub out-ok : (a : Result ℕ Refusal) (x d : List ℕ) → is_ok a ≡ true → out_by a x d ≡ x ++ drop (length x) d
out-ok (Ok n) x d e = refl
out-ok (Err q) x d e = cc
