-- What a call replies, by how its run ends on every ledger and what its steps take on an empty one.
use mathlib.Core.Path.{◌≡◌, refl, ◌∙◌}
use mathlib.Core.Logic.{◌⊎◌, inl, inr}
use mathlib.Core.Bool.{Bool, true, false, false≢true, ◌&&◌, and-eq-true_iff}
use mathlib.Core.Option.{some, none}
use mathlib.Core.List.{List, []}
use Prim.Native.Nat.{ℕ, ◌≤◌}
use native.Mathlib.Omega.{arith}
use borrow.Author.Tests.{leb-true, le-leb}
use lib.ListN.{length, length-replicate}
use Rattle.formula.specs.Formula.{Face}
use Rattle.calculus.specs.Judgement.{Step}
use Rattle.calculus.specs.Record.{few_nodes, low_bound, size}
use Rattle.calculus.specs.Emit.{Failure, Outcome, done, stopped, full, unbounded, within, run}
use Rattle.refusals.specs.declared.Refusal.{Refusal}
use Rattle.refusals.specs.declared.Refusal.TheVariants.{FullLedger}
use Rattle.refusals.specs.Refusals.{number}
use Rattle.calculus.specs.Door.{Call, Item, Task, task_of, outputs_of, every, long_enough, first_no, questions, failing, concluded}
use Rattle.calculus.specs.Demand.{empty}
use Rattle.calculus.proofs.Records.{read-ledger}
use Rattle.calculus.proofs.Rooms.{fitted, question-7}
use Rattle.calculus.proofs.Doors.{comes-to-run, turned-away}
use Rattle.calculus.proofs.Demands.{empty_holds}
use Rattle.marked.specs.Marked.{Expected, yes-with, refusal, items, Fits, Says, OnLedgers}

-- A run ends as is answered: done where it is yes, stopped for the refusal of the number, or out of room.
pub data Ends (rs : List Item) : Expected → Outcome → Type 0 where
  ends-yes : {gs : List Face} {n : ℕ} {M : List Step} → rs ≡ items gs → Ends rs (yes-with gs) (done n M)
  ends-refused : {q : ℕ} (e : Failure) {M : List Step} → number (failing e) ≡ q → Ends rs (refusal q) (stopped e M)
  ends-full : {x : Expected} → Ends rs x full

ended : (l : List ℕ) (outs : List (List ℕ)) {rs : List Item} {x : Expected} {o : Outcome} → Ends rs x o → Says x outs (concluded l outs rs o) ⊎ Says (refusal 7) outs (concluded l outs rs o)
ended l outs (ends-yes {n} e) = inl (n, rw e, rw e)
ended l outs (ends-refused e p) = inl (failing e, p, refl, refl)
ended l outs ends-full = inr (FullLedger, refl, refl, refl)

-- Do the steps that a run leaves take at most m bytes?
abbrev pub takes : Outcome → ℕ → Bool
takes (done k M) m = within m M
takes (stopped e M) m = within m M
takes full m = false

-- Then it is the same in more bytes.
fitted-same : (o : Outcome) (m n : ℕ) → takes o m ≡ true → m ≤ n → fitted (within n) o ≡ o
fitted-same (done k M) m n h p = rw (le-leb (size M) n (omega (arith, leb-true (size M) m h)))
fitted-same (stopped e M) m n h p = rw (le-leb (size M) n (omega (arith, leb-true (size M) m h)))
fitted-same full m n h p = refl

ended-in : (l : List ℕ) (outs : List (List ℕ)) (m : ℕ) {rs : List Item} {x : Expected} {o : Outcome} → Ends rs x o → takes o m ≡ true → Says x outs (concluded l outs rs o)
ended-in l outs m (ends-yes {n} e) h = (n, rw e, rw e)
ended-in l outs m (ends-refused e p) h = (failing e, p, refl, refl)
ended-in l outs m ends-full h = absurd (false≢true h)

-- Do operands and results keep the limits, and the steps on an empty ledger take at most m bytes?
abbrev pub small : ℕ → Task → Bool
small m t =
    every few_nodes t.operands && (every low_bound t.operands && ((every few_nodes t.results && every low_bound t.results) && takes (run unbounded t.program []) m))

-- A call whose task is small, and whose run ends as is answered on every ledger.
module _ (m : ℕ) (c : Call) (t : Task) (x : Expected) (four : 4 ≤ m) (e : task_of c ≡ some t) (s : small m t ≡ true) (long : Fits x (outputs_of c) → long_enough t.results (outputs_of c) ≡ true)
    (ends : (room : List Step → Bool) (L : List Step) → Ends t.results x (run room t.program L)) where
  tests : (every few_nodes t.operands ≡ true) × (every low_bound t.operands ≡ true) × ((every few_nodes t.results && every low_bound t.results) ≡ true) × (takes (run unbounded t.program []) m ≡ true)
  tests =
      let a = (and-eq-true_iff _ _).0 s in
      let b = (and-eq-true_iff _ _).0 a.1 in
      let d = (and-eq-true_iff _ _).0 b.1 in
      (a.0, b.0, d.0, d.1)

  passes : Fits x (outputs_of c) → first_no (questions t (outputs_of c)) ≡ none
  passes h = rw (tests.0, tests.1, tests.2, long h)

  pub replies : OnLedgers m c x
  replies = record {
    everywhere = λ h l L r. rw (comes-to-run c t l L r e (passes h)) (ended l (outputs_of c) (ends (within (length l)) L));
    with-room = λ h n q w.
        let k : length (empty n) ≡ n = length-replicate n 0 in
        let z = empty_holds n (omega arith) w in
        let o = run unbounded t.program [] in
        let same : run (within (length (empty n))) t.program [] ≡ o = question-7 (length (empty n)) t.program [] z.fits ∙ fitted-same o m (length (empty n)) tests.3 (omega arith) in
        rw (comes-to-run c t (empty n) [] (read-ledger z) e (passes h), same) (ended-in (empty n) (outputs_of c) m (ends unbounded []) tests.3);
  }

-- A call that is turned away by one of the questions 3 to 6.
pub turned : (m : ℕ) (c : Call) (t : Task) (e : Refusal) → 4 ≤ m → task_of c ≡ some t → first_no (questions t (outputs_of c)) ≡ some e → OnLedgers m c (refusal (number e))
turned m c t e p i j = record {
  everywhere = λ h l L r. inl (rw (turned-away c t e l L r i j) (e, refl, refl, refl));
  with-room = λ h n q w. rw (turned-away c t e (empty n) [] (read-ledger (empty_holds n (omega arith) w)) i j) (e, refl, refl, refl);
}
