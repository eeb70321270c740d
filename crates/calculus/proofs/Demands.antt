-- Entailments answer right on every well-formed ledger, and what every list of calls does in the model.
use mathlib.Core.Path.{◌≡◌, refl, ap}
use mathlib.Core.Option.{some}
use mathlib.Core.List.{List, [], ◌∷◌, ◌++◌}
use Prim.Native.Nat.{ℕ, suc, ◌-◌, ◌≤◌}
use native.Mathlib.Omega.{arith}
use lib.ListN.{length, replicate, length-replicate}
use Rattle.formula.specs.declared.Sort.TheVariants.{Faces}
use Rattle.formula.specs.Formula.{Face, Entails}
use Rattle.formula.specs.Bytes.{bound_face, read_all}
use Rattle.calculus.specs.Judgement
use Rattle.calculus.specs.Judgement.{Step}
use Rattle.calculus.specs.Rules.{Valid}
use Rattle.calculus.specs.Truth.{EntailsBelow}
use Rattle.calculus.specs.Record.{number, formula, steps_bytes, ledger_bytes, max_ledger, Holds}
use Rattle.calculus.specs.Emit.{Outcome, within, run}
use Rattle.calculus.specs.Calls.{emit_entails}
use Rattle.refusals.specs.declared.Refusal.TheVariants.{FullLedger, NotBelow, NotImplied}
use Rattle.calculus.specs.Door.{Call, entails, item, Task, task_of, Answer, answered, refused, Reply, concluded, reply}
use Rattle.calculus.specs.Demand.{empty, Lowest}
use Rattle.calculus.proofs.Ledgers.{valid-nil}
use Rattle.calculus.proofs.Finding.{find-lowest}
use Rattle.calculus.proofs.Growing.{Good, claims, leaves, no_room}
use Rattle.calculus.proofs.Records.{read-ledger}
use Rattle.calculus.proofs.Rooms.{Bounded, done-fits, stopped-fits, run-bounded}
use Rattle.calculus.proofs.Verdicts.{Decides, holds-so, not-below-so, not-implied-so, no-room-so, entails-decides}
use Rattle.calculus.proofs.Doors.{Each, each-some, each-bind, each_of, task-good, Passage, turned, ran, passage, grown-holds, call-keeps, NotRefusedTo7}

-- Theorem 5 -----------------------------------------------------------------------------------

-- What is answered with the steps L in the ledger: yes with the lowest number, 8 or 9.
pub data Decided (d : ℕ) (a b : Face) (L : List Step) : Answer → Type 0 where
  yes-so : {n : ℕ} → EntailsBelow d a b → Lowest (Judgement.entails d a b) L n → Decided d a b L (answered n [])
  8-so : (bound_face a ≤ d → bound_face b ≤ d → ⊥) → Decided d a b L (refused NotBelow)
  9-so : bound_face a ≤ d → bound_face b ≤ d → (Entails a b → ⊥) → Decided d a b L (refused NotImplied)

-- The answer and the steps after a run.
record Ended (d : ℕ) (α β : Face) (r : Reply) : Type 0 where
  pub steps : List Step
  pub holds : Holds r.ledger steps
  pub decided : Decided d α β steps r.answer

-- The reply of an entails with d and the bytes a and b.
pub record DecidedReply (d : ℕ) (a b : List ℕ) (r : Reply) : Type 0 where
  pub left : Face
  pub goal : Face
  pub reads-left : read_all Faces a ≡ some left
  pub reads-goal : read_all Faces b ≡ some goal
  pub steps : List Step
  pub holds : Holds r.ledger steps
  pub decided : Decided d left goal steps r.answer

ended : (d : ℕ) (α β : Face) {l : List ℕ} {L : List Step} → Holds l L → {o : Outcome} → Good (Judgement.entails d α β) L o → Bounded (length l) o → Decides d α β o
    → NotRefusedTo7 (concluded l [] [] o).answer → Ended d α β (concluded l [] [] o)
ended d α β h (claims {n} {M} g f) (done-fits b) (holds-so t) u = record { steps = M; holds = grown-holds h g b; decided = yes-so t (find-lowest (Judgement.entails d α β) M n f) }
ended d α β h (leaves {M} g) (stopped-fits b) (not-below-so t) u = record { steps = M; holds = grown-holds h g b; decided = 8-so t }
ended d α β h (leaves {M} g) (stopped-fits b) (not-implied-so p q t) u = record { steps = M; holds = grown-holds h g b; decided = 9-so p q t }
ended d α β h no_room b no-room-so u = absurd (omega (arith, u FullLedger refl))

-- The task of an entailment.
data EntailsTask (d : ℕ) (a b : List ℕ) : Task → Type 0 where
  of : (α β : Face) → read_all Faces a ≡ some α → read_all Faces b ≡ some β
      → EntailsTask d a b (record {
        operands = item number d ∷ item (formula Faces) α ∷ item (formula Faces) β ∷ [];
        results = [];
        own = Judgement.entails d α β;
        program = emit_entails d α β;
      })

entails-task : (d : ℕ) (a b : List ℕ) → Each (EntailsTask d a b) (task_of (entails d a b))
entails-task d a b = each-bind (read_all Faces a) (λ α e. each-bind (read_all Faces b) (λ β i. each-some (of α β e i)))

-- Theorem 5: an entails not refused by 1 to 7 says yes exactly when its meaning holds, 8 exactly when a dimension is not below d, and else 9, on every well-formed ledger.
pub entails-decided : (d : ℕ) (a b : List ℕ) (l : List ℕ) (L : List Step) → Holds l L → NotRefusedTo7 (reply (entails d a b) l).answer → DecidedReply d a b (reply (entails d a b) l)
entails-decided d a b l L h = go (passage (entails d a b) l L (read-ledger h))
  where
    go : {r : Reply} → Passage (entails d a b) l L r → NotRefusedTo7 r.answer → DecidedReply d a b r
    go (turned x i) u = absurd (omega (arith, u x refl))
    go (ran t e f p q) u = with-task (each_of (entails-task d a b) e) (each_of (task-good (entails d a b)) e p q (within (length l)) L) u
      where
        with-task : {t : Task} → EntailsTask d a b t → Good t.own L (run (within (length l)) t.program L) → NotRefusedTo7 (concluded l [] t.results (run (within (length l)) t.program L)).answer
            → DecidedReply d a b (concluded l [] t.results (run (within (length l)) t.program L))
        with-task (of α β i j) g u =
            let r = ended d α β h g (run-bounded (length l) (emit_entails d α β) L h.fits) (entails-decides (within (length l)) d α β L) u in
            record { left = α; goal = β; reads-left = i; reads-goal = j; steps = r.steps; holds = r.holds; decided = r.decided }

-- Theorem 7 -----------------------------------------------------------------------------------

-- An empty ledger holds no steps.
pub empty_holds : (n : ℕ) → 4 ≤ n → n ≤ max_ledger → Holds (empty n) []
unfolding ledger_bytes steps_bytes
empty_holds n p q =
    let m : length (empty n) ≡ n = length-replicate n 0 in
    let e : n ≡ suc (suc (suc (suc (length (empty n) - 4)))) = omega arith in
    record { bytes = ap (λ (k : ℕ). replicate k 0) e; fits = omega arith; small = omega arith; formed = tt }

-- A well-formed ledger whose steps all follow.
pub record Fine (l : List ℕ) : Type 0 where
  pub steps : List Step
  pub holds : Holds l steps
  pub valid : Valid steps

pub empty-fine : (n : ℕ) → 4 ≤ n → n ≤ max_ledger → Fine (empty n)
empty-fine n p q = record { steps = []; holds = empty_holds n p q; valid = valid-nil }

-- A call leaves such a ledger.
pub call-fine : (c : Call) {l : List ℕ} → Fine l → Fine (reply c l).ledger
call-fine c {l} f = let k = call-keeps c l f.steps f.holds in record { steps = k.steps; holds = k.holds; valid = k.valid f.valid }

-- The ledger after a list of calls, each of which gets it as the call before left it.
unfoldable pub after : List ℕ → List Call → List ℕ
after l [] = l
after l (c ∷ cs) = after (reply c l).ledger cs

after-fine : (cs : List Call) {l : List ℕ} → Fine l → Fine (after l cs)
unfolding after
after-fine [] f = f
after-fine (c ∷ cs) f = after-fine cs (call-fine c f)

-- A list of calls from an empty ledger of n bytes, in the model: the ledger after it is well formed and its steps follow, and each entails in it not refused by 1 to 7 is decided by what is the case.
pub record ModelCalls (n : ℕ) (cs : List Call) : Type 0 where
  pub fine : Fine (after (empty n) cs)
  pub entailments : (before rest : List Call) (d : ℕ) (a b : List ℕ) → cs ≡ before ++ entails d a b ∷ rest
      → NotRefusedTo7 (reply (entails d a b) (after (empty n) before)).answer → DecidedReply d a b (reply (entails d a b) (after (empty n) before))

-- Theorem 7, of the model; demand 3 itself is `demand-3` in the crate `demand`.
pub model-calls : (n : ℕ) → 4 ≤ n → n ≤ max_ledger → (cs : List Call) → ModelCalls n cs
model-calls n p q cs = record {
  fine = after-fine cs (empty-fine n p q);
  entailments = λ before rest d a b e. let f = after-fine before (empty-fine n p q) in entails-decided d a b (after (empty n) before) f.steps f.holds;
}
