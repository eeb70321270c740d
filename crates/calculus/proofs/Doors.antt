-- The calls on bytes: what they leave of a well-formed ledger, and what they answer when made again.
use mathlib.Core.Path.{◌≡◌, refl, sym, ◌∙◌, ap}
use mathlib.Core.Bool.{Bool, true, false, and-eq-true_iff}
use mathlib.Core.Option.{Option, none, some, none-ne-some, some-ne-none, some-injective}
use mathlib.Core.List.{List, [], ◌∷◌, map}
use Prim.Native.Nat.{ℕ, ◌≤◌, ◌<◌}
use native.Mathlib.Omega.{arith}
use borrow.Author.Tests.{leb-true}
use lib.ListN.{length}
use Rattle.formula.specs.declared.Sort.TheVariants.{Faces, Intervals}
use Rattle.formula.specs.Operations
use Rattle.formula.specs.Bytes.{max_nodes, max_bound, read_all}
use Rattle.calculus.specs.Judgement.{Step}
use Rattle.calculus.specs.Rules.{Valid}
use Rattle.calculus.specs.Record.{nodes_in, bound_in, few_nodes, low_bound, size, ledger_bytes, Holds}
use Rattle.calculus.specs.Parse.{read_ledger}
use Rattle.calculus.specs.Emit.{Failure, not-below, not-implied, Outcome, within, run}
use Rattle.refusals.specs.declared.Refusal.{Refusal}
use Rattle.refusals.specs.declared.Refusal.TheVariants.{IllFormedLedger, NotAFormula, FullLedger}
use Rattle.refusals.specs.Refusals.{number}
use Rattle.calculus.specs.Door
use Rattle.calculus.specs.Door.{Answer, Call, Item, item, Task, ◌>>=◌, end_of, task_of, outputs_of, Measure, measure, answered, refused, Reply, refuse, every, written, Question, ask, first_no, questions, failing, concluded, admitted, understood, reply}
use Rattle.calculus.specs.Demand.{Lowest}
use Rattle.calculus.proofs.Finding.{find-lowest}
use Rattle.calculus.proofs.Growing.{Extends, extends-refl, Grown, grown-extends, grown-valid, grown-formed, Good, claims, leaves, no_room}
use Rattle.calculus.proofs.Emitting.{interval-good, face-good, entails-good}
use Rattle.calculus.proofs.Calling.{boundary-good, endpoint-good, forall-good, transform-good}
use Rattle.calculus.proofs.Records.{ledger-length, read-ledger}
use Rattle.calculus.proofs.Repeating.{done-again, stopped-again}
use Rattle.calculus.proofs.Rooms.{Bounded, done-fits, stopped-fits, run-bounded}

-- The tests of questions 3 to 5 as inequalities -------------------------------------------------

abbrev pub ItemsKeep : List Item → Type 0
ItemsKeep [] = Unit {0}
ItemsKeep (item c x ∷ xs) = ((nodes_in c x ≤ max_nodes) × (bound_in c x ≤ max_bound)) × ItemsKeep xs

pub items_keep : (xs : List Item) → every few_nodes xs ≡ true → every low_bound xs ≡ true → ItemsKeep xs
items_keep [] p q = tt
items_keep (item c x ∷ xs) p q =
    let a = (and-eq-true_iff (few_nodes c x) (every few_nodes xs)).0 p in
    let b = (and-eq-true_iff (low_bound c x) (every low_bound xs)).0 q in
    ((leb-true (nodes_in c x) max_nodes a.0, leb-true (bound_in c x) max_bound b.0), items_keep xs a.1 b.1)

-- What holds of an option's value, if it has one.
pub data Each {A : Type 0} (P : A → Type 0) : Option A → Type 0 where
  each_none : Each P none
  each-some : {a : A} → P a → Each P (some a)

pub each-bind : {A B : Type 0} {Q : B → Type 0} {k : A → Option B} (o : Option A) → ((a : A) → o ≡ some a → Each Q (k a)) → Each Q (o >>= k)
each-bind none h = each_none
each-bind (some a) h = h a refl

pub each_of : {A : Type 0} {P : A → Type 0} {o : Option A} {a : A} → Each P o → o ≡ some a → P a
each_of {a} each_none e = absurd (none-ne-some a e)
each_of {a} (each-some {a = b} p) e = rw (some-injective b a e) at p

-- A task whose operands and results keep the limits runs well.
abbrev pub RunsWell : Task → Type 0
RunsWell t = ItemsKeep t.operands → ItemsKeep t.results → (room : List Step → Bool) (L : List Step) → Good t.own L (run room t.program L)

pub task-good : (c : Call) → Each RunsWell (task_of c)
task-good (Door.face d f) = each-bind (read_all Faces f) (λ φ e. each-some (λ p q room. face-good room d φ (omega arith) (omega arith) (omega arith)))
task-good (Door.interval d r) = each-bind (read_all Intervals r) (λ ρ i. each-some (λ p q room. interval-good room d ρ (omega arith) (omega arith) (omega arith)))
task-good (Door.boundary r out₀ out₁) = each-bind (read_all Intervals r) (λ ρ i. each-some (λ p q room. boundary-good room ρ p.0))
task-good (Door.endpoint d phi r one) =
    each-bind (read_all Faces phi) (λ φ e. each-bind (read_all Intervals r) (λ ρ i. each-some (λ p q room.
    endpoint-good room d φ ρ (end_of one) (omega arith) p.1.0 p.1.1.0)))
task-good (Door.forall f k out) = each-bind (read_all Faces f) (λ φ e. each-some (λ p q room. forall-good room k φ (omega arith) p.0))
task-good (Door.shift s t k out) = each-bind (read_all s t) (λ τ e. each-some (λ p q room. transform-good room s (Operations.shift k) τ (omega arith) p.0 q.0))
task-good (Door.substitute s t k r out) =
    each-bind (read_all s t) (λ τ e. each-bind (read_all Intervals r) (λ ρ i. each-some (λ p q room.
    transform-good room s (Operations.subst k ρ) τ (omega arith, p.1.1.0) p.0 q.0)))
task-good (Door.entails d a b) =
    each-bind (read_all Faces a) (λ α e. each-bind (read_all Faces b) (λ β i. each-some (λ p q room.
    entails-good room d α β (omega arith) (omega arith) (omega arith) (omega arith) (omega arith))))

-- How a reply comes about ---------------------------------------------------------------------------

-- A call on bytes that hold L: turned away with every byte unchanged, or run with operands and results that keep the limits.
pub data Passage (c : Call) (l : List ℕ) (L : List Step) : Reply → Type 0 where
  turned : (r : Refusal) → number r < 7 → Passage c l L (refuse r l (outputs_of c))
  ran : (t : Task) → task_of c ≡ some t → first_no (questions t (outputs_of c)) ≡ none → ItemsKeep t.operands → ItemsKeep t.results
      → Passage c l L (concluded l (outputs_of c) t.results (run (within (length l)) t.program L))

-- Where no question is answered no, each is answered yes; where one is, the refusal is among theirs.
abbrev pub AllYes : List Question → Type 0
AllYes [] = Unit {0}
AllYes (ask b r ∷ qs) = (b ≡ true) × AllYes qs

abbrev AllEarly : List Question → Type 0
AllEarly [] = Unit {0}
AllEarly (ask b r ∷ qs) = (number r < 7) × AllEarly qs

pub all_yes : (qs : List Question) → first_no qs ≡ none → AllYes qs
all_yes [] e = tt
all_yes (ask true r ∷ qs) e = (refl, all_yes qs e)
all_yes (ask false r ∷ qs) e = absurd (some-ne-none r e)

first-early : (qs : List Question) → AllEarly qs → (r : Refusal) → first_no qs ≡ some r → number r < 7
first-early [] h r e = absurd (none-ne-some r e)
first-early (ask true x ∷ qs) h r e = first-early qs h.1 r e
first-early (ask false x ∷ qs) h r e = rw (some-injective x r e) at h.0

-- Questions 3 to 6.
admitted-passage : (c : Call) (l : List ℕ) (L : List Step) (t : Task) → task_of c ≡ some t → (o : Option Refusal) → first_no (questions t (outputs_of c)) ≡ o
    → Passage c l L (admitted l (outputs_of c) L t o)
admitted-passage c l L t e none n =
    let y = all_yes (questions t (outputs_of c)) n in
    let z = (and-eq-true_iff (every few_nodes t.results) (every low_bound t.results)).0 (cc) in
    ran t e n (items_keep t.operands (cc) (cc)) (items_keep t.results z.0 z.1)
admitted-passage c l L t e (some r) n = turned r (first-early (questions t (outputs_of c)) (omega arith) r n)

understood-passage : (c : Call) (l : List ℕ) (L : List Step) (o : Option Task) → task_of c ≡ o → Passage c l L (understood l (outputs_of c) L o)
understood-passage c l L none e = turned NotAFormula (omega arith)
understood-passage c l L (some t) e = admitted-passage c l L t e (first_no (questions t (outputs_of c))) refl

pub passage : (c : Call) (l : List ℕ) (L : List Step) → read_ledger l ≡ some L → Passage c l L (reply c l)
unfolding reply
passage c l L e = rw e (understood-passage c l L (task_of c) refl)

-- The reply by the first question that is answered no.
pub unreadable : (c : Call) (l : List ℕ) → read_ledger l ≡ none → reply c l ≡ refuse IllFormedLedger l (outputs_of c)
unfolding reply
unreadable c l e = rw e

pub not-read : (c : Call) (l : List ℕ) (L : List Step) → read_ledger l ≡ some L → task_of c ≡ none → reply c l ≡ refuse NotAFormula l (outputs_of c)
unfolding reply
not-read c l L e f = rw (e, f)

pub turned-away : (c : Call) (t : Task) (r : Refusal) (l : List ℕ) (L : List Step) → read_ledger l ≡ some L → task_of c ≡ some t → first_no (questions t (outputs_of c)) ≡ some r
    → reply c l ≡ refuse r l (outputs_of c)
unfolding reply
turned-away c t r l L e f g = rw (e, f, g)

pub comes-to-run : (c : Call) (t : Task) (l : List ℕ) (L : List Step) → read_ledger l ≡ some L → task_of c ≡ some t → first_no (questions t (outputs_of c)) ≡ none
    → reply c l ≡ concluded l (outputs_of c) t.results (run (within (length l)) t.program L)
unfolding reply
comes-to-run c t l L e f g = rw (e, f, g)

-- Theorem 4 -------------------------------------------------------------------------------------------

-- What a call leaves of a ledger that holds L.
pub record Keeping (c : Call) (l : List ℕ) (L : List Step) (r : Reply) : Type 0 where
  -- The ledger after it is well formed, extends what was there, and is valid if that was.
  pub steps : List Step
  pub holds : Holds r.ledger steps
  pub extends : Extends L steps
  pub valid : Valid L → Valid steps
  -- A refusal other than 8 and 9 leaves every byte, and those two the outputs.
  pub unchanged : (x : Refusal) → r.answer ≡ refused x → number x ≤ 7 → r.ledger ≡ l
  pub unwritten : (x : Refusal) → r.answer ≡ refused x → r.outputs ≡ outputs_of c
  -- A number that is answered is the lowest of a step with the call's own judgement, and the outputs begin with the results.
  pub own : (n : ℕ) (ms : List Measure) → r.answer ≡ answered n ms
      → (t : Task) × (task_of c ≡ some t) × Lowest t.own steps n × (ms ≡ map measure t.results) × (r.outputs ≡ written t.results (outputs_of c))

-- The bytes of a ledger that has grown and fits.
pub grown-holds : {l : List ℕ} {L M : List Step} → Holds l L → Grown L M → size M ≤ length l → Holds (ledger_bytes (length l) M) M
grown-holds {l} {L} {M} h g f =
    let e = ledger-length (length l) M f in
    record { bytes = ap (λ (n : ℕ). ledger_bytes n M) (sym e); fits = omega arith; small = omega (arith, h.small); formed = grown-formed g h.formed }

-- An answer is no refusal, and the refusals for a failure are 8 and 9.
pub answer-no-refusal : {A : Type 0} {n : ℕ} {ms : List Measure} {x : Refusal} → answered n ms ≡ refused x → A
answer-no-refusal e = absurd (let z : ◌≡◌ {A = ℕ} 0 1 = cc in omega arith)

pub failure-late : (e : Failure) → 7 < number (failing e)
failure-late not-below = omega arith
failure-late not-implied = omega arith

refused_as : {x y : Refusal} → refused x ≡ refused y → x ≡ y
refused_as e = cc

concluded-keeping : (c : Call) (t : Task) → task_of c ≡ some t → {l : List ℕ} {L : List Step} → Holds l L → {o : Outcome} → Good t.own L o → Bounded (length l) o
    → Keeping c l L (concluded l (outputs_of c) t.results o)
concluded-keeping c t e h (claims {n} {M} g f) (done-fits b) = record {
  steps = M;
  holds = grown-holds h g b;
  extends = grown-extends g;
  valid = grown-valid g;
  unchanged = λ x p. answer-no-refusal p;
  unwritten = λ x p. answer-no-refusal p;
  own = λ m ms p. let i : n ≡ m = cc in (t, e, rw i at (find-lowest t.own M n f), cc, refl);
}
concluded-keeping c t e h (leaves {e = x} {M} g) (stopped-fits b) = record {
  steps = M;
  holds = grown-holds h g b;
  extends = grown-extends g;
  valid = grown-valid g;
  unchanged = λ y p q. absurd (omega (arith, failure-late x, ap number (refused_as p)));
  unwritten = λ y p. refl;
  own = λ m ms p. answer-no-refusal (sym p);
}
concluded-keeping c t e {L = L} h no_room k = record {
  steps = L;
  holds = h;
  extends = extends-refl L;
  valid = λ v. v;
  unchanged = λ x p q. refl;
  unwritten = λ x p. refl;
  own = λ m ms p. answer-no-refusal (sym p);
}

passage-keeping : (c : Call) {l : List ℕ} {L : List Step} → Holds l L → {r : Reply} → Passage c l L r → Keeping c l L r
passage-keeping c {L = L} h (turned x b) = record {
  steps = L;
  holds = h;
  extends = extends-refl L;
  valid = λ v. v;
  unchanged = λ y p q. refl;
  unwritten = λ y p. refl;
  own = λ m ms p. answer-no-refusal (sym p);
}
passage-keeping c {l} {L} h (ran t e f p q) = concluded-keeping c t e h (each_of (task-good c) e p q (within (length l)) L) (run-bounded (length l) t.program L h.fits)

-- Theorem 4: each call, done, stopped or refused, takes a well-formed ledger to a well-formed ledger that extends it, valid if it was, and a number answered is the lowest of a step with the call's own judgement.
pub call-keeps : (c : Call) (l : List ℕ) (L : List Step) → Holds l L → Keeping c l L (reply c l)
call-keeps c l L h = passage-keeping c h (passage c l L (read-ledger h))

-- Theorem 6 -------------------------------------------------------------------------------------------

-- The answer is none of the refusals 1 to 7.
abbrev pub NotRefusedTo7 : Answer → Type 0
NotRefusedTo7 x = (r : Refusal) → x ≡ refused r → 7 < number r

-- The steps of a ledger's bytes.
same-steps : {l : List ℕ} {L M : List Step} → Holds l L → Holds l M → L ≡ M
same-steps {L} {M} h k = some-injective L M (sym (read-ledger h) ∙ read-ledger k)

-- The run made again, by how it ended at first.
ended-again : (outs : List (List ℕ)) (t : Task) {l l₂ : List ℕ} {L M N : List Step} → Holds l L → Holds l₂ N → Extends M N
    → {o : Outcome} → Good t.own L o → Bounded (length l) o → run (within (length l)) t.program L ≡ o → Holds (concluded l outs t.results o).ledger M
    → NotRefusedTo7 (concluded l outs t.results o).answer
    → concluded l₂ outs t.results (run (within (length l₂)) t.program N)
    ≡ record { answer = (concluded l outs t.results o).answer; ledger = l₂; outputs = (concluded l outs t.results o).outputs }
ended-again outs t {l} {l₂} {L} {M} {N} h h₂ x (claims {n} {M = O} g f) (done-fits b) e k u =
    let s : M ≡ O = same-steps k (grown-holds h g b) in
    rw (done-again (within (length l)) (within (length l₂)) t.program L O N n e (rw s at x), ← h₂.bytes)
ended-again outs t {l} {l₂} {L} {M} {N} h h₂ x (leaves {e = y} {M = O} g) (stopped-fits b) e k u =
    let s : M ≡ O = same-steps k (grown-holds h g b) in
    rw (stopped-again (within (length l)) (within (length l₂)) t.program L O N y e (rw s at x), ← h₂.bytes)
ended-again outs t h h₂ x no_room b e k u = absurd (omega (arith, u FullLedger refl))

-- Theorem 6: a call not refused by 1 to 7, made again on any ledger that extends the one it left, appends nothing and answers the same.
pub call-again : (c : Call) (l l₂ : List ℕ) (L M N : List Step) → Holds l L → Holds (reply c l).ledger M → Holds l₂ N → Extends M N
    → NotRefusedTo7 (reply c l).answer → reply c l₂ ≡ record { answer = (reply c l).answer; ledger = l₂; outputs = (reply c l).outputs }
call-again c l l₂ L M N h k h₂ x u = go (passage c l L (read-ledger h)) k u
  where
    go : {r : Reply} → Passage c l L r → Holds r.ledger M → NotRefusedTo7 r.answer → reply c l₂ ≡ record { answer = r.answer; ledger = l₂; outputs = r.outputs }
    go (turned y b) k u = absurd (omega (arith, u y refl))
    go (ran t e f p q) k u =
        comes-to-run c t l₂ N (read-ledger h₂) e f
        ∙ ended-again (outputs_of c) t h h₂ x (each_of (task-good c) e p q (within (length l)) L) (run-bounded (length l) t.program L h.fits) refl k u
