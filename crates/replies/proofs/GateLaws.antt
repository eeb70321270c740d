-- Questions 1 to 4 as the gates answer them, and the replies of the model.
use Rattle.std.specs.Prelude.{Result, Ok, Err}
use mathlib.Core.Path.{◌≡◌, refl, sym, ap, ap₂, ◌∙◌}
use mathlib.Core.Bool.{Bool, true, false, ◌&&◌, and-eq-true_iff}
use mathlib.Core.Option.{Option, none, some}
use mathlib.Core.List.{List}
use Prim.Native.Nat.{ℕ, max}
use native.Mathlib.Omega.{arith}
use lib.Dec.{leb}
use borrow.Author.Tests.{leb-true, leb-false, le-leb, lt-leb}
use Rattle.formula.specs.declared.Sort.{Sort}
use Rattle.formula.specs.Answers.{size_read, measurement}
use Rattle.formula.specs.declared.Size.{Size}
use Rattle.formula.specs.Bytes.{Tree, read_all, nodes, bound, max_nodes, max_bound}
use Rattle.formula.proofs.Reading.{encode-read_all}
use Rattle.calculus.specs.Judgement.{Step}
use Rattle.calculus.specs.Rules.{AllBelow}
use Rattle.calculus.specs.Record.{few_nodes, low_bound}
use Rattle.calculus.specs.Parse.{read_ledger}
use Rattle.refusals.specs.declared.Refusal.{Refusal}
use Rattle.refusals.specs.declared.Refusal.TheVariants.{IllFormedLedger, NotAFormula, TooManyNodes, LargeDimension}
use Rattle.calculus.specs.Door.{Call, Task, task_of, outputs_of, every, refuse, reply}
use Rattle.calculus.proofs.Doors.{unreadable, not-read, turned-away}
use Rattle.calculus.proofs.Records.{ledger-read}
use Rattle.ledger.specs.Ledger.{Led}
use Rattle.ledger.proofs.LedgerLaws.{holds-led}
use Rattle.steps.specs.Trees.{Known}
use Rattle.steps.proofs.TreeLaws.{known}
use Rattle.replies.specs.Asking.{Gate, limits_gate, ledger_gate, operand_gate, operands_gate}

-- A number is at least both where it is at least the larger.
pub leb-max : (a b n : ℕ) → leb (max a b) n ≡ (leb a n && leb b n)
leb-max a b n = go (leb a n) (leb b n) refl refl
  where
    go : (x y : Bool) → leb a n ≡ x → leb b n ≡ y → leb (max a b) n ≡ (x && y)
    go true true p q = le-leb (max a b) n (omega (arith, leb-true a n p, leb-true b n q))
    go true false p q = lt-leb (max a b) n (omega (arith, leb-false b n q))
    go false y p q = lt-leb (max a b) n (omega (arith, leb-false a n p))

shut-same : {x y : Refusal} → ◌≡◌ {A = Gate} (Err x) (Err y) → x ≡ y
shut-same e = cc

open-shut : {A : Type 0} {x : Refusal} → ◌≡◌ {A = Gate} (Ok tt) (Err x) → A
open-shut e = absurd (let z : ◌≡◌ {A = ℕ} 0 1 = cc in omega arith)

shut_open : {A : Type 0} {x : Refusal} → ◌≡◌ {A = Gate} (Err x) (Ok tt) → A
shut_open e = open-shut (sym e)

-- The refusal that was found is the model's.
refused_as : (c : Call) (l : List ℕ) (x : Refusal) {e : Refusal} → ◌≡◌ {A = Gate} (Err x) (Err e) → reply c l ≡ refuse x l (outputs_of c) → reply c l ≡ refuse e l (outputs_of c)
refused_as c l x h p = p ∙ ap (λ (y : Refusal). refuse y l (outputs_of c)) (shut-same h)

limits-shut : (c : Call) (t : Task) (l : List ℕ) (L : List Step) (e : Refusal) → read_ledger l ≡ some L → task_of c ≡ some t → (x y : Bool) → every few_nodes t.operands ≡ x → every low_bound t.operands ≡ y
    → limits_gate x y ≡ Err e → reply c l ≡ refuse e l (outputs_of c)
limits-shut c t l L e h i true true p q g = open-shut g
limits-shut c t l L e h i true false p q g = refused_as c l LargeDimension g (turned-away c t LargeDimension l L h i (rw (p, q)))
limits-shut c t l L e h i false y p q g = refused_as c l TooManyNodes g (turned-away c t TooManyNodes l L h i (rw p))

limits_open : (x y : Bool) → limits_gate x y ≡ Ok tt → (x ≡ true) × (y ≡ true)
limits_open true true g = (refl, refl)
limits_open true false g = shut_open g
limits_open false y g = shut_open g

-- Bytes that read as a formula within the limits are known.
known_read : (s : Sort) (f : List ℕ) (t : Tree s) → read_all s f ≡ some t → leb (nodes s t) max_nodes ≡ true → leb (bound s t) max_bound ≡ true → Known s f
known_read s f t e p q = known (record { bytes = encode-read_all s f t e; few = leb-true (nodes s t) max_nodes p; low = leb-true (bound s t) max_bound q })

-- A call with one formula, and a number that is low or not.
pub record OneOperand (c : Call) (s : Sort) (f : List ℕ) (low : Bool) : Type 0 where
  pub task : Tree s → Task
  pub reads : (t : Tree s) → read_all s f ≡ some t → task_of c ≡ some (task t)
  pub ill : read_all s f ≡ none → task_of c ≡ none
  pub few : (t : Tree s) → every few_nodes (task t).operands ≡ leb (nodes s t) max_nodes
  pub lows : (t : Tree s) → every low_bound (task t).operands ≡ (low && leb (bound s t) max_bound)

pub one-shut : {c : Call} {s : Sort} {f : List ℕ} {low : Bool} → OneOperand c s f low → (l : List ℕ) {e : Refusal} → ledger_gate (read_ledger l) (operand_gate s (read_all s f) low) ≡ Err e
    → reply c l ≡ refuse e l (outputs_of c)
one-shut {c} {s} {f} {low} w l {e} g = go (read_ledger l) refl (read_all s f) refl g
  where
    go : (o : Option (List Step)) → read_ledger l ≡ o → (p : Option (Tree s)) → read_all s f ≡ p → ledger_gate o (operand_gate s p low) ≡ Err e → reply c l ≡ refuse e l (outputs_of c)
    go none h p i g = refused_as c l IllFormedLedger g (unreadable c l h)
    go (some L) h none i g = refused_as c l NotAFormula g (not-read c l L h (w.ill i))
    go (some L) h (some t) i g = limits-shut c (w.task t) l L e h (w.reads t i) (leb (nodes s t) max_nodes) (low && leb (bound s t) max_bound) (w.few t) (w.lows t) g

pub one-open : (s : Sort) (f l : List ℕ) (low : Bool) → AllBelow 256 l → ledger_gate (read_ledger l) (operand_gate s (read_all s f) low) ≡ Ok tt → Led l × Known s f × (low ≡ true)
one-open s f l low a g = go (read_ledger l) refl (read_all s f) refl g
  where
    go : (o : Option (List Step)) → read_ledger l ≡ o → (p : Option (Tree s)) → read_all s f ≡ p → ledger_gate o (operand_gate s p low) ≡ Ok tt → Led l × Known s f × (low ≡ true)
    go none h p i g = shut_open g
    go (some L) h none i g = shut_open g
    go (some L) h (some t) i g =
        let x = limits_open (leb (nodes s t) max_nodes) (low && leb (bound s t) max_bound) g in
        let y = (and-eq-true_iff low (leb (bound s t) max_bound)).0 x.1 in
        (holds-led (ledger-read l L a h), known_read s f t i x.0 y.1, y.0)

-- The same with two formulas.
pub record TwoOperands (c : Call) (s : Sort) (f : List ℕ) (z : Sort) (g : List ℕ) (low : Bool) : Type 0 where
  pub task : Tree s → Tree z → Task
  pub reads : (t : Tree s) (u : Tree z) → read_all s f ≡ some t → read_all z g ≡ some u → task_of c ≡ some (task t u)
  pub ill-left : read_all s f ≡ none → task_of c ≡ none
  pub ill-right : (t : Tree s) → read_all s f ≡ some t → read_all z g ≡ none → task_of c ≡ none
  pub few : (t : Tree s) (u : Tree z) → every few_nodes (task t u).operands ≡ (leb (nodes s t) max_nodes && leb (nodes z u) max_nodes)
  pub lows : (t : Tree s) (u : Tree z) → every low_bound (task t u).operands ≡ (low && (leb (bound s t) max_bound && leb (bound z u) max_bound))

pub two-shut : {c : Call} {s z : Sort} {f g : List ℕ} {low : Bool} → TwoOperands c s f z g low → (l : List ℕ) {e : Refusal} → ledger_gate (read_ledger l) (operands_gate s (read_all s f) z (read_all z g) low) ≡ Err e
    → reply c l ≡ refuse e l (outputs_of c)
two-shut {c} {s} {z} {f} {g} {low} w l {e} k = go (read_ledger l) refl (read_all s f) refl (read_all z g) refl k
  where
    go : (o : Option (List Step)) → read_ledger l ≡ o → (p : Option (Tree s)) → read_all s f ≡ p → (q : Option (Tree z)) → read_all z g ≡ q → ledger_gate o (operands_gate s p z q low) ≡ Err e
        → reply c l ≡ refuse e l (outputs_of c)
    go none h p i q j k = refused_as c l IllFormedLedger k (unreadable c l h)
    go (some L) h none i q j k = refused_as c l NotAFormula k (not-read c l L h (w.ill-left i))
    go (some L) h (some t) i none j k = refused_as c l NotAFormula k (not-read c l L h (w.ill-right t i j))
    go (some L) h (some t) i (some u) j k =
        limits-shut c (w.task t u) l L e h (w.reads t u i j) (leb (nodes s t) max_nodes && leb (nodes z u) max_nodes) (low && (leb (bound s t) max_bound && leb (bound z u) max_bound)) (w.few t u) (w.lows t u) k

pub two-open : (s : Sort) (f : List ℕ) (z : Sort) (g l : List ℕ) (low : Bool) → AllBelow 256 l → ledger_gate (read_ledger l) (operands_gate s (read_all s f) z (read_all z g) low) ≡ Ok tt
    → Led l × Known s f × Known z g × (low ≡ true)
two-open s f z g l low a k = go (read_ledger l) refl (read_all s f) refl (read_all z g) refl k
  where
    go : (o : Option (List Step)) → read_ledger l ≡ o → (p : Option (Tree s)) → read_all s f ≡ p → (q : Option (Tree z)) → read_all z g ≡ q → ledger_gate o (operands_gate s p z q low) ≡ Ok tt
        → Led l × Known s f × Known z g × (low ≡ true)
    go none h p i q j k = shut_open k
    go (some L) h none i q j k = shut_open k
    go (some L) h (some t) i none j k = shut_open k
    go (some L) h (some t) i (some u) j k =
        let x = limits_open (leb (nodes s t) max_nodes && leb (nodes z u) max_nodes) (low && (leb (bound s t) max_bound && leb (bound z u) max_bound)) k in
        let n = (and-eq-true_iff (leb (nodes s t) max_nodes) (leb (nodes z u) max_nodes)).0 x.0 in
        let y = (and-eq-true_iff low (leb (bound s t) max_bound && leb (bound z u) max_bound)).0 x.1 in
        let b = (and-eq-true_iff (leb (bound s t) max_bound) (leb (bound z u) max_bound)).0 y.1 in
        (holds-led (ledger-read l L a h), known_read s f t i n.0 b.0, known_read z g u j n.1 b.1, y.0)

-- Questions 2 to 4 by what was measured.
abbrev pub size_gate : Bool → Result Size Refusal → Gate
size_gate low (Ok z) = limits_gate (leb z.nodes max_nodes) (low && leb z.bound max_bound)
size_gate low (Err e) = Err e

pub operand-by : (s : Sort) (f : List ℕ) (low : Bool) → size_gate low (measurement s f) ≡ operand_gate s (read_all s f) low
unfolding measurement
operand-by s f low = go (read_all s f)
  where
    go : (o : Option (Tree s)) → size_gate low (size_read s o) ≡ operand_gate s o low
    go none = refl
    go (some t) = refl

abbrev pub sizes_gate : Bool → Result Size Refusal → Result Size Refusal → Gate
sizes_gate low (Ok z) (Ok y) = limits_gate (leb (max z.nodes y.nodes) max_nodes) (low && leb (max z.bound y.bound) max_bound)
sizes_gate low (Ok z) (Err e) = Err e
sizes_gate low (Err e) m = Err e

pub operands-by : (s : Sort) (f : List ℕ) (z : Sort) (g : List ℕ) (low : Bool) → sizes_gate low (measurement s f) (measurement z g) ≡ operands_gate s (read_all s f) z (read_all z g) low
unfolding measurement
operands-by s f z g low = go (read_all s f) (read_all z g)
  where
    go : (o : Option (Tree s)) (p : Option (Tree z)) → sizes_gate low (size_read s o) (size_read z p) ≡ operands_gate s o z p low
    go none none = refl
    go none (some u) = refl
    go (some t) none = refl
    go (some t) (some u) = ap₂ (λ (x y : Bool). limits_gate x (low && y)) (leb-max (nodes s t) (nodes z u) max_nodes) (leb-max (bound s t) (bound z u) max_bound)
