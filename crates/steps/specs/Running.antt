-- A program's run on a ledger's bytes: the answer and the bytes are those of the model's outcome.
use Rattle.std.specs.Prelude.{◌≡◌, Bool, true, false, List, ◌++◌, ℕ, length, take, Result, Ok, Err}
use Rattle.calculus.specs.Judgement.{Step}
use Rattle.calculus.specs.Record.{FormedStep, Holds}
use Rattle.calculus.specs.Emit.{Failure, not-below, not-implied, Program, emit, Outcome, done, stopped, full, within, run}
use Rattle.calculus.specs.Calls.{Order, less, at_most}
use Rattle.ledger.specs.Ledger.{steps_of}
use Rattle.emission.specs.Emitting.{StandsFor}
use Rattle.index.specs.Index.{Indexed}
use Rattle.steps.specs.declared.Stop.{Stop}
use Rattle.steps.specs.declared.Stop.TheVariants.{NotBelow, NotImplied, Full}
use Rattle.steps.specs.declared.Order.{Order as Asked}
use Rattle.steps.specs.declared.Order.TheVariants.{Less, AtMost}

-- How a run ends: with the number of a step, by refusal 8 or 9, or out of room.
abbrev pub Ran : Type 0
Ran = Result ℕ Stop

-- Is a run done?
abbrev pub done_by : Ran → Bool
done_by (Ok n) = true
done_by (Err e) = false

-- The number of the step of a run that is done.
abbrev pub step_by : Ran → ℕ
step_by (Ok n) = n
step_by (Err e) = 0

-- How a failure is answered.
abbrev pub failed_by : Failure → Ran
failed_by not-below = Err NotBelow
failed_by not-implied = Err NotImplied

-- The bytes of a ledger and the numbers of its index.
pub record Book : Type 0 where
  pub bytes : List ℕ
  pub numbers : List ℕ

abbrev pub book : List ℕ → List ℕ → Book
book l x = record { bytes = l; numbers = x }

-- The numbers are the index of the ledger.
abbrev pub Kept : Book → Type 0
Kept l = Indexed l.bytes l.numbers

-- A ledger as long as l that holds these steps, with its index.
pub record Leaves (l : Book) (M : List Step) (l' : Book) : Type 0 where
  pub long : length l'.bytes ≡ length l.bytes
  pub holds : Holds l'.bytes M
  pub kept : Kept l'

-- A ledger that ran out of room: it holds the steps of l and more.
pub record Grew (l l' : Book) : Type 0 where
  pub more : List Step
  pub leaves : Leaves l (steps_of l.bytes ++ more) l'

-- The answer and the bytes of an outcome.
abbrev pub Ends : Book → Outcome → Ran → Book → Type 0
Ends l (done n M) r l' = (r ≡ Ok n) × Leaves l M l'
Ends l (stopped e M) r l' = (r ≡ failed_by e) × Leaves l M l'
Ends l full r l' = (r ≡ Err Full) × Grew l l'

-- The answer and the bytes of a program's run over the steps of l, with the room that l has.
pub record Runs (l : Book) (p : Program) (r : Ran) (l' : Book) : Type 0 where
  pub ends : Ends l (run (within (length l.bytes)) p (steps_of l.bytes)) r l'

-- The same of the bytes alone, with some index beside them.
pub record RunsOn (l : List ℕ) (p : Program) (r : Ran) (l' : List ℕ) : Type 0 where
  pub before : List ℕ
  pub after : List ℕ
  pub runs : Runs (book l before) p r (book l' after)

-- The emit rule for every step that the bytes stand for.
pub record Emits (l : Book) (kind : ℕ) (references operands : List ℕ) (r : Ran) (l' : Book) : Type 0 where
  pub rule : (s : Step) → FormedStep (length (steps_of l.bytes)) s → StandsFor s kind (take (length s.references) references) operands
      → Runs l (emit s.kind s.references s.judgement) r l'

-- The order of a comparison.
abbrev pub order_of : Asked → Order
order_of Less = less
order_of AtMost = at_most
