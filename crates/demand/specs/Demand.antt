-- Demand 3 (document 00), of calls and a desk that answer as `w` says.
use Rattle.std.specs.Prelude.{◌≡◌, ◌↔◌, ℕ, ◌≤◌, ◌<◌, length}
use Rattle.std.proofs.Math.Option.{some}
use mathlib.Core.List.{List, [], ◌∷◌, Memᴰ}
use Rattle.formula.specs.declared.Sort.TheVariants.{Faces}
use Rattle.formula.specs.Formula.{Face}
use Rattle.formula.specs.Bytes.{bound_face, read_all}
use Rattle.calculus.specs.Judgement
use Rattle.calculus.specs.Judgement.{Step}
use Rattle.calculus.specs.Rules.{AllBelow, judgement_at}
use Rattle.calculus.specs.Truth.{EntailsBelow, True}
use Rattle.calculus.specs.Record.{max_ledger}
use Rattle.calculus.specs.Parse.{read_ledger}
use Rattle.calculus.specs.Door.{Call, entails, reply}
use Rattle.calculus.specs.Desk.{DeskGives}
use Rattle.calculus.specs.Demand.{empty, Lowest}
use Rattle.demand.specs.Answering.{Answering}

-- A call in a list, with what it answered and what it left.
pub record Called (w : Answering) : Type 0 where
  pub call : Call
  pub answer : w.Answer
  pub ledger : List ℕ
  pub outputs : List (List ℕ)

-- The call was made on the ledger l: its answer and every lent byte after it are those of the calculus' reply. The contracts in src/ are this.
pub record Says (w : Answering) (l : List ℕ) (c : Called w) : Type 0 where
  pub answer : c.answer ≡ w.answer (reply c.call l).answer
  pub ledger : c.ledger ≡ (reply c.call l).ledger
  pub outputs : c.outputs ≡ (reply c.call l).outputs

-- A list of calls from a ledger to the ledger after it, each made on the ledger that the call before it left.
pub data Trace (w : Answering) : List ℕ → List (Called w) → List ℕ → Type 0 where
  none : {l : List ℕ} → Trace w l [] l
  then : {l l' : List ℕ} {c : Called w} {cs : List (Called w)} → Says w l c → Trace w c.ledger cs l' → Trace w l (c ∷ cs) l'

-- The bytes are a ledger of n steps, and each judgement in it is true.
pub record TrueSteps (l : List ℕ) (n : ℕ) : Type 0 where
  pub steps : List Step
  pub reads : read_ledger l ≡ some steps
  pub count : length steps ≡ n
  pub truth : (i : ℕ) → i < n → True (judgement_at steps i)

-- The answer x of an entails with d and the bytes a and b, which left the ledger l, is right: yes exactly when its meaning holds, with the lowest number of such a step; 8 exactly when a dimension is not below d; else 9.
pub record Right (w : Answering) (d : ℕ) (a b : List ℕ) (x : w.Answer) (l : List ℕ) : Type 0 where
  pub left : Face
  pub goal : Face
  pub reads-left : read_all Faces a ≡ some left
  pub reads-goal : read_all Faces b ≡ some goal
  pub steps : List Step
  pub reads-steps : read_ledger l ≡ some steps
  pub yes_iff : ((n : ℕ) × w.Yes n x) ↔ EntailsBelow d left goal
  pub lowest : (n : ℕ) → w.Yes n x → Lowest (Judgement.entails d left goal) steps n
  pub 8-iff : w.Refused 8 x ↔ (bound_face left ≤ d → bound_face goal ≤ d → ⊥)
  pub else-9 : (EntailsBelow d left goal → ⊥) → (w.Refused 8 x → ⊥) → w.Refused 9 x

-- The answer is none of the refusals 1 to 7.
abbrev pub NotRefusedTo7 : (w : Answering) → w.Answer → Type 0
NotRefusedTo7 w x = (q : ℕ) → 1 ≤ q → q ≤ 7 → w.Refused q x → ⊥

-- What is demanded of a list of calls that left the ledger l: it passes the desk, each judgement in it is true, and each entails in the list not refused by 1 to 7 is right.
pub record OfCalls (w : Answering) (cs : List (Called w)) (l : List ℕ) : Type 0 where
  pub desk : (v : w.Verdict) → DeskGives w.verdict l v → (n : ℕ) × w.Passed n v × TrueSteps l n
  pub entailments : (c : Called w) → Memᴰ c cs → (d : ℕ) (a b : List ℕ) → c.call ≡ entails d a b → NotRefusedTo7 w c.answer → Right w d a b c.answer c.ledger

-- Demand 3: where the desk passes any bytes each judgement in them is true, and every list of calls from an empty ledger of any length that question 1 allows does what is demanded.
pub record Demand3 (w : Answering) : Type 0 where
  pub passed-true : (l : List ℕ) → AllBelow 256 l → (v : w.Verdict) (n : ℕ) → DeskGives w.verdict l v → w.Passed n v → TrueSteps l n
  pub of_calls : (n : ℕ) → 4 ≤ n → n ≤ max_ledger → (cs : List (Called w)) (l : List ℕ) → Trace w (empty n) cs l → OfCalls w cs l
