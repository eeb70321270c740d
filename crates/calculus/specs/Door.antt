-- The calls as functions from numbers and byte lists to an answer and byte lists (document 01, "Questions at the door").
use Rattle.std.specs.Prelude.{Bool, true, false, ◌&&◌, List, [], ◌∷◌, ◌++◌, map, ℕ, leb, length, drop}
use Rattle.std.proofs.Math.Option.{Option, none, some}
use Rattle.formula.specs.declared.Sort.{Sort}
use Rattle.formula.specs.declared.Sort.TheVariants.{Faces, Intervals}
use Rattle.formula.specs.Formula.{End, lo, hi, i0, i1}
use Rattle.formula.specs.Operations
use Rattle.formula.specs.Operations.{Op}
use Rattle.formula.specs.Bytes.{Tree, read_all}
use Rattle.calculus.specs.Judgement.{Judgement, Step}
use Rattle.calculus.specs.Record.{Field, number, index, formula, Value, field_bytes, nodes_in, bound_in, few_nodes, low_bound, ledger_bytes}
use Rattle.calculus.specs.Parse.{read_ledger}
use Rattle.calculus.specs.Emit.{Program, Failure, not-below, not-implied, Outcome, done, stopped, full, within, run}
use Rattle.calculus.specs.Calls.{side, emit_interval, emit_face, emit_entails, bounds, emit_boundary, emit_endpoint, foralls, emit_forall, transform, transforms, emit_transform}
use Rattle.refusals.specs.declared.Refusal.{Refusal}
use Rattle.refusals.specs.declared.Refusal.TheVariants.{IllFormedLedger, NotAFormula, TooManyNodes, LargeDimension, LargeResult, ShortOutput, FullLedger, NotBelow, NotImplied}

-- A call with its numbers, the bytes of its operands, and its output slices as they are before it.
pub data Call : Type 0 where
  face : (d : ℕ) (f : List ℕ) → Call
  interval : (d : ℕ) (r : List ℕ) → Call
  boundary : (r out₀ out₁ : List ℕ) → Call
  endpoint : (d : ℕ) (phi r : List ℕ) (one : Bool) → Call
  forall : (f : List ℕ) (k : ℕ) (out : List ℕ) → Call
  shift : (s : Sort) (t : List ℕ) (k : ℕ) (out : List ℕ) → Call
  substitute : (s : Sort) (t : List ℕ) (k : ℕ) (r out : List ℕ) → Call
  entails : (d : ℕ) (a b : List ℕ) → Call

-- A field with its value.
pub data Item : Type 0 where
  item : (c : Field) → Value c → Item

-- What a call does once its operands are read: the numbers and formulas that it was given, its resulting formulas, its own judgement, and its program.
pub record Task : Type 0 where
  pub operands : List Item
  pub results : List Item
  pub own : Judgement
  pub program : Program

-- One operand after another; nothing unless each is exactly one formula of its sort.
infixl 20 ◌>>=◌
abbrev pub ◌>>=◌ : {A B : Type 0} → Option A → (A → Option B) → Option B
none >>= k = none
some a >>= k = k a

-- The end that a call names: one or zero.
abbrev pub end_of : Bool → End
end_of true = hi
end_of false = lo

-- The task of a shift or a substitution of either sort, with what else it was given.
abbrev pub transform_task : (s : Sort) → List Item → Op → Tree s → Task
transform_task s others o t =
    record { operands = item (formula s) t ∷ others; results = item (formula s) (transform s o t) ∷ []; own = transforms s o t; program = emit_transform s o t }

-- Question 2 of a call, and its task.
abbrev pub task_of : Call → Option Task
task_of (face d f) = do
  φ ← read_all Faces f
  some (record { operands = item number d ∷ item (formula Faces) φ ∷ []; results = []; own = Judgement.face d φ; program = emit_face d φ })
task_of (interval d r) = do
  ρ ← read_all Intervals r
  some (record { operands = item number d ∷ item (formula Intervals) ρ ∷ []; results = []; own = Judgement.interval d ρ; program = emit_interval d ρ })
task_of (boundary r out₀ out₁) = do
  ρ ← read_all Intervals r
  some (record {
    operands = item (formula Intervals) ρ ∷ [];
    results = item (formula Faces) (Operations.boundary lo ρ) ∷ item (formula Faces) (Operations.boundary hi ρ) ∷ [];
    own = bounds ρ;
    program = emit_boundary ρ;
  })
task_of (endpoint d phi r one) = do
  φ ← read_all Faces phi
  ρ ← read_all Intervals r
  some (record {
    operands = item number d ∷ item (formula Faces) φ ∷ item (formula Intervals) ρ ∷ [];
    results = [];
    own = Judgement.local d φ ρ (side (end_of one) i0 i1);
    program = emit_endpoint d φ ρ (end_of one);
  })
task_of (forall f k out) = do
  φ ← read_all Faces f
  some (record {
    operands = item (formula Faces) φ ∷ item index k ∷ [];
    results = item (formula Faces) (Operations.forall k φ) ∷ [];
    own = foralls k φ;
    program = emit_forall k φ;
  })
task_of (shift s t k out) = do
  τ ← read_all s t
  some (transform_task s (item index k ∷ []) (Operations.shift k) τ)
task_of (substitute s t k r out) = do
  τ ← read_all s t
  ρ ← read_all Intervals r
  some (transform_task s (item index k ∷ item (formula Intervals) ρ ∷ []) (Operations.subst k ρ) τ)
task_of (entails d a b) = do
  α ← read_all Faces a
  β ← read_all Faces b
  some (record {
    operands = item number d ∷ item (formula Faces) α ∷ item (formula Faces) β ∷ [];
    results = [];
    own = Judgement.entails d α β;
    program = emit_entails d α β;
  })

-- The output slices of a call.
abbrev pub outputs_of : Call → List (List ℕ)
outputs_of (face d f) = []
outputs_of (interval d r) = []
outputs_of (boundary r out₀ out₁) = out₀ ∷ out₁ ∷ []
outputs_of (endpoint d phi r one) = []
outputs_of (forall f k out) = out ∷ []
outputs_of (shift s t k out) = out ∷ []
outputs_of (substitute s t k r out) = out ∷ []
outputs_of (entails d a b) = []

-- What is answered of a result: how many bytes and nodes it has, and its bound.
pub record Measure : Type 0 where
  pub bytes : ℕ
  pub nodes : ℕ
  pub bound : ℕ

-- The measure of a result.
abbrev pub measure : Item → Measure
measure (item c x) = record { bytes = length (field_bytes c x); nodes = nodes_in c x; bound = bound_in c x }

-- An answer: a step number with the measures of the results, or a refusal.
pub data Answer : Type 0 where
  answered : ℕ → List Measure → Answer
  refused : Refusal → Answer

-- The answer of a call, and the ledger and the output slices after it.
pub record Reply : Type 0 where
  pub answer : Answer
  pub ledger : List ℕ
  pub outputs : List (List ℕ)

-- A refusal that leaves every byte unchanged.
abbrev pub refuse : Refusal → List ℕ → List (List ℕ) → Reply
refuse r l outs = record { answer = refused r; ledger = l; outputs = outs }

-- Does every item pass the test?
abbrev pub every : ((c : Field) → Value c → Bool) → List Item → Bool
every t [] = true
every t (item c x ∷ xs) = t c x && every t xs

-- Is each output slice long enough for its result?
abbrev pub long_enough : List Item → List (List ℕ) → Bool
long_enough [] outs = true
long_enough (item c x ∷ rs) [] = false
long_enough (item c x ∷ rs) (out ∷ outs) = leb (length (field_bytes c x)) (length out) && long_enough rs outs

-- The first bytes of each output slice are its result, the others as they were.
abbrev pub written : List Item → List (List ℕ) → List (List ℕ)
written [] outs = outs
written (item c x ∷ rs) [] = []
written (item c x ∷ rs) (out ∷ outs) = (field_bytes c x ++ drop (length (field_bytes c x)) out) ∷ written rs outs

-- A question with its refusal.
pub data Question : Type 0 where
  ask : Bool → Refusal → Question

-- The refusal of a question that is answered no, else what comes of the others.
abbrev pub first : Bool → Refusal → Option Refusal → Option Refusal
first true r o = o
first false r o = some r

-- The first no decides.
abbrev pub first_no : List Question → Option Refusal
first_no [] = none
first_no (ask b r ∷ qs) = first b r (first_no qs)

-- Questions 3 to 6, each asked of all that it concerns.
abbrev pub questions : Task → List (List ℕ) → List Question
questions t outs =
    ask (every few_nodes t.operands) TooManyNodes ∷
    ask (every low_bound t.operands) LargeDimension ∷
    ask (every few_nodes t.results && every low_bound t.results) LargeResult ∷
    ask (long_enough t.results outs) ShortOutput ∷
    []

-- The refusal of a call that stops.
abbrev pub failing : Failure → Refusal
failing not-below = NotBelow
failing not-implied = NotImplied

-- Questions 7 to 9: how the run ended. 7 leaves every byte, 8 and 9 the steps and the outputs unwritten.
abbrev pub concluded : List ℕ → List (List ℕ) → List Item → Outcome → Reply
concluded l outs rs (done n M) = record { answer = answered n (map measure rs); ledger = ledger_bytes (length l) M; outputs = written rs outs }
concluded l outs rs (stopped e M) = record { answer = refused (failing e); ledger = ledger_bytes (length l) M; outputs = outs }
concluded l outs rs full = refuse FullLedger l outs

-- After questions 3 to 6.
abbrev pub admitted : List ℕ → List (List ℕ) → List Step → Task → Option Refusal → Reply
admitted l outs L t (some r) = refuse r l outs
admitted l outs L t none = concluded l outs t.results (run (within (length l)) t.program L)

-- After question 2.
abbrev pub understood : List ℕ → List (List ℕ) → List Step → Option Task → Reply
understood l outs L none = refuse NotAFormula l outs
understood l outs L (some t) = admitted l outs L t (first_no (questions t outs))

-- After question 1.
abbrev pub opened : List ℕ → List (List ℕ) → Option Task → Option (List Step) → Reply
opened l outs t none = refuse IllFormedLedger l outs
opened l outs t (some L) = understood l outs L t

-- A call on a ledger's bytes.
unfoldable pub reply : Call → List ℕ → Reply
reply c l = opened l (outputs_of c) (task_of c) (read_ledger l)
