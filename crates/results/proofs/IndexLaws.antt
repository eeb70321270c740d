-- forall, shift and substitute: calls with an index and one result.
use Rattle.std.specs.Prelude.{Result, Err}
use mathlib.Core.Path.{◌≡◌, refl, ap, ap₂, ◌∙◌}
use mathlib.Core.Bool.{Bool, true, false, ◌&&◌}
use mathlib.Core.Option.{none, some}
use mathlib.Core.List.{List, [], ◌∷◌}
use Prim.Native.Nat.{ℕ, suc, ◌≤◌, ◌<◌}
use native.Mathlib.Omega.{arith}
use lib.Dec.{ltb, leb}
use lib.ListN.{length}
use borrow.Author.Tests.{ltb-true, ltb-false, le-leb, lt-leb}
use Rattle.formula.specs.declared.Sort.{Sort}
use Rattle.formula.specs.declared.Size.{Size}
use Rattle.formula.specs.declared.Sort.TheVariants.{Faces, Intervals}
use Rattle.operations.specs.declared.Op.{Op as Asked}
use Rattle.operations.specs.declared.Op.TheVariants.{DShift, DSubst}
use Rattle.formula.specs.Formula.{Face}
use Rattle.formula.specs.Operations
use Rattle.formula.specs.Operations.{shift, subst, transform}
use Rattle.formula.specs.Bytes.{Tree, read_all, nodes, bound, max_nodes, max_bound}
use Rattle.refusals.specs.Refusals.{of_one, of_two}
use Rattle.operations.specs.Results.{limited, foralled, transformed, Answered}
use Rattle.calculus.specs.Parse.{read_ledger}
use Rattle.calculus.specs.Record.{index, formula, few_nodes, low_bound}
use Rattle.calculus.specs.Calls.{foralls, emit_forall}
use Rattle.calculus.specs.Door
use Rattle.calculus.specs.Door.{Item, item, Task, transform_task, task_of, outputs_of, every}
use Rattle.calculus.proofs.Doors.{ItemsKeep}
use Rattle.ledger.specs.Ledger.{Led}
use Rattle.formula.specs.Answers.{tree_of}
use Rattle.steps.specs.Trees.{Known}
use Rattle.steps.proofs.TreeLaws.{read_known}
use Rattle.transforms.specs.Transforms.{op_of, KnownOp}
use Rattle.transforms.proofs.ImageLaws.{operand_known}
use Rattle.refusals.specs.declared.Refusal.{Refusal}
use Rattle.replies.specs.Replying.{said_one, Replies}
use Rattle.results.specs.Calls.{transform_call}
use Rattle.replies.specs.Asking.{ledger_gate, operand_gate, operands_gate}
use Rattle.replies.proofs.GateLaws.{OneOperand, one-shut, TwoOperands, two-shut}
use Rattle.results.proofs.ResultLaws.{Computed, computed, OneResult}

-- An index is low where it is below 255.
low-index : (k : ℕ) → leb (suc k) 255 ≡ ltb k 255
low-index k = go (ltb k 255) refl
  where
    go : (b : Bool) → ltb k 255 ≡ b → leb (suc k) 255 ≡ b
    go true e = le-leb (suc k) 255 (omega (arith, ltb-true k 255 e))
    go false e = lt-leb (suc k) 255 (omega (arith, ltb-false k 255 e))

swap : (a b : Bool) → (a && (b && true)) ≡ (b && a)
swap true true = refl
swap true false = refl
swap false true = refl
swap false false = refl

few-indexed : (s : Sort) (t : Tree s) (k : ℕ) → every few_nodes (item (formula s) t ∷ item index k ∷ []) ≡ leb (nodes s t) max_nodes
few-indexed s t k = swap (leb (nodes s t) max_nodes) true

low-indexed : (s : Sort) (t : Tree s) (k : ℕ) → every low_bound (item (formula s) t ∷ item index k ∷ []) ≡ (ltb k 255 && leb (bound s t) max_bound)
low-indexed s t k = swap (leb (bound s t) max_bound) (leb (suc k) 255) ∙ ap (λ (b : Bool). b && leb (bound s t) max_bound) (low-index k)

-- forall --------------------------------------------------------------------------------------------

abbrev pub forall_task : ℕ → Face → Task
forall_task k f = record { operands = item (formula Faces) f ∷ item index k ∷ []; results = item (formula Faces) (Operations.forall k f) ∷ []; own = foralls k f; program = emit_forall k f }

module _ (f : List ℕ) (k : ℕ) (out : List ℕ) where
  forall-reads : (t : Face) → read_all Faces f ≡ some t → task_of (Door.forall f k out) ≡ some (forall_task k t)
  forall-reads t e = rw e refl

  forall-ill : read_all Faces f ≡ none → task_of (Door.forall f k out) ≡ none
  forall-ill e = rw e refl

  forall-one : OneOperand (Door.forall f k out) Faces f (ltb k 255)
  forall-one = record { task = forall_task k; reads = forall-reads; ill = forall-ill; few = λ t. few-indexed Faces t k; lows = λ t. low-indexed Faces t k }

  pub forall-refused : (l : List ℕ) (e : Refusal) → ledger_gate (read_ledger l) (operand_gate Faces (read_all Faces f) (ltb k 255)) ≡ Err e → Replies (Door.forall f k out) l (said_one (Err e)) l (out ∷ [])
  forall-refused l e g = record { equal = one-shut forall-one l g }

  pub forall-result : {l : List ℕ} → Led l → Known Faces f → k < 255 → OneResult (Door.forall f k out) (forall_task k (tree_of Faces f)) Faces (Operations.forall k (tree_of Faces f)) out l
  forall-result d h i = record { results = refl; outputs = refl; reads = forall-reads (tree_of Faces f) (read_known h); keep = ((h.few, h.low), ((omega arith, i), tt)); led = d }

  pub forall-computed : {d d' : List ℕ} {r : Result Size Refusal} → Known Faces f → 1022 ≤ length d → Answered Faces (foralled k f) d r d' → Computed Faces (Operations.forall k (tree_of Faces f)) d' r
  unfolding foralled
  forall-computed h w a = computed Faces (Operations.forall k (tree_of Faces f)) (ap (of_one (λ t. limited Faces (Operations.forall k t))) (operand_known h)) w a

-- shift and substitute --------------------------------------------------------------------------------

-- What else a transformation is given.
abbrev others : Asked → List ℕ → List Item
others (DShift k) r = item index k ∷ []
others (DSubst k) r = item index k ∷ item (formula Intervals) (tree_of Intervals r) ∷ []

abbrev pub change_task : (s : Sort) → Asked → List ℕ → List ℕ → Task
change_task s o t r = transform_task s (others o r) (op_of o r) (tree_of s t)

module _ (s : Sort) (t r out : List ℕ) where
  change-reads : (o : Asked) → Known s t → KnownOp o r → task_of (transform_call s o t r out) ≡ some (change_task s o t r)
  change-reads (DShift k) h p = rw (read_known h) refl
  change-reads (DSubst k) h p = rw (read_known h, read_known p.1) refl

  change-outputs : (o : Asked) → outputs_of (transform_call s o t r out) ≡ out ∷ []
  change-outputs (DShift k) = refl
  change-outputs (DSubst k) = refl

  change-keep : (o : Asked) → Known s t → KnownOp o r → ItemsKeep (change_task s o t r).operands
  change-keep (DShift k) h p = ((h.few, h.low), ((omega arith, p), tt))
  change-keep (DSubst k) h p = ((h.few, h.low), ((omega arith, p.0), ((p.1.few, p.1.low), tt)))

  pub change-result : {l : List ℕ} (o : Asked) → Led l → Known s t → KnownOp o r → OneResult (transform_call s o t r out) (change_task s o t r) s (transform s (op_of o r) (tree_of s t)) out l
  change-result o d h p = record { results = refl; outputs = change-outputs o; reads = change-reads o h p; keep = change-keep o h p; led = d }

  change-kept : (o : Asked) → Known s t → KnownOp o r → transformed s o t r ≡ limited s (transform s (op_of o r) (tree_of s t))
  unfolding transformed
  change-kept (DShift k) h p = ap (of_one (λ x. limited s (transform s (shift k) x))) (operand_known h)
  change-kept (DSubst k) h p = ap₂ (of_two (λ x q. limited s (transform s (subst k q) x))) (operand_known h) (operand_known p.1)

  pub change-computed : {d d' : List ℕ} {x : Result Size Refusal} (o : Asked) → Known s t → KnownOp o r → 1022 ≤ length d → Answered s (transformed s o t r) d x d' → Computed s (transform s (op_of o r) (tree_of s t)) d' x
  change-computed o h p w a = computed s (transform s (op_of o r) (tree_of s t)) (change-kept o h p) w a

module _ (s : Sort) (t : List ℕ) (k : ℕ) where
  shift_one : (out : List ℕ) → OneOperand (Door.shift s t k out) s t (ltb k 255)
  shift_one out = record { task = transform_task s (item index k ∷ []) (shift k); reads = λ x e. rw e refl; ill = λ e. rw e refl; few = λ x. few-indexed s x k; lows = λ x. low-indexed s x k }

  pub shift-refused : (out l : List ℕ) (e : Refusal) → ledger_gate (read_ledger l) (operand_gate s (read_all s t) (ltb k 255)) ≡ Err e → Replies (Door.shift s t k out) l (said_one (Err e)) l (out ∷ [])
  shift-refused out l e g = record { equal = one-shut (shift_one out) l g }

  three : (a b c : Bool) → (a && (b && (c && true))) ≡ (b && (a && c))
  three true true true = refl
  three true true false = refl
  three true false c = refl
  three false true c = refl
  three false false c = refl

  substitute-two : (r out : List ℕ) → TwoOperands (Door.substitute s t k r out) s t Intervals r (ltb k 255)
  substitute-two r out = record {
    task = λ x q. transform_task s (item index k ∷ item (formula Intervals) q ∷ []) (subst k q) x;
    reads = λ x q e i. rw (e, i) refl;
    ill-left = λ e. rw e refl;
    ill-right = λ x e i. rw (e, i) refl;
    few = λ x q. three (leb (nodes s x) max_nodes) true (leb (nodes Intervals q) max_nodes);
    lows = λ x q. three (leb (bound s x) max_bound) (leb (suc k) 255) (leb (bound Intervals q) max_bound) ∙ ap (λ (b : Bool). b && (leb (bound s x) max_bound && leb (bound Intervals q) max_bound)) (low-index k);
  }

  pub substitute-refused : (r out l : List ℕ) (e : Refusal) → ledger_gate (read_ledger l) (operands_gate s (read_all s t) Intervals (read_all Intervals r) (ltb k 255)) ≡ Err e
      → Replies (Door.substitute s t k r out) l (said_one (Err e)) l (out ∷ [])
  substitute-refused r out l e g = record { equal = two-shut (substitute-two r out) l g }
