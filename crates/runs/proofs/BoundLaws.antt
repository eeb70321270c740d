-- face and interval.
use Rattle.std.specs.Prelude.{Result, Err}
use mathlib.Core.Path.{◌≡◌, refl, ap, ◌∙◌, subst}
use mathlib.Core.Bool.{Bool, ◌&&◌, and-true}
use mathlib.Core.Option.{none, some}
use mathlib.Core.List.{List, [], ◌∷◌}
use Prim.Native.Nat.{ℕ, ◌≤◌}
use native.Mathlib.Omega.{arith}
use lib.Dec.{leb}
use Rattle.formula.specs.declared.Sort.{Sort}
use Rattle.formula.specs.declared.Sort.TheVariants.{Faces, Intervals}
use Rattle.formula.specs.Bytes.{Tree, read_all, nodes, bound, max_nodes, max_bound}
use Rattle.calculus.specs.Parse.{read_ledger}
use Rattle.calculus.specs.Record.{number, formula, size}
use Rattle.calculus.specs.Door.{item, Task, task_of, outputs_of}
use Rattle.ledger.specs.Ledger.{steps_of, Led}
use Rattle.steps.specs.Running.{Ran, RunsOn}
use Rattle.formula.specs.Answers.{tree_of}
use Rattle.steps.specs.Trees.{Known}
use Rattle.steps.proofs.TreeLaws.{read_known}
use Rattle.bounded_steps.specs.Programs.{bounded, emit_bounded}
use Rattle.refusals.specs.declared.Refusal.{Refusal}
use Rattle.replies.specs.Replying.{said, Replies}
use Rattle.runs.specs.Calls.{bounded_call}
use Rattle.replies.specs.Asking.{ledger_gate, operand_gate}
use Rattle.replies.specs.Ending.{Ending}
use Rattle.replies.proofs.GateLaws.{OneOperand, one-shut}
use Rattle.replies.proofs.ReplyLaws.{finished, replied, finished-none, refuses}

bounded_task : (s : Sort) → ℕ → Tree s → Task
bounded_task s d t = record { operands = item number d ∷ item (formula s) t ∷ []; results = []; own = bounded s d t; program = emit_bounded s d t }

bounded-reads : (s : Sort) (d : ℕ) (f : List ℕ) (t : Tree s) → read_all s f ≡ some t → task_of (bounded_call s d f) ≡ some (bounded_task s d t)
unfolding bounded_task
bounded-reads Faces d f t e = rw e refl
bounded-reads Intervals d f t e = rw e refl

bounded-ill : (s : Sort) (d : ℕ) (f : List ℕ) → read_all s f ≡ none → task_of (bounded_call s d f) ≡ none
bounded-ill Faces d f e = rw e refl
bounded-ill Intervals d f e = rw e refl

-- A call without outputs.
no-outputs : (s : Sort) (d : ℕ) (f : List ℕ) → outputs_of (bounded_call s d f) ≡ []
no-outputs Faces d f = refl
no-outputs Intervals d f = refl

bounded-one : (s : Sort) (d : ℕ) (f : List ℕ) → OneOperand (bounded_call s d f) s f (leb d 255)
unfolding bounded_task
bounded-one s d f = record {
  task = bounded_task s d;
  reads = bounded-reads s d f;
  ill = bounded-ill s d f;
  few = λ t. and-true (leb (nodes s t) max_nodes);
  lows = λ t. ap (λ (b : Bool). leb d 255 && b) (and-true (leb (bound s t) max_bound));
}

pub bounded-refused : (s : Sort) (d : ℕ) (f l : List ℕ) (e : Refusal) → ledger_gate (read_ledger l) (operand_gate s (read_all s f) (leb d 255)) ≡ Err e → Replies (bounded_call s d f) l (said (Err e)) l []
bounded-refused s d f l e g = subst (Replies (bounded_call s d f) l (said (Err e)) l) (no-outputs s d f) (refuses (bounded_call s d f) l e (one-shut (bounded-one s d f) l g))

pub bounded-replies : (s : Sort) (d : ℕ) {f l l₁ l₂ : List ℕ} {r : Ran} {end : ℕ} {a : Result ℕ Refusal} → Led l → Known s f → d ≤ 255 → RunsOn l (emit_bounded s d (tree_of s f)) r l₁ → end ≡ size (steps_of l) → Ending l₁ end r a l₂
    → Replies (bounded_call s d f) l (said a) l₂ []
unfolding bounded_task
bounded-replies s d {f} {l} {l₂ = l₂} {a = a} h k b run e n =
    record {
      equal =
          replied (bounded_call s d f) (bounded_task s d (tree_of s f)) l h (bounded-reads s d f (tree_of s f) (read_known k)) ((omega arith, b), ((k.few, k.low), tt)) tt refl run e n
          ∙ ap (λ (outs : List (List ℕ)). finished outs [] a l₂) (no-outputs s d f) ∙ finished-none a l₂;
    }
