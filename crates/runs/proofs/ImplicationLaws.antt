-- entails and endpoint: calls with a number and two formulas.
use Rattle.std.specs.Prelude.{Result, Err}
use mathlib.Core.Path.{◌≡◌, refl, ap, ◌∙◌}
use mathlib.Core.Bool.{Bool, ◌&&◌, and-true}
use mathlib.Core.List.{List, [], ◌∷◌}
use Prim.Native.Nat.{ℕ, ◌≤◌}
use native.Mathlib.Omega.{arith}
use lib.Dec.{leb}
use Rattle.formula.specs.declared.Sort.{Sort}
use Rattle.formula.specs.declared.Sort.TheVariants.{Faces, Intervals}
use Rattle.formula.specs.Formula.{Face, Interval, i0, i1}
use Rattle.formula.specs.Bytes.{Tree, read_all, nodes, bound, max_nodes, max_bound}
use Rattle.calculus.specs.Judgement
use Rattle.calculus.specs.Parse.{read_ledger}
use Rattle.calculus.specs.Record.{number, formula, size, few_nodes, low_bound}
use Rattle.calculus.specs.Calls.{side, emit_entails, emit_endpoint}
use Rattle.calculus.specs.Door
use Rattle.calculus.specs.Door.{item, Task, end_of, every}
use Rattle.ledger.specs.Ledger.{steps_of, Led}
use Rattle.steps.specs.Running.{Ran, RunsOn}
use Rattle.formula.specs.Answers.{tree_of}
use Rattle.steps.specs.Trees.{Known}
use Rattle.steps.proofs.TreeLaws.{read_known}
use Rattle.refusals.specs.declared.Refusal.{Refusal}
use Rattle.replies.specs.Replying.{said, Replies}
use Rattle.replies.specs.Asking.{ledger_gate, operands_gate}
use Rattle.replies.specs.Ending.{Ending}
use Rattle.replies.proofs.GateLaws.{TwoOperands, two-shut}
use Rattle.replies.proofs.ReplyLaws.{replied, finished-none}

module _ (d : ℕ) (s : Sort) (t : Tree s) (z : Sort) (u : Tree z) where
  numbered-few : every few_nodes (item number d ∷ item (formula s) t ∷ item (formula z) u ∷ []) ≡ (leb (nodes s t) max_nodes && leb (nodes z u) max_nodes)
  numbered-few = ap (λ (b : Bool). leb (nodes s t) max_nodes && b) (and-true (leb (nodes z u) max_nodes))

  numbered-low : every low_bound (item number d ∷ item (formula s) t ∷ item (formula z) u ∷ []) ≡ (leb d 255 && (leb (bound s t) max_bound && leb (bound z u) max_bound))
  numbered-low = ap (λ (b : Bool). leb d 255 && (leb (bound s t) max_bound && b)) (and-true (leb (bound z u) max_bound))

-- entails ---------------------------------------------------------------------------------------------

module _ (d : ℕ) (a b : List ℕ) where
  abbrev entails_task : Face → Face → Task
  entails_task f g = record { operands = item number d ∷ item (formula Faces) f ∷ item (formula Faces) g ∷ []; results = []; own = Judgement.entails d f g; program = emit_entails d f g }

  entails-two : TwoOperands (Door.entails d a b) Faces a Faces b (leb d 255)
  entails-two = record {
    task = entails_task;
    reads = λ f g e i. rw (e, i) refl;
    ill-left = λ e. rw e refl;
    ill-right = λ f e i. rw (e, i) refl;
    few = λ f g. numbered-few d Faces f Faces g;
    lows = λ f g. numbered-low d Faces f Faces g;
  }

  pub entails-refused : (l : List ℕ) (e : Refusal) → ledger_gate (read_ledger l) (operands_gate Faces (read_all Faces a) Faces (read_all Faces b) (leb d 255)) ≡ Err e → Replies (Door.entails d a b) l (said (Err e)) l []
  entails-refused l e g = record { equal = two-shut entails-two l g }

  pub entails-replies : {l l₁ l₂ : List ℕ} {r : Ran} {end : ℕ} {x : Result ℕ Refusal} → Led l → d ≤ 255 → Known Faces a → Known Faces b → RunsOn l (emit_entails d (tree_of Faces a) (tree_of Faces b)) r l₁ → end ≡ size (steps_of l)
      → Ending l₁ end r x l₂ → Replies (Door.entails d a b) l (said x) l₂ []
  unfolding entails-two
  entails-replies {l} {l₂ = l₂} {x = x} h n p q run e k =
      record {
        equal =
            replied (Door.entails d a b) (entails_task (tree_of Faces a) (tree_of Faces b)) l h (entails-two.reads (tree_of Faces a) (tree_of Faces b) (read_known p) (read_known q))
            ((omega arith, n), ((p.few, p.low), ((q.few, q.low), tt))) tt refl run e k
            ∙ finished-none x l₂;
      }

-- endpoint --------------------------------------------------------------------------------------------

module _ (d : ℕ) (phi r : List ℕ) (one : Bool) where
  abbrev endpoint_task : Face → Interval → Task
  endpoint_task f i = record {
    operands = item number d ∷ item (formula Faces) f ∷ item (formula Intervals) i ∷ [];
    results = [];
    own = Judgement.local d f i (side (end_of one) i0 i1);
    program = emit_endpoint d f i (end_of one);
  }

  endpoint-two : TwoOperands (Door.endpoint d phi r one) Faces phi Intervals r (leb d 255)
  endpoint-two = record {
    task = endpoint_task;
    reads = λ f g e i. rw (e, i) refl;
    ill-left = λ e. rw e refl;
    ill-right = λ f e i. rw (e, i) refl;
    few = λ f g. numbered-few d Faces f Intervals g;
    lows = λ f g. numbered-low d Faces f Intervals g;
  }

  pub endpoint-refused : (l : List ℕ) (e : Refusal) → ledger_gate (read_ledger l) (operands_gate Faces (read_all Faces phi) Intervals (read_all Intervals r) (leb d 255)) ≡ Err e
      → Replies (Door.endpoint d phi r one) l (said (Err e)) l []
  endpoint-refused l e g = record { equal = two-shut endpoint-two l g }

  pub endpoint-replies : {l l₁ l₂ : List ℕ} {x : Ran} {end : ℕ} {a : Result ℕ Refusal} → Led l → d ≤ 255 → Known Faces phi → Known Intervals r → RunsOn l (emit_endpoint d (tree_of Faces phi) (tree_of Intervals r) (end_of one)) x l₁
      → end ≡ size (steps_of l) → Ending l₁ end x a l₂ → Replies (Door.endpoint d phi r one) l (said a) l₂ []
  unfolding endpoint-two
  endpoint-replies {l} {l₂ = l₂} {a = a} h n p q run e k =
      record {
        equal =
            replied (Door.endpoint d phi r one) (endpoint_task (tree_of Faces phi) (tree_of Intervals r)) l h (endpoint-two.reads (tree_of Faces phi) (tree_of Intervals r) (read_known p) (read_known q))
            ((omega arith, n), ((p.few, p.low), ((q.few, q.low), tt))) tt refl run e k
            ∙ finished-none a l₂;
      }
