-- boundary: two results of one size.
use Rattle.std.specs.Prelude.{Result, Ok, Err}
use mathlib.Core.Path.{◌≡◌, refl, sym, ap, ap₂, ◌∙◌}
use mathlib.Core.Bool.{Bool, true, false, ◌&&◌, and-true, and-false}
use mathlib.Core.Option.{none, some}
use mathlib.Core.List.{List, [], ◌∷◌, ◌++◌}
use Prim.Native.Nat.{ℕ, ◌≤◌, ◌<◌}
use native.Mathlib.Omega.{arith}
use lib.Dec.{leb}
use lib.ListN.{length, take, drop}
use lib.Seq.{length-take-le}
use borrow.Author.Tests.{le-leb, lt-leb}
use Rattle.formula.specs.declared.Sort.TheVariants.{Faces, Intervals}
use Rattle.formula.specs.declared.Size.{Size}
use Rattle.formula.specs.Formula.{End, lo, hi, Interval}
use Rattle.formula.specs.Operations
use Rattle.formula.specs.Bytes.{encode, read_all, nodes, bound, max_nodes, max_bound}
use Rattle.formula.specs.Answers.{size_of, tree_of}
use Rattle.operations.specs.Results.{boundaried, AnsweredBoth}
use Rattle.operations.proofs.ResultLaws.{boundary-sizes}
use Rattle.calculus.specs.Parse.{read_ledger}
use Rattle.calculus.specs.Record.{formula, size}
use Rattle.calculus.specs.Calls.{bounds, emit_boundary}
use Rattle.calculus.specs.Door
use Rattle.calculus.specs.Door.{item, Task, task_of, answered, long_enough}
use Rattle.calculus.proofs.Doors.{ItemsKeep}
use Rattle.ledger.specs.Ledger.{steps_of, Led}
use Rattle.steps.specs.Running.{Ran, RunsOn}
use Rattle.steps.specs.Trees.{Known}
use Rattle.steps.proofs.TreeLaws.{read_known}
use Rattle.boundary_steps.specs.Programs.{Sides}
use Rattle.boundary_steps.proofs.BoundaryLaws.{side-is}
use Rattle.transforms.proofs.ImageLaws.{zero-front, one-front}
use Rattle.refusals.specs.declared.Refusal.{Refusal}
use Rattle.refusals.specs.declared.Refusal.TheVariants.{ShortOutput}
use Rattle.replies.specs.declared.Made.{Made}
use Rattle.replies.specs.Replying.{measure_of, said_both, Replies}
use Rattle.replies.specs.Asking.{ledger_gate, operand_gate}
use Rattle.replies.specs.Ending.{Ending, made_by, out_by}
use Rattle.replies.proofs.GateLaws.{OneOperand, one-shut}
use Rattle.replies.proofs.ReplyLaws.{finished, too_short, replied}

sides_task : Interval → Task
sides_task r = record {
  operands = item (formula Intervals) r ∷ [];
  results = item (formula Faces) (Operations.boundary lo r) ∷ item (formula Faces) (Operations.boundary hi r) ∷ [];
  own = bounds r;
  program = emit_boundary r;
}

module _ (r out₀ out₁ : List ℕ) where
  sides-reads : (t : Interval) → read_all Intervals r ≡ some t → task_of (Door.boundary r out₀ out₁) ≡ some (sides_task t)
  unfolding sides_task
  sides-reads t e = rw e refl

  sides-ill : read_all Intervals r ≡ none → task_of (Door.boundary r out₀ out₁) ≡ none
  sides-ill e = rw e refl

  sides-one : OneOperand (Door.boundary r out₀ out₁) Intervals r true
  unfolding sides_task
  sides-one = record { task = sides_task; reads = sides-reads; ill = sides-ill; few = λ t. and-true (leb (nodes Intervals t) max_nodes); lows = λ t. and-true (leb (bound Intervals t) max_bound) }

  pub sides-refused : (l : List ℕ) (e : Refusal) → ledger_gate (read_ledger l) (operand_gate Intervals (read_all Intervals r) true) ≡ Err e → Replies (Door.boundary r out₀ out₁) l (said_both (Err e)) l (out₀ ∷ out₁ ∷ [])
  sides-refused l e g = record { equal = one-shut sides-one l g }

  module _ {l : List ℕ} {z : Size} (d : Led l) (h : Known Intervals r) (e : z ≡ size_of Faces (Operations.boundary lo (tree_of Intervals r))) where
    keep : ItemsKeep (sides_task (tree_of Intervals r)).results
    unfolding sides_task
    keep =
        let a = side-is lo h refl in
        let b = side-is hi h refl in
        ((a.few, a.low), ((b.few, b.low), tt))

    operand : ItemsKeep (sides_task (tree_of Intervals r)).operands
    unfolding sides_task
    operand = ((h.few, h.low), tt)

    -- Both faces are as long as is told.
    side-length : (k : End) → z.len ≡ length (encode Faces (Operations.boundary k (tree_of Intervals r)))
    side-length k = ap (λ (y : Size). y.len) (e ∙ boundary-sizes lo k (tree_of Intervals r))

    -- Is there room for both faces?
    room : Bool
    room = leb z.len (length out₀) && leb z.len (length out₁)

    room-is : long_enough (sides_task (tree_of Intervals r)).results (out₀ ∷ out₁ ∷ []) ≡ room
    unfolding sides_task room
    room-is = sym (ap₂ (λ (m n : ℕ). leb m (length out₀) && (leb n (length out₁) && true)) (side-length lo) (side-length hi)) ∙ ap (λ (b : Bool). leb z.len (length out₀) && b) (and-true (leb z.len (length out₁)))

    short : room ≡ false → Replies (Door.boundary r out₀ out₁) l (said_both (Err ShortOutput)) l (out₀ ∷ out₁ ∷ [])
    short x = record { equal = too_short (Door.boundary r out₀ out₁) (sides_task (tree_of Intervals r)) l d (sides-reads (tree_of Intervals r) (read_known h)) operand keep (room-is ∙ x) }

    pub short-first : length out₀ < z.len → Replies (Door.boundary r out₀ out₁) l (said_both (Err ShortOutput)) l (out₀ ∷ out₁ ∷ [])
    unfolding room
    short-first n = short (ap (λ (b : Bool). b && leb z.len (length out₁)) (lt-leb z.len (length out₀) n))

    pub short-second : length out₁ < z.len → Replies (Door.boundary r out₀ out₁) l (said_both (Err ShortOutput)) l (out₀ ∷ out₁ ∷ [])
    unfolding room
    short-second n = short (ap (λ (b : Bool). leb z.len (length out₀) && b) (lt-leb z.len (length out₁) n) ∙ and-false (leb z.len (length out₀)))

    module _ {zero one : List ℕ} (q : Sides r zero one) where
      both-as : (a : Result ℕ Refusal) (l₂ : List ℕ) → finished (out₀ ∷ out₁ ∷ []) (sides_task (tree_of Intervals r)).results a l₂ ≡ record { answer = said_both (made_by a z); ledger = l₂; outputs = out_by a zero out₀ ∷ out_by a one out₁ ∷ [] }
      unfolding sides_task
      both-as (Ok n) l₂ =
          ap₂ (λ (x y : List ℕ). record {
            answer = answered n (measure_of (size_of Faces (Operations.boundary lo (tree_of Intervals r))) ∷ measure_of (size_of Faces (Operations.boundary hi (tree_of Intervals r))) ∷ []);
            ledger = l₂;
            outputs = (x ++ drop (length x) out₀) ∷ (y ++ drop (length y) out₁) ∷ [];
          }) (sym q.zeros) (sym q.ones)
          ∙ ap₂ (λ (x y : Size). record {
            answer = answered n (measure_of x ∷ measure_of y ∷ []);
            ledger = l₂;
            outputs = (zero ++ drop (length zero) out₀) ∷ (one ++ drop (length one) out₁) ∷ [];
          }) (sym e) (boundary-sizes hi lo (tree_of Intervals r) ∙ sym e)
      both-as (Err x) l₂ = refl

      pub both-made : {l₁ l₂ o₀ o₁ : List ℕ} {x : Ran} {end : ℕ} {a : Result ℕ Refusal} {m : Result Made Refusal} → length zero ≤ length out₀ → length one ≤ length out₁ → RunsOn l (emit_boundary (tree_of Intervals r)) x l₁ → end ≡ size (steps_of l) → Ending l₁ end x a l₂
          → o₀ ≡ out_by a zero out₀ → o₁ ≡ out_by a one out₁ → m ≡ made_by a z → Replies (Door.boundary r out₀ out₁) l (said_both m) l₂ (o₀ ∷ o₁ ∷ [])
      unfolding sides_task room
      both-made {l₂ = l₂} {a = a} {m = m} u v run f n i j k =
          let fits : room ≡ true =
          ap₂ (λ (b c : Bool). b && c) (le-leb z.len (length out₀) (omega (arith, u, ap length q.zeros, side-length lo))) (le-leb z.len (length out₁) (omega (arith, v, ap length q.ones, side-length hi))) in
          record {
            equal =
                replied (Door.boundary r out₀ out₁) (sides_task (tree_of Intervals r)) l d (sides-reads (tree_of Intervals r) (read_known h)) operand keep (room-is ∙ fits) run f n
                ∙ both-as a l₂
                ∙ ap (λ (y : Result Made Refusal). record { answer = said_both y; ledger = l₂; outputs = out_by a zero out₀ ∷ out_by a one out₁ ∷ [] }) (sym k)
                ∙ ap₂ (λ (x y : List ℕ). record { answer = said_both m; ledger = l₂; outputs = x ∷ y ∷ [] }) (sym i) (sym j);
          }

-- What was computed fits where as many bytes do.
module _ {r d e d' e' : List ℕ} {x : Result Size Refusal} (h : Known Intervals r) (s₀ : 1022 ≤ length d) (s₁ : 1022 ≤ length e) (a : AnsweredBoth (boundaried lo r) (boundaried hi r) d e x d' e') (z : Size) (g : x ≡ Ok z) where
  pub first_fits : {m : ℕ} → z.len ≤ m → length (take z.len d') ≤ m
  first_fits n = omega (arith, length-take-le z.len d' (zero-front h s₀ s₁ a z g).inside, n)

  pub second_fits : {m : ℕ} → z.len ≤ m → length (take z.len e') ≤ m
  second_fits n = omega (arith, length-take-le z.len e' (one-front h s₀ s₁ a z g).inside, n)
