-- Results: as they are computed, and the replies of the calls that have one or two.
use Rattle.std.specs.Prelude.{Result, Ok, Err}
use mathlib.Core.Path.{◌≡◌, refl, sym, ap, ap₂, ◌∙◌, subst}
use mathlib.Core.Bool.{Bool, true, false, ◌&&◌, and-true}
use mathlib.Core.Option.{some}
use mathlib.Core.List.{List, [], ◌∷◌, ◌++◌}
use Prim.Native.Nat.{ℕ, ◌≤◌, ◌<◌}
use native.Mathlib.Omega.{arith}
use lib.Dec.{leb}
use lib.ListN.{length, take, drop}
use lib.Seq.{length-take-le}
use borrow.Author.Tests.{le-leb, lt-leb}
use Rattle.formula.specs.declared.Sort.{Sort}
use Rattle.formula.specs.declared.Size.{Size}
use Rattle.formula.specs.Bytes.{Tree, encode, nodes, bound, max_nodes, max_bound}
use Rattle.formula.specs.Answers.{size_of, keeps}
use Rattle.operations.specs.Results.{limited, roomed, Answered}
use Rattle.formula.proofs.Operands.{keeps-limits}
use Rattle.calculus.specs.Record.{formula, size, few_nodes, low_bound}
use Rattle.calculus.specs.Door.{Call, Item, item, Task, task_of, outputs_of, answered, every, long_enough}
use Rattle.calculus.proofs.Doors.{ItemsKeep}
use Rattle.ledger.specs.Ledger.{steps_of, Led}
use Rattle.steps.specs.Running.{Ran, RunsOn}
use Rattle.steps.specs.Trees.{Is}
use Rattle.steps.proofs.TreeLaws.{is-short}
use Rattle.transforms.proofs.ImageLaws.{limited-is, roomed-kept, in-front}
use Rattle.refusals.specs.declared.Refusal.{Refusal}
use Rattle.refusals.specs.declared.Refusal.TheVariants.{LargeResult, ShortOutput}
use Rattle.replies.specs.declared.Made.{Made}
use Rattle.replies.specs.Replying.{measure_of, said_one, Replies}
use Rattle.replies.specs.Ending.{Ending, made_by, out_by}
use Rattle.results.specs.Calls.{ResultOf}
use Rattle.replies.proofs.ReplyLaws.{finished, too_large, too_short, replied}

-- What was computed: the result, or that it is over the limits.
pub data Computed (s : Sort) (t : Tree s) (d : List ℕ) (r : Result Size Refusal) : Type 0 where
  fits : r ≡ Ok (size_of s t) → Is s t (encode s t) → length (encode s t) ≤ length d → take (length (encode s t)) d ≡ encode s t → Computed s t d r
  too-big : r ≡ Err LargeResult → keeps (size_of s t) ≡ false → Computed s t d r

pub computed : (s : Sort) (t : Tree s) {x : Result (Tree s) Refusal} {d d' : List ℕ} {r : Result Size Refusal} → x ≡ limited s t → 1022 ≤ length d → Answered s x d r d' → Computed s t d' r
computed s t {x} {d} {d'} {r} e w a = go (keeps (size_of s t)) refl
  where
    go : (b : Bool) → keeps (size_of s t) ≡ b → Computed s t d' r
    go true k =
        let z = keeps-limits (size_of s t) k in
        let i : Is s t (encode s t) = record { bytes = refl; few = z.0; low = z.1 } in
        let y = e ∙ limited-is i in
        let u : length (encode s t) ≤ length d = omega (arith, is-short i) in
        let f = in-front s y u d refl a.leaves in
        fits (a.says ∙ roomed-kept s y u) i f.inside f.bytes
    go false k =
        let o : limited s t ≡ Err LargeResult = rw k refl in
        too-big (a.says ∙ ap (λ y. roomed s y (length d)) (e ∙ o)) k

-- By the answer.
module _ {s : Sort} {t : Tree s} {d : List ℕ} where
  pub result-done : {z : Size} → Computed s t d (Ok z) → ResultOf s t (take z.len d) z × (z.len ≤ length d) × (length (take z.len d) ≡ z.len)
  result-done {z} (fits p i u b) =
      let k : z ≡ size_of s t = cc in
      let n : z.len ≡ length (encode s t) = ap (λ (y : Size). y.len) k in
      (record { is = record { bytes = ap (λ (m : ℕ). take m d) n ∙ b; few = i.few; low = i.low }; size = k }, omega (arith, n, u), length-take-le z.len d (omega (arith, n, u)))
  result-done {z} (too-big p k) = absurd (let w : ◌≡◌ {A = ℕ} 0 1 = cc in omega arith)

  -- It is refused by 5 alone.
  pub result-large : {q : Refusal} → Computed s t d (Err q) → (q ≡ LargeResult) × (keeps (size_of s t) ≡ false)
  result-large {q} (fits p i u b) = absurd (let w : ◌≡◌ {A = ℕ} 0 1 = cc in omega arith)
  result-large {q} (too-big p k) = (cc, k)

-- Questions 5 and 6 of one result ----------------------------------------------------------------------

both-kept : (a b : Bool) → ((a && true) && (b && true)) ≡ (a && b)
both-kept a b = ap₂ (λ (x y : Bool). x && y) (and-true a) (and-true b)

-- A call whose one result is t, with the output slice `out`.
pub record OneResult (c : Call) (k : Task) (s : Sort) (t : Tree s) (out l : List ℕ) : Type 0 where
  pub results : k.results ≡ item (formula s) t ∷ []
  pub outputs : outputs_of c ≡ out ∷ []
  pub reads : task_of c ≡ some k
  pub keep : ItemsKeep k.operands
  pub led : Led l

module _ {c : Call} {k : Task} {s : Sort} {t : Tree s} {out l : List ℕ} (w : OneResult c k s t out l) where
  large : keeps (size_of s t) ≡ false → Replies c l (said_one (Err LargeResult)) l (out ∷ [])
  large b =
      let x : (every few_nodes k.results && every low_bound k.results) ≡ false =
      ap (λ (rs : List Item). every few_nodes rs && every low_bound rs) w.results ∙ both-kept (leb (nodes s t) max_nodes) (leb (bound s t) max_bound) ∙ b in
      subst (Replies c l (said_one (Err LargeResult)) l) w.outputs (record { equal = too_large c k l w.led w.reads w.keep x })

  pub one-large : {q : Refusal} → (q ≡ LargeResult) × (keeps (size_of s t) ≡ false) → Replies c l (said_one (Err q)) l (out ∷ [])
  one-large (i, b) =
      rw i (large b)

  module _ {x : List ℕ} {z : Size} (h : ResultOf s t x z) where
    keep : ItemsKeep k.results
    keep = subst ItemsKeep (sym w.results) ((h.is.few, h.is.low), tt)

    room : (b : Bool) → leb (length (encode s t)) (length out) ≡ b → long_enough k.results (outputs_of c) ≡ b
    room b e = ap₂ long_enough w.results w.outputs ∙ and-true (leb (length (encode s t)) (length out)) ∙ e

    pub one-short : length out < z.len → Replies c l (said_one (Err ShortOutput)) l (out ∷ [])
    one-short n =
        let e = lt-leb (length (encode s t)) (length out) (omega (arith, n, ap (λ (y : Size). y.len) h.size)) in
        subst (Replies c l (said_one (Err ShortOutput)) l) w.outputs (record { equal = too_short c k l w.led w.reads w.keep keep (room false e) })

    made_as : (a : Result ℕ Refusal) (l₂ : List ℕ) → finished (out ∷ []) (item (formula s) t ∷ []) a l₂ ≡ record { answer = said_one (made_by a z); ledger = l₂; outputs = out_by a x out ∷ [] }
    made_as (Ok n) l₂ =
        ap₂ (λ (y : Size) (v : List ℕ). record { answer = answered n (measure_of y ∷ []); ledger = l₂; outputs = (v ++ drop (length v) out) ∷ [] }) (sym h.size) (sym h.is.bytes)
    made_as (Err e) l₂ = refl

    pub one-made : {l₁ l₂ out' : List ℕ} {r : Ran} {end : ℕ} {a : Result ℕ Refusal} {m : Result Made Refusal} → length x ≤ length out → RunsOn l k.program r l₁ → end ≡ size (steps_of l) → Ending l₁ end r a l₂
        → out' ≡ out_by a x out → m ≡ made_by a z → Replies c l (said_one m) l₂ (out' ∷ [])
    one-made {l₂ = l₂} {a = a} n run e i o p =
        let b = le-leb (length (encode s t)) (length out) (omega (arith, n, ap length h.is.bytes)) in
        record {
          equal =
              replied c k l w.led w.reads w.keep keep (room true b) run e i ∙ ap₂ (λ (outs : List (List ℕ)) (rs : List Item). finished outs rs a l₂) w.outputs w.results ∙ made_as a l₂
              ∙ ap₂ (λ (y : Result Made Refusal) (v : List ℕ). record { answer = said_one y; ledger = l₂; outputs = v ∷ [] }) (sym p) (sym o);
        }
