-- Traces: what the functions' contracts say is what a trace says, and every list of calls has exactly one trace.
use mathlib.Core.Path.{◌≡◌, refl, sym, ap, ◌∙◌}
use mathlib.Core.List.{List, [], ◌∷◌, map}
use Prim.Native.Nat.{ℕ}
use Rattle.calculus.specs.Door
use Rattle.calculus.specs.Door.{Call, Reply, reply}
use Rattle.calculus.proofs.Demands.{after}
use Rattle.replies.specs.Replying.{Replies}
use Rattle.demand.specs.Answering.{Answering, enums}
use Rattle.demand.specs.Demand
use Rattle.demand.specs.Demand.{Called, Says, Trace}

-- The contract of a call of `engine` is what a trace says of it; that of a C function is so field by field.
pub replies-says : {c : Call} {l l' : List ℕ} {a : Door.Answer} {outs : List (List ℕ)} → Replies c l a l' outs → Says enums l (record { call = c; answer = a; ledger = l'; outputs = outs })
replies-says h =
    let e = sym h.equal in
    record { answer = ap (λ (r : Reply). r.answer) e; ledger = ap (λ (r : Reply). r.ledger) e; outputs = ap (λ (r : Reply). r.outputs) e }

module _ (w : Answering) where
  -- What a call answers and leaves on a ledger.
  called : Call → List ℕ → Called w
  called c l = let r = reply c l in record { call = c; answer = w.answer r.answer; ledger = r.ledger; outputs = r.outputs }

  -- A list of calls, each on the ledger that the call before it left.
  calls_on : List ℕ → List Call → List (Called w)
  calls_on l [] = []
  calls_on l (c ∷ cs) = called c l ∷ calls_on (reply c l).ledger cs

  -- The calls of a trace.
  abbrev pub made : List (Called w) → List Call
  made cs = map (λ (c : Called w). c.call) cs

  says-called : {l : List ℕ} {c : Called w} → Says w l c → c ≡ called c.call l
  unfolding called
  says-called {l} {c} h =
      let r = reply c.call l in
      let of : w.Answer → List ℕ → List (List ℕ) → Called w = λ x m o. record { call = c.call; answer = x; ledger = m; outputs = o } in
      ap (λ (x : w.Answer). of x c.ledger c.outputs) h.answer ∙ ap (λ (m : List ℕ). of (w.answer r.answer) m c.outputs) h.ledger ∙ ap (of (w.answer r.answer) r.ledger) h.outputs

  trace-calls : {l l' : List ℕ} {cs : List (Called w)} → Trace w l cs l' → cs ≡ calls_on l (made cs)
  unfolding calls_on
  trace-calls Demand.none = refl
  trace-calls (Demand.then {l} {c = c} {cs = cs} h t) =
      ap (◌∷ cs) (says-called h) ∙ ap (called c.call l ∷◌) (trace-calls t ∙ ap (λ (m : List ℕ). calls_on m (made cs)) h.ledger)

  -- A trace leaves the ledger that the model does.
  pub trace-after : {l l' : List ℕ} {cs : List (Called w)} → Trace w l cs l' → l' ≡ after l (made cs)
  unfolding after
  trace-after Demand.none = refl
  trace-after (Demand.then {cs = cs} h t) = trace-after t ∙ ap (λ (m : List ℕ). after m (made cs)) h.ledger

  -- A trace of these calls.
  pub record Traced (l : List ℕ) (cs : List Call) : Type 0 where
    pub calls : List (Called w)
    pub same : made calls ≡ cs
    pub ledger : List ℕ
    pub trace : Trace w l calls ledger

  -- Every list of calls on every ledger has a trace.
  pub trace-exists : (l : List ℕ) (cs : List Call) → Traced l cs
  unfolding called
  trace-exists l [] = record { calls = []; same = refl; ledger = l; trace = Demand.none }
  trace-exists l (c ∷ cs) =
      let t = trace-exists (reply c l).ledger cs in
      record { calls = called c l ∷ t.calls; same = ap (c ∷◌) t.same; ledger = t.ledger; trace = Demand.then (record { answer = refl; ledger = refl; outputs = refl }) t.trace }

  -- It has no other: the calls and the ledger that they begin with fix every answer and every byte.
  pub trace-unique : {l l₁ l₂ : List ℕ} {cs ds : List (Called w)} → Trace w l cs l₁ → Trace w l ds l₂ → made cs ≡ made ds → (cs ≡ ds) × (l₁ ≡ l₂)
  trace-unique {l} s t e =
      (trace-calls s ∙ ap (calls_on l) e ∙ sym (trace-calls t), trace-after s ∙ ap (after l) e ∙ sym (trace-after t))
