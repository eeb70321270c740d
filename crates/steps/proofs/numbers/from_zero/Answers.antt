use Prim.Native.Nat.{ℕ}
use mathlib.Core.Path.{◌≡◌, refl, sym, ap, ap₂, ◌∙◌}
use mathlib.Core.List.{List, ◌++◌}
use Rattle.calculus.specs.Calls.{less}
use Rattle.steps.specs.declared.Order.{Order}
use Rattle.steps.specs.Running.{order_of}
use Rattle.steps.proofs.RunLaws.{emits-same, emits-kind, runs-led}
use Rattle.steps.proofs.CompareLaws.{zero_kind, not-less, zero-not-less, from-zero}
use Rattle.steps.proofs.LentLaws.{kept-of, lent-same}
use Rattle.steps.proofs.numbers.from_zero.Goals as goal
use Rattle.steps.proofs.numbers.from_zero.Goals.{in-Less-2, in-AtMost}

pub returns-in-Less : goal.returns-in-Less
returns-in-Less c = let a = c.args in
    record { runs = zero-not-less (kept-of a.p.now) (order_of a.order) a.n (ap order_of c.in-Less.is) c.if-n-eq0.true; lent = lent-same }

pub invariant_of-p : goal.invariant_of-p
invariant_of-p c = let a = c.args in
    let k : c.match-order.kind ≡ zero_kind (order_of a.order) = elim c.match-order.branch [ in-Less-2 w ↦ w.kind-is ∙ ap (λ (o : Order). zero_kind (order_of o)) (sym w.in-Less.is) | in-AtMost w ↦ w.kind-is ∙ ap (λ (o : Order). zero_kind (order_of o)) (sym w.in-AtMost.is) ] in
    let n : order_of a.order ≡ less → a.n ≡ 0 → ⊥ = elim c.match-order.branch [ in-Less-2 w ↦ λ e. w.if-n-eq0.false | in-AtMost w ↦ λ e z. not-less (sym (ap order_of w.in-AtMost.is) ∙ e) ] in
    record { indexed = runs-led (from-zero (order_of a.order) a.n c.requires n (emits-kind k (emits-same (ap₂ (λ (x y : List ℕ). x ++ y) c.number.ensures c.number-2.ensures) c.emit.ensures))) }

pub returns : goal.returns
returns c = let a = c.args in
    let k : c.match-order.kind ≡ zero_kind (order_of a.order) = elim c.match-order.branch [ in-Less-2 w ↦ w.kind-is ∙ ap (λ (o : Order). zero_kind (order_of o)) (sym w.in-Less.is) | in-AtMost w ↦ w.kind-is ∙ ap (λ (o : Order). zero_kind (order_of o)) (sym w.in-AtMost.is) ] in
    let n : order_of a.order ≡ less → a.n ≡ 0 → ⊥ = elim c.match-order.branch [ in-Less-2 w ↦ λ e. w.if-n-eq0.false | in-AtMost w ↦ λ e z. not-less (sym (ap order_of w.in-AtMost.is) ∙ e) ] in
    record { runs = from-zero (order_of a.order) a.n c.requires n (emits-kind k (emits-same (ap₂ (λ (x y : List ℕ). x ++ y) c.number.ensures c.number-2.ensures) c.emit.ensures)); lent = record { ledger = refl; index = refl } }
