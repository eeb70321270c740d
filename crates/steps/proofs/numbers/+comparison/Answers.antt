use Rattle.steps.specs.Running.{order_of}
use Prim.Native.Nat.{ℕ}
use mathlib.Core.Path.{refl, ap₂}
use mathlib.Core.List.{List, ◌++◌}
use Rattle.std.proofs.lemmas.Result.{err_from_is_err_and}
use Rattle.steps.proofs.RunLaws.{runs-led, emits-same, emits-kind}
use Rattle.steps.proofs.CompareLaws.{compare-zero, compare-never, compare-stop, compare-up}
use Rattle.steps.proofs.LentLaws.{kept-of, lent-same, lent-on}
use Rattle.steps.proofs.numbers.+comparison.Goals as goal

pub returns-then-m-eq0 : goal.returns-then-m-eq0
returns-then-m-eq0 t c = let a = c.args in
    record { runs = compare-zero (order_of a.order) a.m a.n c.if-m-eq0.true c.from_zero.ensures.runs; lent = c.from_zero.ensures.lent }

pub returns-then-n-eq0 : goal.returns-then-n-eq0
returns-then-n-eq0 t c = let a = c.args in
    record { runs = compare-never (kept-of a.p.now) (order_of a.order) a.m a.n c.if-m-eq0.false c.if-n-eq0.true; lent = lent-same }

pub returns-in_err-i : goal.returns-in_err-i
returns-in_err-i t c = let a = c.args in
    let k = compare-stop (order_of a.order) a.m a.n c.if-m-eq0.false c.if-n-eq0.false c.in_err-i.ensures.runs in
    let p = err_from_is_err_and c.from_residual.result c.from_residual.ensures.1 in
    rw (p.1, p.2) (record { runs = k; lent = c.in_err-i.ensures.lent })

pub invariant_of-p : goal.invariant_of-p
invariant_of-p t c = let a = c.args in
    record {
      indexed = runs-led (compare-up (order_of a.order) a.m a.n c.if-m-eq0.false c.if-n-eq0.false c.requires.0 c.requires.1 c.in_ok-i.ensures.runs
          (emits-kind c.up_kind-kind.ensures (emits-same (ap₂ (λ (x y : List ℕ). x ++ y) c.number.ensures c.number-2.ensures) c.emit.ensures)));
    }

pub returns : goal.returns
returns t c = let a = c.args in
    record {
      runs = compare-up (order_of a.order) a.m a.n c.if-m-eq0.false c.if-n-eq0.false c.requires.0 c.requires.1 c.in_ok-i.ensures.runs
          (emits-kind c.up_kind-kind.ensures (emits-same (ap₂ (λ (x y : List ℕ). x ++ y) c.number.ensures c.number-2.ensures) c.emit.ensures));
      lent = lent-on c.in_ok-i.ensures.lent (record { ledger = refl; index = refl });
    }
