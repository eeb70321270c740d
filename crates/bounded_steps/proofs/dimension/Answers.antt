use Prim.Native.Nat.{ℕ}
use mathlib.Core.Path.{refl, ap₂}
use mathlib.Core.List.{List, ◌++◌}
use Rattle.std.proofs.lemmas.Result.{err_from_is_err_and}
use Rattle.steps.proofs.RunLaws.{emits-same, runs-led}
use Rattle.steps.proofs.LentLaws.{lent-on}
use Rattle.bounded_steps.proofs.BelowLaws.{dimension-stop, dimension-runs}
use Rattle.bounded_steps.proofs.dimension.Goals as goal

pub returns-in_err-i : goal.returns-in_err-i
returns-in_err-i c = let a = c.args in
    let p = err_from_is_err_and c.from_residual.result c.from_residual.ensures.1 in
    rw (p.1, p.2) (record { runs = dimension-stop a.d a.n c.in_err-i.ensures.runs; lent = c.in_err-i.ensures.lent })

pub invariant_of-p : goal.invariant_of-p
invariant_of-p c = let a = c.args in
    record { indexed = runs-led (dimension-runs a.d a.n c.requires.0 c.requires.1 c.in_ok-i.ensures.runs (emits-same (ap₂ (λ (x y : List ℕ). x ++ y) c.number.ensures c.literal-node.ensures) c.emit.ensures)) }

pub returns : goal.returns
returns c = let a = c.args in
    record {
      runs = dimension-runs a.d a.n c.requires.0 c.requires.1 c.in_ok-i.ensures.runs (emits-same (ap₂ (λ (x y : List ℕ). x ++ y) c.number.ensures c.literal-node.ensures) c.emit.ensures);
      lent = lent-on c.in_ok-i.ensures.lent (record { ledger = refl; index = refl });
    }
