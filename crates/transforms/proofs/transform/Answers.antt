use Rattle.std.proofs.lemmas.Result.{err_from_is_err_and}
use mathlib.Core.Path.{sym, subst}
use mathlib.Core.List.{List}
use Prim.Native.Nat.{ℕ}
use Rattle.formula.specs.Answers.{tree_of}
use Rattle.calculus.specs.Calls.{transform as transform_of, emit_transform}
use Rattle.steps.specs.Walking.{StandsAt}
use Rattle.steps.proofs.NodeLaws.{part-runs}
use Rattle.steps.proofs.PlaceLaws.{start, known_at, whole-at, whole_part}
use Rattle.transforms.specs.Transforms.{op_of}
use Rattle.transforms.proofs.transform.Goals as goal

pub transform_at-requires : goal.transform_at-requires
transform_at-requires c = let a = c.args in
    (known_at (whole-at c.requires.0), c.requires.1, subst (λ (x : List ℕ). StandsAt a.sort (transform_of a.sort (op_of a.op a.t.now) (tree_of a.sort x)) a.out.now start) (sym (whole_part c.requires.0)) (whole-at c.requires.2))

pub returns-in_err-r : goal.returns-in_err-r
returns-in_err-r c = let a = c.args in
    let p = err_from_is_err_and c.from_residual.result c.from_residual.ensures.1 in
    let w = c.in_err-r.ensures in
    rw (p.1, p.2) (record { runs = part-runs a.sort (emit_transform a.sort (op_of a.op a.t.now)) (whole_part c.requires.0) w.walks.runs; lent = w.lent })

pub returns : goal.returns
returns c = let a = c.args in
    let w = c.in_ok-r.ensures in
    record { runs = part-runs a.sort (emit_transform a.sort (op_of a.op a.t.now)) (whole_part c.requires.0) w.walks.runs; lent = w.lent }
