use Rattle.std.proofs.lemmas.Result.{err_from_is_err_and}
use mathlib.Core.Path.{sym, subst}
use mathlib.Core.List.{List}
use Prim.Native.Nat.{ℕ}
use Rattle.formula.specs.declared.Sort.TheVariants.{Faces}
use Rattle.formula.specs.Operations.{forall as forall_of}
use Rattle.formula.specs.Answers.{tree_of}
use Rattle.calculus.specs.Calls.{emit_forall}
use Rattle.steps.specs.Walking.{StandsAt}
use Rattle.steps.proofs.NodeLaws.{part-runs}
use Rattle.steps.proofs.PlaceLaws.{start, known_at, whole-at, whole_part}
use Rattle.forall_steps.proofs.ForallLaws.{forall-is}
use Rattle.forall_steps.proofs.forall.Goals as goal

pub forall_at-requires : goal.forall_at-requires
forall_at-requires c = let a = c.args in
    (known_at (whole-at c.requires.0), c.requires.1, subst (λ (x : List ℕ). StandsAt Faces (forall_of a.k (tree_of Faces x)) a.out.now start) (sym (whole_part c.requires.0)) (whole-at (forall-is a.k c.requires.0 c.requires.2)))

pub returns-in_err-r : goal.returns-in_err-r
returns-in_err-r c = let a = c.args in
    let p = err_from_is_err_and c.from_residual.result c.from_residual.ensures.1 in
    let w = c.in_err-r.ensures in
    rw (p.1, p.2) (record { runs = part-runs Faces (emit_forall a.k) (whole_part c.requires.0) w.walks.runs; lent = w.lent })

pub returns : goal.returns
returns c = let a = c.args in
    let w = c.in_ok-r.ensures in
    record { runs = part-runs Faces (emit_forall a.k) (whole_part c.requires.0) w.walks.runs; lent = w.lent }
