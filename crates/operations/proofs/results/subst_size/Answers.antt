use mathlib.Core.Path.{sym, ap, ◌∙◌}
use Rattle.operations.specs.Fitting.{beside_refused}
use Rattle.operations.proofs.AnswerLaws.{hit-fits, hit-refused, hit-small, subst-resized, subst-refused}
use Rattle.operations.proofs.results.subst_size.Goals as goal

pub resized-requires : goal.resized-requires
resized-requires c = let a = c.args in hit-small a.sort a.r.now _ (hit-fits a.sort a.r.now c.in-Ok.ensures)

pub returns-in-Ok : goal.returns-in-Ok
returns-in-Ok c = let a = c.args in c.resized.ensures ∙ sym (subst-resized a.sort a.k a.s.now a.r.now _ (hit-fits a.sort a.r.now c.in-Ok.ensures))

pub returns-in-Err : goal.returns-in-Err
returns-in-Err c = let a = c.args in
    c.beside.ensures ∙ ap (beside_refused _) c.operand.ensures ∙ sym (subst-refused a.sort a.k a.s.now a.r.now (hit-refused a.sort a.r.now c.in-Err.ensures))
