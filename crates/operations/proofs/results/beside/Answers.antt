use Rattle.std.specs.Prelude.{Err}
use mathlib.Core.Path.{sym, ap, ◌∙◌}
use Rattle.operations.specs.Fitting.{beside_refused}
use Rattle.operations.proofs.results.beside.Goals as goal

pub returns-in-Ok : goal.returns-in-Ok
returns-in-Ok c = let a = c.args in sym (ap (beside_refused a.e) c.in-Ok.is)

pub returns-in-Err : goal.returns-in-Err
returns-in-Err c = let a = c.args in ap Err c.earlier.ensures ∙ sym (ap (beside_refused a.e) c.in-Err.is)
