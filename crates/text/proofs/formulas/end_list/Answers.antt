use Rattle.std.proofs.lemmas.Result.{err_from_is_err_and}
use Rattle.text.proofs.ParseLaws.{ends_read, ends-missing}
use Rattle.text.proofs.formulas.end_list.Goals as goal

pub returns : goal.returns
returns c = ends_read c.in_ok-at.ensures

pub returns-in_err-at : goal.returns-in_err-at
returns-in_err-at c = let p = err_from_is_err_and c.from_residual.result c.from_residual.ensures.1 in rw (p.1, p.2) (ends-missing c.in_err-at.ensures)
