use Rattle.std.proofs.lemmas.Result.{err_from_is_err_and}
use Rattle.text.proofs.WholeLaws.{whole-found, whole-refused}
use Rattle.text.proofs.reads.whole.Goals as goal

pub returns : goal.returns
returns c = let h = c.in_ok-c.ensures in whole-found h.it c.ended.ensures

pub returns-in_err-c : goal.returns-in_err-c
returns-in_err-c c = let p = err_from_is_err_and c.from_residual.result c.from_residual.ensures.1 in rw (p.1, p.2) (whole-refused c.in_err-c.ensures)
