use Rattle.std.proofs.lemmas.Result.{err_from_is_err_and}
use Rattle.text.proofs.WholeLaws.{faces-found, faces-refused, second-refused}
use Rattle.text.proofs.reads.both_faces.Goals as goal

pub returns : goal.returns
returns c = let h = c.in_ok-left.ensures in faces-found h.it c.in_ok-right.ensures

pub returns-in_err-left : goal.returns-in_err-left
returns-in_err-left c = let p = err_from_is_err_and c.from_residual.result c.from_residual.ensures.1 in rw (p.1, p.2) (faces-refused c.in_err-left.ensures)

pub returns-in_err-right : goal.returns-in_err-right
returns-in_err-right c = let h = c.in_ok-left.ensures in let p = err_from_is_err_and c.from_residual-in_err-right.result c.from_residual-in_err-right.ensures.1 in rw (p.1, p.2) (second-refused h.it c.in_err-right.ensures)
