use Rattle.std.proofs.lemmas.Result.{err_from_is_err_and}
use Rattle.text.proofs.ReadLaws.{closed-read, closed-missing}
use Rattle.text.proofs.numbers.closed.Goals as goal

pub returns : goal.returns
returns c = closed-read c.in_ok-end.ensures c.requires.1

pub returns-in_err-end : goal.returns-in_err-end
returns-in_err-end c = let p = err_from_is_err_and c.from_residual.result c.from_residual.ensures.1 in rw (p.1, p.2) (closed-missing c.args.n c.in_err-end.ensures)
