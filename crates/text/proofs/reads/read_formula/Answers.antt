use Rattle.std.proofs.lemmas.Result.{err_from_is_err_and}
use Rattle.std.proofs.Common.{ℕ}
use lib.ListN.{length-replicate}
use Rattle.text.proofs.WholeLaws.{formula-delivered, formula-refused}
use Rattle.text.proofs.reads.read_formula.Goals as goal

pub returns : goal.returns
returns c = let h = c.in_ok-c.ensures in formula-delivered h.it (length-replicate {A = ℕ} 1024 0) c.deliver.ensures

pub returns-in_err-c : goal.returns-in_err-c
returns-in_err-c c = let p = err_from_is_err_and c.from_residual.result c.from_residual.ensures.1 in rw (p.1, p.2) (formula-refused c.in_err-c.ensures)
