use Rattle.std.proofs.lemmas.Result.{err_from_is_err_and}
use Rattle.std.proofs.Common.{ℕ}
use lib.ListN.{length-replicate}
use Rattle.text.proofs.WholeLaws.{claim-delivered, claim-refused}
use Rattle.text.proofs.reads.read_claim.Goals as goal

pub returns : goal.returns
returns c = let h = c.in_ok-found.ensures in claim-delivered h.it (length-replicate {A = ℕ} 1024 0) (length-replicate {A = ℕ} 1024 0) c.deliver_both.ensures

pub returns-in_err-found : goal.returns-in_err-found
returns-in_err-found c = let p = err_from_is_err_and c.from_residual.result c.from_residual.ensures.1 in rw (p.1, p.2) (claim-refused c.in_err-found.ensures)
