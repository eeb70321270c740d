use Rattle.std.proofs.lemmas.Result.{err_from_is_err_and}
use Rattle.text.proofs.WholeLaws.{claim-found, claim-no-number, claim-no-word}
use Rattle.text.proofs.reads.claim.Goals as goal

pub returns : goal.returns
returns c = claim-found c.in_ok-at.ensures c.in_ok-d.ensures c.both_faces.ensures

pub returns-in_err-at : goal.returns-in_err-at
returns-in_err-at c = let p = err_from_is_err_and c.from_residual.result c.from_residual.ensures.1 in rw (p.1, p.2) (claim-no-word c.in_err-at.ensures)

pub returns-in_err-d : goal.returns-in_err-d
returns-in_err-d c = let p = err_from_is_err_and c.from_residual-in_err-d.result c.from_residual-in_err-d.ensures.1 in rw (p.1, p.2) (claim-no-number c.in_ok-at.ensures c.in_err-d.ensures)
