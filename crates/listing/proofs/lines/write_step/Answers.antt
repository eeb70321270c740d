use Rattle.std.proofs.Common.{arith, sym}
use Rattle.std.proofs.lemmas.Result.{err_from_is_err_and}
use Rattle.calculus.proofs.Fields.{below_each}
use Rattle.ledger.proofs.CheckLaws.{sought}
use Rattle.listing.proofs.LineLaws.{step-ill, step_past, step_in}
use Rattle.listing.proofs.lines.write_step.Goals as goal

pub returns-in_err-n : goal.returns-in_err-n
returns-in_err-n c = let p = err_from_is_err_and c.from_residual.result c.from_residual.ensures.1 in rw (p.1, p.2) (step-ill c.args.i c.args.out.now c.in_err-n.ensures)

pub returns-then-n-i : goal.returns-then-n-i
returns-then-n-i c = step_past c.in_ok-n.ensures c.args.i c.args.out.now c.if-n-i.true

pub sized-requires : goal.sized-requires
sized-requires c = let a = c.args in sought a.l.now a.i (below_each 256 a.l.now (λ i p. omega (arith, c.type_inv.l i))) (sym c.in_ok-n.ensures) c.if-n-i.false

pub returns : goal.returns
returns c = step_in c.in_ok-n.ensures c.args.i c.if-n-i.false c.sized.ensures
