use Rattle.std.proofs.Common.{arith, sym}
use Rattle.calculus.proofs.Fields.{below_each}
use Rattle.ledger.proofs.CheckLaws.{sought}
use Rattle.lookup.proofs.LookupLaws.{has-past, has-ill}
use Rattle.lookup.proofs.find.Goals as goal

pub returns-in_default : goal.returns-in_default
returns-in_default c = has-ill c.args.l.now c.args.i (sym c.in_default.ensures)

pub returns-then-n-i : goal.returns-then-n-i
returns-then-n-i c = has-past c.args.l.now c.args.i (sym c.in-Ok.ensures) c.if-n-i.true

pub seek-requires : goal.seek-requires
seek-requires c = sought c.args.l.now c.args.i (below_each 256 c.args.l.now (λ i p. omega (arith, c.type_inv.l i))) (sym c.in-Ok.ensures) c.if-n-i.false

pub returns : goal.returns
returns c = (sought c.args.l.now c.args.i (below_each 256 c.args.l.now (λ i p. omega (arith, c.type_inv.l i))) (sym c.in-Ok.ensures) c.if-n-i.false, c.seek.ensures.0, c.seek.ensures.1)
