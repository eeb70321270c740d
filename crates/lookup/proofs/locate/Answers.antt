use Rattle.std.proofs.Common.{arith}
use Rattle.ledger.specs.Ledger.{steps_of}
use Rattle.ledger.proofs.CheckLaws.{sought-points}
use Rattle.ledger.proofs.PointLaws.{inside}
use Rattle.lookup.proofs.LookupLaws.{located-none, located}
use Rattle.lookup.proofs.locate.Goals as goal

pub returns-in_default : goal.returns-in_default
returns-in_default c = located-none (steps_of c.args.l.now) c.args.i c.in_default.ensures

pub operands_from-start-requires : goal.operands_from-start-requires
operands_from-start-requires c = sought-points c.args.l.now c.args.i c.in-Some.ensures.0 (c.in-Some.ensures.1, c.in-Some.ensures.2)

pub next-end-requires : goal.next-end-requires
next-end-requires c = sought-points c.args.l.now c.args.i c.in-Some.ensures.0 (c.in-Some.ensures.1, c.in-Some.ensures.2)

pub overflow_sub-result : goal.overflow_sub-result
overflow_sub-result c = let k = inside (sought-points c.args.l.now c.args.i c.in-Some.ensures.0 (c.in-Some.ensures.1, c.in-Some.ensures.2)) in omega (arith, k.operands, c.operands_from-start.ensures, c.next-end.ensures.1)

pub returns : goal.returns
returns c = located c.in-Some.ensures.0 (c.in-Some.ensures.1, c.in-Some.ensures.2) c.operands_from-start.ensures c.next-end.ensures.1
