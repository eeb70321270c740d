use Rattle.std.proofs.Common.{arith}
use Rattle.ledger.specs.Ledger.{steps_of}
use Rattle.ledger.proofs.CheckLaws.{sought-points}
use Rattle.lookup.proofs.LookupLaws.{step-none, reference-none, reference-low, reference-found}
use Rattle.lookup.proofs.reference.Goals as goal

pub returns-in_default : goal.returns-in_default
returns-in_default c = step-none (steps_of c.args.l.now) c.args.i c.in_default.ensures c.args.j

pub entry-requires : goal.entry-requires
entry-requires c = sought-points c.args.l.now c.args.i c.in-Some.ensures.0 (c.in-Some.ensures.1, c.in-Some.ensures.2)

pub returns-then-entry-j : goal.returns-then-entry-j
returns-then-entry-j c = reference-none c.in-Some.ensures.0 (c.in-Some.ensures.1, c.in-Some.ensures.2) c.args.j (omega (arith, c.entry.ensures.0, c.if-entry-j.true))

pub reference-requires : goal.reference-requires
reference-requires c = (sought-points c.args.l.now c.args.i c.in-Some.ensures.0 (c.in-Some.ensures.1, c.in-Some.ensures.2), omega (arith, c.entry.ensures.0, c.if-entry-j.false))

pub overflow_add-result : goal.overflow_add-result
overflow_add-result c = omega (arith, reference-low c.in-Some.ensures.0 (c.in-Some.ensures.1, c.in-Some.ensures.2) (omega (arith, c.entry.ensures.0, c.if-entry-j.false)) c.reference.ensures, c.in-Some.ensures.1)

pub returns : goal.returns
returns c = reference-found c.in-Some.ensures.0 (c.in-Some.ensures.1, c.in-Some.ensures.2) (omega (arith, c.entry.ensures.0, c.if-entry-j.false)) c.reference.ensures
