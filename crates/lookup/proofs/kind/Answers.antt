use Rattle.ledger.specs.Ledger.{steps_of}
use Rattle.ledger.proofs.CheckLaws.{sought-points}
use Rattle.lookup.proofs.LookupLaws.{kind-none, kind-found}
use Rattle.lookup.proofs.kind.Goals as goal

pub kind-requires : goal.kind-requires
kind-requires c = sought-points c.args.l.now c.args.i c.in-Some.ensures.0 (c.in-Some.ensures.1, c.in-Some.ensures.2)

pub returns-in-Some : goal.returns-in-Some
returns-in-Some c = kind-found c.in-Some.ensures.0 (c.in-Some.ensures.1, c.in-Some.ensures.2) c.kind.ensures

pub returns-in-None : goal.returns-in-None
returns-in-None c = kind-none (steps_of c.args.l.now) c.args.i c.in-None.ensures
