use Rattle.counterexample.proofs.AskLaws.{stands-front, blank, start-ready, none_found, least-found}
use Rattle.counterexample.proofs.answers.search.Goals as goal

pub mark-requires-clause-stands : goal.mark-requires-clause-stands
mark-requires-clause-stands c = (stands-front c.args.a.now c.requires.claim.left c.requires.left, blank c.args.a.now 1024)

pub least-requires : goal.least-requires
least-requires c = start-ready c.args.d c.requires.few c.requires

pub returns-in-Some : goal.returns-in-Some
returns-in-Some c = least-found c.args.d c.requires.few c.requires c.least.ensures c.in-Some.is

pub returns-in-None : goal.returns-in-None
returns-in-None c = none_found c.args.d c.requires.few c.requires c.least.ensures c.in-None.is
