use Rattle.steps.proofs.TreeLaws.{known}
use Rattle.contexts.proofs.MoveLaws.{clash-none, clash-here, clash-there}
use Rattle.contexts.specs.Faces.{faces_of}
use Rattle.contexts.proofs.moves.+clash_in.Goals as goal

pub returns-in_err-x : goal.returns-in_err-x
returns-in_err-x t c = rw c.from_residual.ensures (clash-none (faces_of c.args.g) c.in_err-x.ensures)

pub opposed-requires : goal.opposed-requires
opposed-requires t c = known c.in_ok-x.ensures.face

pub returns-in-Some : goal.returns-in-Some
returns-in-Some t c = clash-here (faces_of c.args.g) c.in_ok-x.ensures c.opposed.ensures c.in-Some.is

pub returns-in-None : goal.returns-in-None
returns-in-None t c = clash-there (faces_of c.args.g) c.in_ok-x.ensures c.opposed.ensures c.in-None.is c.clash_in.ensures
