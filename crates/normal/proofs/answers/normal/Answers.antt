use Rattle.std.proofs.lemmas.Result.{err_from_is_err_and}
use Rattle.normal.proofs.AnswerLaws.{normal-refused, normal-whole, normal-gives}
use Rattle.normal.proofs.answers.normal.Goals as goal

pub returns-in_err-z : goal.returns-in_err-z
returns-in_err-z c = let p = err_from_is_err_and c.from_residual.result c.from_residual.ensures.1 in rw (p.1, p.2) (normal-refused c.args.f.now c.in_err-z.ensures)

pub formed-requires : goal.formed-requires
formed-requires c = normal-whole c.args.f.now c.in_ok-z.ensures

pub returns : goal.returns
returns c = normal-gives c.args.f.now c.in_ok-z.ensures c.formed.ensures
