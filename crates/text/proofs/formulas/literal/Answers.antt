use Rattle.std.proofs.lemmas.Result.{err_from_is_err_and}
use Rattle.text.proofs.ParseLaws.{literal-parses, literal-refused}
use Rattle.text.proofs.formulas.literal.Goals as goal

pub returns : goal.returns
returns c = literal-parses c.put_dim.ensures c.in_ok-m.ensures c.end_list.ensures

pub returns-in_err-m : goal.returns-in_err-m
returns-in_err-m c = let p = err_from_is_err_and c.from_residual.result c.from_residual.ensures.1 in rw (p.1, p.2) (literal-refused c.in_err-m.ensures)
