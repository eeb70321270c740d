use Rattle.std.proofs.Common.{rules}
use lib.ListN.{length}
use Rattle.operations.specs.Results.{transformed}
use Rattle.formula.proofs.Operands.{sized-fits}
use Rattle.operations.proofs.AnswerLaws.{answered-refused, answered-short, answered-kept, fitting}
use Rattle.operations.proofs.results.transform.Goals as goal

pub returns-then-out-z : goal.returns-then-out-z
returns-then-out-z c = let a = c.args in answered-short a.sort (transformed a.sort a.op a.s.now a.r.now) a.out.now _ (sized-fits a.sort (transformed a.sort a.op a.s.now a.r.now) c.in_ok-z.ensures) c.if-out-z.true

pub transform_out-requires : goal.transform_out-requires
transform_out-requires c = let a = c.args in fitting a.sort (transformed a.sort a.op a.s.now a.r.now) _ (length a.out.now) (sized-fits a.sort (transformed a.sort a.op a.s.now a.r.now) c.in_ok-z.ensures) c.if-out-z.false

pub returns : goal.returns
returns c = let a = c.args in answered-kept a.sort (transformed a.sort a.op a.s.now a.r.now) a.out.now _ (sized-fits a.sort (transformed a.sort a.op a.s.now a.r.now) c.in_ok-z.ensures) c.if-out-z.false _ _ c.transform_out.ensures

pub returns-in_err-z : goal.returns-in_err-z
returns-in_err-z c = search (rules, answered-refused)
