use Rattle.std.proofs.lemmas.Result.{err_from_is_err_and}
use native.Mathlib.Omega.{arith}
use Rattle.operations.proofs.AnswerLaws.{both-refused, both-short, both-done, boundary-sided}
use Rattle.operations.proofs.results.boundary.Goals as goal

pub returns-then-zero-z : goal.returns-then-zero-z
returns-then-zero-z c = let a = c.args in both-short a.s.now a.zero.now a.one.now c.in_ok-z.ensures (omega arith)

pub side-requires : goal.side-requires
side-requires c = let a = c.args in boundary-sided a.s.now c.in_ok-z.ensures 0 (omega arith) _ c.if-zero-z.false

pub side-requires-2 : goal.side-requires-2
side-requires-2 c = let a = c.args in boundary-sided a.s.now c.in_ok-z.ensures 1 (omega arith) _ c.if-one-z.false

pub returns : goal.returns
returns c = let a = c.args in both-done a.s.now a.zero.now a.one.now c.in_ok-z.ensures c.if-zero-z.false c.if-one-z.false _ _ _ _ c.side.ensures c.side-2.ensures

pub returns-in_err-z : goal.returns-in_err-z
returns-in_err-z c = let a = c.args in
    let p = err_from_is_err_and c.from_residual.result c.from_residual.ensures.1 in
    rw (p.1, p.2) (both-refused a.s.now a.zero.now a.one.now c.in_err-z.ensures)
