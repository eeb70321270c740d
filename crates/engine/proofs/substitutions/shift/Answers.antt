use Rattle.std.proofs.lemmas.Result.{err_from_is_err_and}
use borrow.Author.Rules.{rules}
use mathlib.Core.Path.{sym}
use borrow.Author.Tests.{ltb-true}
use Rattle.calculus.proofs.Fields.{below_each}
use Rattle.replies.proofs.GateLaws.{one-open}
use Rattle.results.proofs.IndexLaws.{shift-refused}
use Rattle.engine.proofs.substitutions.shift.Goals as goal

pub transform-requires : goal.transform-requires
transform-requires c = let p = c.args in let x = one-open p.sort p.t.now p.l.now _ (below_each 256 p.l.now (λ i h. search rules)) (sym c.in_ok-one.ensures) in (x.0, x.1, ltb-true p.k 255 x.2)

pub returns-in_err-one : goal.returns-in_err-one
returns-in_err-one c = let p = c.args in
    let r = err_from_is_err_and c.from_residual.result c.from_residual.ensures.1 in
    rw (r.1, r.2) (shift-refused p.sort p.t.now p.k p.out.now p.l.now _ (sym c.in_err-one.ensures))
