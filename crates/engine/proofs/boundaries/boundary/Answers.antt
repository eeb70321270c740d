use Rattle.std.proofs.lemmas.Result.{err_from_is_err_and}
use borrow.Author.Rules.{rules}
use mathlib.Core.Path.{sym}
use Rattle.formula.specs.declared.Sort.TheVariants.{Intervals}
use Rattle.calculus.proofs.Fields.{below_each}
use Rattle.replies.proofs.GateLaws.{one-open}
use Rattle.results.proofs.SideLaws.{sides-refused}
use Rattle.engine.proofs.boundaries.boundary.Goals as goal

pub boundary-requires : goal.boundary-requires
boundary-requires c = let p = c.args in let x = one-open Intervals p.r.now p.l.now _ (below_each 256 p.l.now (λ i h. search rules)) (sym c.in_ok-one.ensures) in (x.0, x.1)

pub returns-in_err-one : goal.returns-in_err-one
returns-in_err-one c = let p = c.args in
    let r = err_from_is_err_and c.from_residual.result c.from_residual.ensures.1 in
    rw (r.1, r.2) (sides-refused p.r.now p.out0.now p.out1.now p.l.now _ (sym c.in_err-one.ensures))
