use Rattle.std.proofs.lemmas.Result.{err_from_is_err_and}
use borrow.Author.Rules.{rules}
use mathlib.Core.Path.{sym}
use borrow.Author.Tests.{ltb-true}
use Rattle.formula.specs.declared.Sort.TheVariants.{Faces}
use Rattle.calculus.proofs.Fields.{below_each}
use Rattle.replies.proofs.GateLaws.{one-open}
use Rattle.results.proofs.IndexLaws.{forall-refused}
use Rattle.engine.proofs.foralls.forall.Goals as goal

pub forall-requires : goal.forall-requires
forall-requires c = let p = c.args in let x = one-open Faces p.f.now p.l.now _ (below_each 256 p.l.now (λ i h. search rules)) (sym c.in_ok-one.ensures) in (x.0, x.1, ltb-true p.k 255 x.2)

pub returns-in_err-one : goal.returns-in_err-one
returns-in_err-one c = let p = c.args in
    let r = err_from_is_err_and c.from_residual.result c.from_residual.ensures.1 in
    rw (r.1, r.2) (forall-refused p.f.now p.k p.out.now p.l.now _ (sym c.in_err-one.ensures))
