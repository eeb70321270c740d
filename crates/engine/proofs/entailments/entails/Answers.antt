use Rattle.std.proofs.lemmas.Result.{err_from_is_err_and}
use borrow.Author.Rules.{rules}
use mathlib.Core.Path.{sym}
use borrow.Author.Tests.{leb-true}
use Rattle.formula.specs.declared.Sort.TheVariants.{Faces}
use Rattle.calculus.proofs.Fields.{below_each}
use Rattle.replies.proofs.GateLaws.{two-open}
use Rattle.runs.proofs.ImplicationLaws.{entails-refused}
use Rattle.engine.proofs.entailments.entails.Goals as goal

pub entails-requires : goal.entails-requires
entails-requires c = let p = c.args in let x = two-open Faces p.a.now Faces p.b.now p.l.now _ (below_each 256 p.l.now (λ i h. search rules)) (sym c.in_ok-two.ensures) in (x.0, leb-true p.d 255 x.3, x.1, x.2)

pub returns-in_err-two : goal.returns-in_err-two
returns-in_err-two c = let p = c.args in
    let r = err_from_is_err_and c.from_residual.result c.from_residual.ensures.1 in
    rw (r.1, r.2) (entails-refused p.d p.a.now p.b.now p.l.now _ (sym c.in_err-two.ensures))
