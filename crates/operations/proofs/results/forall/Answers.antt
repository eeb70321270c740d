use Rattle.std.proofs.Common.{rules}
use Rattle.formula.specs.declared.Sort.TheVariants.{Faces}
use Rattle.operations.specs.Results.{foralled}
use Rattle.passes.proofs.PassLaws.{wrote_as}
use Rattle.operations.proofs.AnswerLaws.{answered-refused, answered-short, answered-done, forall-fitted, forall-rewritable, forall-spells}
use Rattle.operations.proofs.results.forall.Goals as goal

pub returns-then-out-z : goal.returns-then-out-z
returns-then-out-z c = let a = c.args in answered-short Faces (foralled a.k a.s.now) a.out.now _ (forall-fitted a.k a.s.now c.in_ok-z.ensures) c.if-out-z.true

pub rewrite-requires : goal.rewrite-requires
rewrite-requires c = let a = c.args in forall-rewritable a.k a.s.now c.in_ok-z.ensures _ c.if-out-z.false

pub returns : goal.returns
returns c = let a = c.args in
    answered-done Faces (foralled a.k a.s.now) a.out.now _ (forall-fitted a.k a.s.now c.in_ok-z.ensures) c.if-out-z.false _ _
    (wrote_as (forall-spells a.k a.s.now c.in_ok-z.ensures) c.rewrite.ensures)

pub returns-in_err-z : goal.returns-in_err-z
returns-in_err-z c = search (rules, answered-refused)
