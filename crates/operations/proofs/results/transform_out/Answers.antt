use mathlib.Core.Path.{sym, ap, ◌∙◌, subst}
use lib.ListN.{length}
use Rattle.operations.specs.Results.{transformed}
use Rattle.operations.specs.Fitting.{Fitting, kept_bytes}
use Rattle.operations.specs.declared.Op.{Op}
use Rattle.passes.proofs.PassLaws.{wrote_as}
use Rattle.operations.proofs.AnswerLaws.{shift-rewritable, shift-spells}
use Rattle.operations.proofs.results.transform_out.Goals as goal

pub rewrite-requires : goal.rewrite-requires
rewrite-requires c = let a = c.args in shift-rewritable a.sort _ a.s.now a.r.now (length a.out.now) (subst (λ (x : Op). Fitting a.sort (transformed a.sort x a.s.now a.r.now) (length a.out.now)) c.in-DShift.is c.requires) a.r.now a.r.now

pub subst_out-requires : goal.subst_out-requires
subst_out-requires c = let a = c.args in (subst (λ (x : Op). Fitting a.sort (transformed a.sort x a.s.now a.r.now) (length a.out.now)) c.in-DSubst.is c.requires)

pub returns-in-DShift : goal.returns-in-DShift
returns-in-DShift c = let a = c.args in
    wrote_as (shift-spells a.sort _ a.s.now a.r.now (length a.out.now) (subst (λ (x : Op). Fitting a.sort (transformed a.sort x a.s.now a.r.now) (length a.out.now)) c.in-DShift.is c.requires) a.r.now a.r.now ∙ sym (ap (λ (x : Op). kept_bytes a.sort (transformed a.sort x a.s.now a.r.now)) c.in-DShift.is)) c.rewrite.ensures

pub returns-in-DSubst : goal.returns-in-DSubst
returns-in-DSubst c = let a = c.args in wrote_as (sym (ap (λ (x : Op). kept_bytes a.sort (transformed a.sort x a.s.now a.r.now)) c.in-DSubst.is)) c.subst_out.ensures
