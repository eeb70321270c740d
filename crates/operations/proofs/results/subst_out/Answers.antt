use mathlib.Core.Path.{sym, ap, ◌∙◌, subst}
use lib.ListN.{length}
use Rattle.operations.specs.Results.{transformed}
use Rattle.operations.specs.Fitting.{Fitting, kept_bytes}
use Rattle.formula.specs.declared.Sort.{Sort}
use Rattle.formula.specs.declared.Sort.TheVariants.{Intervals}
use Rattle.operations.specs.declared.Op.TheVariants.{DSubst}
use Rattle.passes.proofs.PassLaws.{wrote_as}
use Rattle.formula.proofs.Operands.{opened}
use Rattle.operations.proofs.AnswerLaws.{subst-by, subst-rewritable, subst-spells}
use Rattle.operations.proofs.results.subst_out.Goals as goal

pub face_subst_out-requires : goal.face_subst_out-requires
face_subst_out-requires c = let a = c.args in (subst (λ (x : Sort). Fitting x (transformed x (DSubst a.k) a.s.now a.r.now) (length a.out.now)) c.in-Faces.is c.requires)

pub rewrite-requires : goal.rewrite-requires
rewrite-requires c = let a = c.args in
    subst-rewritable Intervals a.k a.s.now a.r.now (length a.out.now) (subst (λ (x : Sort). Fitting x (transformed x (DSubst a.k) a.s.now a.r.now) (length a.out.now)) c.in-Intervals.is c.requires) _ _ (sym (opened Intervals a.r.now (subst-by Intervals a.k a.s.now a.r.now (length a.out.now) (subst (λ (x : Sort). Fitting x (transformed x (DSubst a.k) a.s.now a.r.now) (length a.out.now)) c.in-Intervals.is c.requires)).interval (subst-by Intervals a.k a.s.now a.r.now (length a.out.now) (subst (λ (x : Sort). Fitting x (transformed x (DSubst a.k) a.s.now a.r.now) (length a.out.now)) c.in-Intervals.is c.requires)).is).bytes) (sym (opened Intervals a.r.now (subst-by Intervals a.k a.s.now a.r.now (length a.out.now) (subst (λ (x : Sort). Fitting x (transformed x (DSubst a.k) a.s.now a.r.now) (length a.out.now)) c.in-Intervals.is c.requires)).interval (subst-by Intervals a.k a.s.now a.r.now (length a.out.now) (subst (λ (x : Sort). Fitting x (transformed x (DSubst a.k) a.s.now a.r.now) (length a.out.now)) c.in-Intervals.is c.requires)).is).bytes)

pub returns-in-Faces : goal.returns-in-Faces
returns-in-Faces c = let a = c.args in wrote_as (sym (ap (λ (x : Sort). kept_bytes x (transformed x (DSubst a.k) a.s.now a.r.now)) c.in-Faces.is)) c.face_subst_out.ensures

pub returns-in-Intervals : goal.returns-in-Intervals
returns-in-Intervals c = let a = c.args in
    wrote_as (subst-spells Intervals a.k a.s.now a.r.now (length a.out.now) (subst (λ (x : Sort). Fitting x (transformed x (DSubst a.k) a.s.now a.r.now) (length a.out.now)) c.in-Intervals.is c.requires) _ _ (sym (opened Intervals a.r.now (subst-by Intervals a.k a.s.now a.r.now (length a.out.now) (subst (λ (x : Sort). Fitting x (transformed x (DSubst a.k) a.s.now a.r.now) (length a.out.now)) c.in-Intervals.is c.requires)).interval (subst-by Intervals a.k a.s.now a.r.now (length a.out.now) (subst (λ (x : Sort). Fitting x (transformed x (DSubst a.k) a.s.now a.r.now) (length a.out.now)) c.in-Intervals.is c.requires)).is).bytes) (sym (opened Intervals a.r.now (subst-by Intervals a.k a.s.now a.r.now (length a.out.now) (subst (λ (x : Sort). Fitting x (transformed x (DSubst a.k) a.s.now a.r.now) (length a.out.now)) c.in-Intervals.is c.requires)).interval (subst-by Intervals a.k a.s.now a.r.now (length a.out.now) (subst (λ (x : Sort). Fitting x (transformed x (DSubst a.k) a.s.now a.r.now) (length a.out.now)) c.in-Intervals.is c.requires)).is).bytes) ∙ sym (ap (λ (x : Sort). kept_bytes x (transformed x (DSubst a.k) a.s.now a.r.now)) c.in-Intervals.is))
    c.rewrite.ensures
