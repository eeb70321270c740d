use native.Mathlib.Omega.{arith}
use lib.ListN.{length}
use Rattle.formula.specs.Formula.{lo, hi}
use Rattle.formula.specs.declared.Sort.TheVariants.{Faces}
use Rattle.passes.proofs.PassLaws.{wrote_as}
use Rattle.operations.proofs.AnswerLaws.{subst-by, kept-sided, kept-short, side-there, subst-rewritable, subst-spells}
use Rattle.operations.proofs.results.face_subst_out.Goals as goal

pub side-n-requires : goal.side-n-requires
side-n-requires c = let a = c.args in
    let b = (subst-by Faces a.k a.s.now a.r.now (length a.out.now) c.requires) in
    kept-sided a.r.now b.interval b.is 0 (omega arith) 1024 (omega (arith, kept-short a.r.now b.interval b.is lo))

pub side-m-requires : goal.side-m-requires
side-m-requires c = let a = c.args in
    let b = (subst-by Faces a.k a.s.now a.r.now (length a.out.now) c.requires) in
    kept-sided a.r.now b.interval b.is 1 (omega arith) 1024 (omega (arith, kept-short a.r.now b.interval b.is hi))

pub slice_bounds-zero-end : goal.slice_bounds-zero-end
slice_bounds-zero-end c = let a = c.args in (side-there a.r.now (subst-by Faces a.k a.s.now a.r.now (length a.out.now) c.requires).interval (subst-by Faces a.k a.s.now a.r.now (length a.out.now) c.requires).is 0 c.side-n.result _ c.side-n.ensures).inside

pub slice_bounds-rewrite-end : goal.slice_bounds-rewrite-end
slice_bounds-rewrite-end c = let a = c.args in (side-there a.r.now (subst-by Faces a.k a.s.now a.r.now (length a.out.now) c.requires).interval (subst-by Faces a.k a.s.now a.r.now (length a.out.now) c.requires).is 0 c.side-n.result _ c.side-n.ensures).count

pub slice_bounds-one-end : goal.slice_bounds-one-end
slice_bounds-one-end c = let a = c.args in (side-there a.r.now (subst-by Faces a.k a.s.now a.r.now (length a.out.now) c.requires).interval (subst-by Faces a.k a.s.now a.r.now (length a.out.now) c.requires).is 1 c.side-m.result _ c.side-m.ensures).inside

pub slice_bounds-rewrite-end-2 : goal.slice_bounds-rewrite-end-2
slice_bounds-rewrite-end-2 c = let a = c.args in (side-there a.r.now (subst-by Faces a.k a.s.now a.r.now (length a.out.now) c.requires).interval (subst-by Faces a.k a.s.now a.r.now (length a.out.now) c.requires).is 1 c.side-m.result _ c.side-m.ensures).count

pub rewrite-requires : goal.rewrite-requires
rewrite-requires c = let a = c.args in
    subst-rewritable Faces a.k a.s.now a.r.now (length a.out.now) c.requires _ _ (side-there a.r.now (subst-by Faces a.k a.s.now a.r.now (length a.out.now) c.requires).interval (subst-by Faces a.k a.s.now a.r.now (length a.out.now) c.requires).is 0 c.side-n.result _ c.side-n.ensures).bytes (side-there a.r.now (subst-by Faces a.k a.s.now a.r.now (length a.out.now) c.requires).interval (subst-by Faces a.k a.s.now a.r.now (length a.out.now) c.requires).is 1 c.side-m.result _ c.side-m.ensures).bytes

pub returns : goal.returns
returns c = let a = c.args in
    wrote_as (subst-spells Faces a.k a.s.now a.r.now (length a.out.now) c.requires _ _ (side-there a.r.now (subst-by Faces a.k a.s.now a.r.now (length a.out.now) c.requires).interval (subst-by Faces a.k a.s.now a.r.now (length a.out.now) c.requires).is 0 c.side-n.result _ c.side-n.ensures).bytes (side-there a.r.now (subst-by Faces a.k a.s.now a.r.now (length a.out.now) c.requires).interval (subst-by Faces a.k a.s.now a.r.now (length a.out.now) c.requires).is 1 c.side-m.result _ c.side-m.ensures).bytes) c.rewrite.ensures
