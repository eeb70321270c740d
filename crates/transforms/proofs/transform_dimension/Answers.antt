use Rattle.formula.specs.declared.Sort.TheVariants.{Intervals}
use Rattle.transforms.proofs.TransformLaws.{place-of-shift, known-subst, told_is, told-runs}
use Rattle.transforms.proofs.transform_dimension.Goals as goal

pub shift_dimension-requires : goal.shift_dimension-requires
shift_dimension-requires c = let a = c.args in
    (c.requires.0, place-of-shift a.t.now a.op _ c.in-DShift.is c.requires.1, c.requires.2, told_is a.f.now a.t.now Intervals a.op _ c.in-DShift.is c.requires.3)

pub returns-in-DShift : goal.returns-in-DShift
returns-in-DShift c = let a = c.args in
    record { runs = told-runs a.f.now a.t.now Intervals a.op _ c.in-DShift.is c.shift_dimension.ensures.runs; lent = c.shift_dimension.ensures.lent }

pub subst_dimension-requires : goal.subst_dimension-requires
subst_dimension-requires c = let a = c.args in
    (c.requires.0, known-subst a.t.now a.op _ c.in-DSubst.is c.requires.1, c.requires.2, told_is a.f.now a.t.now Intervals a.op _ c.in-DSubst.is c.requires.3)

pub returns-in-DSubst : goal.returns-in-DSubst
returns-in-DSubst c = let a = c.args in
    record { runs = told-runs a.f.now a.t.now Intervals a.op _ c.in-DSubst.is c.subst_dimension.ensures.runs; lent = c.subst_dimension.ensures.lent }
