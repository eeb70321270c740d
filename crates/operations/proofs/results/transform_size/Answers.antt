use native.Mathlib.Omega.{arith}
use mathlib.Core.Path.{sym, ap, ◌∙◌}
use Rattle.refusals.specs.Refusals.{map}
use Rattle.formula.specs.Answers.{size_of}
use Rattle.operations.specs.Results.{transformed}
use Rattle.operations.specs.declared.Op.{Op}
use Rattle.operations.proofs.AnswerLaws.{shift-resized}
use Rattle.operations.proofs.results.transform_size.Goals as goal

pub resized-requires : goal.resized-requires
resized-requires c = record { len = omega arith; nodes = omega arith }

pub returns-in-DShift : goal.returns-in-DShift
returns-in-DShift c = let a = c.args in
    c.resized.ensures ∙ sym (ap (λ (o : Op). map (size_of a.sort) (transformed a.sort o a.s.now a.r.now)) c.in-DShift.is ∙ shift-resized a.sort _ a.s.now a.r.now)

pub returns-in-DSubst : goal.returns-in-DSubst
returns-in-DSubst c = let a = c.args in
    c.subst_size.ensures ∙ sym (ap (λ (o : Op). map (size_of a.sort) (transformed a.sort o a.s.now a.r.now)) c.in-DSubst.is)
