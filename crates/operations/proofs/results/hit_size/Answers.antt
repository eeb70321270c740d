use mathlib.Core.Path.{sym, ap, ◌∙◌}
use Rattle.formula.specs.Answers.{operand}
use Rattle.operations.specs.Results.{boundaried}
use Rattle.operations.specs.Fitting.{hit_size}
use Rattle.formula.specs.declared.Sort.{Sort}
use Rattle.formula.specs.declared.Sort.TheVariants.{Intervals}
use Rattle.operations.proofs.results.hit_size.Goals as goal

pub returns-in-Faces : goal.returns-in-Faces
unfolding boundaried
returns-in-Faces c = let a = c.args in c.boundary_size.ensures ∙ sym (ap (λ (s : Sort). hit_size s (operand Intervals a.r.now)) c.in-Faces.is)

pub returns-in-Intervals : goal.returns-in-Intervals
returns-in-Intervals c = let a = c.args in c.operand.ensures ∙ sym (ap (λ (s : Sort). hit_size s (operand Intervals a.r.now)) c.in-Intervals.is)
