use mathlib.Core.Path.{sym, ap, ◌∙◌}
use Rattle.std.proofs.Common.{rules}
use Rattle.refusals.specs.Refusals.{of_one}
use Rattle.formula.specs.declared.Size.{Size}
use Rattle.formula.specs.Answers.{allowed}
use Rattle.formula.proofs.Operands.{operand-sized}
use Rattle.formula.proofs.walk.operand.Goals as goal

pub returns-in_err-measure : goal.returns-in_err-measure
returns-in_err-measure c = search (rules, operand-sized)

pub returns : goal.returns
returns c = let a = c.args in c.limits.ensures ∙ sym (operand-sized a.sort a.s.now ∙ ap (of_one (λ (z : Size). allowed z z)) (sym c.in_ok-measure.ensures))
