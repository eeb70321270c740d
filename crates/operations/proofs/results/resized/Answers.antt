use Rattle.std.proofs.lemmas.Result.{err_from_is_err_and}
use mathlib.Core.Path.{sym, ap, ◌∙◌}
use Rattle.formula.specs.Answers.{operand}
use Rattle.operations.specs.Fitting.{resized_by}
use Rattle.formula.proofs.Operands.{sized-fits, sized-refused, opened}
use Rattle.passes.proofs.TokenLaws.{opened-whole}
use Rattle.operations.proofs.AnswerLaws.{resized-kept}
use Rattle.operations.proofs.results.resized.Goals as goal

pub weigh-z-requires : goal.weigh-z-requires
weigh-z-requires c = let a = c.args in
    let f = (sized-fits a.sort (operand a.sort a.s.now) c.in_ok-operand.ensures) in
    (opened-whole a.sort a.s.now f.tree (opened a.sort a.s.now f.tree f.is), c.requires)

pub returns-then-within : goal.returns-then-within
returns-then-within c = let a = c.args in
    let f = (sized-fits a.sort (operand a.sort a.s.now) c.in_ok-operand.ensures) in
    sym (resized-kept a.sort a.rule a.hit a.s.now f.tree f.is c.weigh-z.result c.weigh-z.ensures ∙ rw (sym c.within.ensures ∙ c.if-within.true))

pub returns : goal.returns
returns c = let a = c.args in
    let f = (sized-fits a.sort (operand a.sort a.s.now) c.in_ok-operand.ensures) in
    sym (resized-kept a.sort a.rule a.hit a.s.now f.tree f.is c.weigh-z.result c.weigh-z.ensures ∙ rw (sym c.within.ensures ∙ c.if-within.false))

pub returns-in_err-operand : goal.returns-in_err-operand
returns-in_err-operand c = let a = c.args in
    let p = err_from_is_err_and c.from_residual.result c.from_residual.ensures.1 in
    rw (p.1, p.2) (sym (ap (resized_by a.sort a.rule a.hit) (sized-refused a.sort (operand a.sort a.s.now) c.in_err-operand.ensures)))
