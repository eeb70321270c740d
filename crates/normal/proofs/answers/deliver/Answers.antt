use mathlib.Core.Path.{sym, ◌∙◌}
use Rattle.formula.specs.declared.Sort.TheVariants.{Faces}
use Rattle.formula.proofs.Measuring.{sized-by}
use Rattle.normal.proofs.AnswerLaws.{deliver-large, deliver-short, deliver-done, face-measured}
use Rattle.normal.proofs.answers.deliver.Goals as goal

pub returns-in_err-z : goal.returns-in_err-z
returns-in_err-z c = absurd (face-measured c.requires c.in_err-z.ensures)

pub returns-then-not-within : goal.returns-then-not-within
returns-then-not-within c = deliver-large (sized-by Faces c.args.form.now c.in_ok-z.ensures) (sym c.within.ensures ∙ c.if-not-within.true)

pub returns-then-out-form : goal.returns-then-out-form
returns-then-out-form c = deliver-short (sized-by Faces c.args.form.now c.in_ok-z.ensures) (sym c.within.ensures ∙ c.if-not-within.false) c.if-out-form.true

pub returns : goal.returns
returns c = deliver-done (sized-by Faces c.args.form.now c.in_ok-z.ensures) (sym c.within.ensures ∙ c.if-not-within.false) c.if-out-form.false c.copy.ensures
