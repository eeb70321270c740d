use Rattle.std.proofs.Common.{rules}
use Rattle.syntax.proofs.AnswerLaws.{fits_kept, fits-counted, refused-counted}
use mathlib.Core.Path.{◌∙◌}
use Rattle.syntax.proofs.answers.count.Goals as goal

pub limits-requires : goal.limits-requires
limits-requires c = fits_kept c.args.sort c.args.s.now c.in_ok-z.ensures

pub returns-in_err-z : goal.returns-in_err-z
returns-in_err-z c = search (rules, refused-counted)

pub returns : goal.returns
returns c = c.limits.ensures ∙ fits-counted c.args.sort c.args.s.now c.in_ok-z.ensures
