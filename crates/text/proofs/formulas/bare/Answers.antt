use Rattle.std.proofs.Common.{sym, ◌∙◌}
use Rattle.text.proofs.ParseLaws.{word-as, bare-refused, bare-literal, bare-read}
use Rattle.text.proofs.formulas.bare.Goals as goal

pub returns-in-Nullary : goal.returns-in-Nullary
returns-in-Nullary c = bare-read (word-as c.in-Some.ensures) (sym c.kind_of.ensures ∙ c.in-Nullary.is) c.requires.0.1 c.head.ensures

pub returns-in-Literal : goal.returns-in-Literal
returns-in-Literal c = bare-literal (word-as c.in-Some.ensures) (sym c.kind_of.ensures ∙ c.in-Literal.is)

pub returns-in_default-kind_of : goal.returns-in_default-kind_of
returns-in_default-kind_of c = bare-refused (word-as c.in-Some.ensures) (λ e. c.in_default-kind_of.not-Nullary (c.kind_of.ensures ∙ e))
