use mathlib.Core.Path.{ap, ◌∙◌}
use Rattle.clauses.specs.Words.{bits}
use Rattle.clauses.proofs.WordLaws.{with-bits}
use Rattle.literals.proofs.MaskLaws.{picks_first, picks_second}
use Rattle.literals.proofs.rows.marked.Goals as goal

pub returns-then-opposite-next : goal.returns-then-opposite-next
returns-then-opposite-next c = ap bits c.with.ensures ∙ with-bits _ _ c.requires ∙ picks_first _ _ c.opposite.ensures c.if-opposite-next.true

pub returns : goal.returns
returns c = picks_second _ _ c.opposite.ensures c.if-opposite-next.false
