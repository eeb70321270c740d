use native.Mathlib.Omega.{arith}
use Rattle.syntax.proofs.AnswerLaws.{beyond-index, few-within, within, beyond-depth}
use Rattle.syntax.proofs.answers.limits.Goals as goal
use Rattle.syntax.proofs.answers.limits.Goals.{then-few-via-then-few, then-few-via-else-few+then-shallow}

pub returns-then-beyond : goal.returns-then-beyond
returns-then-beyond c = beyond-index c.requires (omega arith)

pub shallow-requires : goal.shallow-requires
shallow-requires c = c.requires.whole

pub returns-then-few : goal.returns-then-few
returns-then-few c =
    elim c.then-few.branch [
      | then-few-via-then-few w ↦ few-within c.requires (omega arith) (omega arith)
      | then-few-via-else-few+then-shallow w ↦ within c.requires (omega arith) w.shallow.ensures w.if-shallow.true
    ]

pub returns : goal.returns
returns c = beyond-depth c.requires (omega arith) c.shallow.ensures c.if-shallow.false
