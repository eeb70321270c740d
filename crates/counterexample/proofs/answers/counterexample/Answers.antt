use mathlib.Core.Path.{sym, ◌∙◌}
use Rattle.counterexample.proofs.AskLaws.{first-refused, second-refused, both-refused, both-sides, both-show}
use Rattle.counterexample.proofs.answers.counterexample.Goals as goal

pub admit-requires : goal.admit-requires
admit-requires c = both-sides c.args.d c.args.a.now c.args.b.now c.args.out.now (sym c.in-Ok-Ok.is-0 ∙ c.operand-left.ensures) (sym c.in-Ok-Ok.is-1 ∙ c.operand-right.ensures) c.max.ensures

pub returns-in-Ok-Ok : goal.returns-in-Ok-Ok
returns-in-Ok-Ok c = both-show c.args.d c.args.a.now c.args.b.now c.args.out.now (sym c.in-Ok-Ok.is-0 ∙ c.operand-left.ensures) (sym c.in-Ok-Ok.is-1 ∙ c.operand-right.ensures) c.admit.ensures

pub returns-in-Err-Err : goal.returns-in-Err-Err
returns-in-Err-Err c = both-refused c.args.d c.args.a.now c.args.b.now c.args.out.now (sym c.in-Err-Err.is-0 ∙ c.operand-left.ensures) (sym c.in-Err-Err.is-1 ∙ c.operand-right.ensures) c.earlier.ensures

pub returns-in-Err-Ok : goal.returns-in-Err-Ok
returns-in-Err-Ok c = first-refused c.args.d c.args.a.now c.args.b.now c.args.out.now (sym c.in-Err-Ok.is-0 ∙ c.operand-left.ensures) (sym c.in-Err-Ok.is-1 ∙ c.operand-right.ensures)

pub returns-in-Ok-Err : goal.returns-in-Ok-Err
returns-in-Ok-Err c = second-refused c.args.d c.args.a.now c.args.b.now c.args.out.now (sym c.in-Ok-Err.is-0 ∙ c.operand-left.ensures) (sym c.in-Ok-Err.is-1 ∙ c.operand-right.ensures)
