use native.Mathlib.Omega.{arith}
use mathlib.Core.Path.{sym, ◌∙◌}
use Rattle.calculus.proofs.Fields.{below_each}
use Rattle.desk.proofs.PassLaws.{ill-answer, answers}
use Rattle.ledger.proofs.CheckLaws.{counted-led}
use Rattle.desk.proofs.pass.step_desk.Goals as goal

pub judge_steps-requires : goal.judge_steps-requires
judge_steps-requires c = let l = c.args.l.now in counted-led l (below_each 256 l (λ i p. omega (arith, c.type_inv.l i))) (sym c.well_formed-2.ensures ∙ c.in-Ok.is)

pub returns-in-Err : goal.returns-in-Err
returns-in-Err c = answers (ill-answer c.args.l.now _ (sym c.well_formed-2.ensures ∙ c.in-Err.is))
