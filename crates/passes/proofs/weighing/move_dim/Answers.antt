use mathlib.Core.Path.{sym, ap, ◌∙◌}
use Rattle.passes.specs.Rewriting.{moved_to}
use Rattle.passes.specs.declared.Rule.{Rule}
use Rattle.passes.proofs.weighing.move_dim.Goals as goal

pub returns-in-Up : goal.returns-in-Up
returns-in-Up c = let a = c.args in c.raised.ensures ∙ ap (λ (x : Rule). moved_to x a.n) (sym c.in-Up.is)

pub returns-in-Down : goal.returns-in-Down
returns-in-Down c = let a = c.args in c.lowered.ensures ∙ ap (λ (x : Rule). moved_to x a.n) (sym c.in-Down.is)

pub returns-in-Ends : goal.returns-in-Ends
returns-in-Ends c = let a = c.args in ap (λ (x : Rule). moved_to x a.n) (sym c.in-Ends.is)
