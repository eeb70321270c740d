use Rattle.std.proofs.Common.{ℕ, List, ap, ◌∙◌}
use Rattle.formula.specs.Answers.{same_bytes}
use Rattle.formula.proofs.ByteLaws.{same-pointwise}
use Rattle.kinds.proofs.table.is_name.Goals as goal

pub returns : goal.returns
returns c = c.eq.ensures ∙ same-pointwise c.name_of.result.now c.args.s.now ∙ ap (λ (l : List ℕ). same_bytes l c.args.s.now) c.name_of.ensures
