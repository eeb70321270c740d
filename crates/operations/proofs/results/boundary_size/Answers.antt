use native.Mathlib.Omega.{arith}
use mathlib.Core.Path.{sym, ◌∙◌}
use Rattle.operations.proofs.AnswerLaws.{boundary-resized}
use Rattle.operations.proofs.results.boundary_size.Goals as goal

pub resized-requires : goal.resized-requires
resized-requires c = record { len = omega arith; nodes = omega arith }

pub returns : goal.returns
returns c = let a = c.args in c.resized.ensures ∙ sym (boundary-resized a.s.now)
