use native.Mathlib.Omega.{arith}
use mathlib.Core.Path.{sym, ◌∙◌}
use borrow.Author.Tests.{lt-ltb, le-ltb}
use Rattle.formula.proofs.StepLaws.{face-limits}
use Rattle.formula.proofs.node.face_kind.Goals as goal

pub returns-in-0-to-1 : goal.returns-in-0-to-1
returns-in-0-to-1 c = sym (face-limits _ ∙ simp (lt-ltb c.args.b 2 (omega arith)))

pub returns-in-2-to-3 : goal.returns-in-2-to-3
returns-in-2-to-3 c = sym (face-limits _ ∙ simp (le-ltb c.args.b 2 (omega arith), lt-ltb c.args.b 4 (omega arith)))

pub returns-in-4-to-5 : goal.returns-in-4-to-5
returns-in-4-to-5 c = sym (face-limits _ ∙ simp (le-ltb c.args.b 2 (omega arith), le-ltb c.args.b 4 (omega arith), lt-ltb c.args.b 6 (omega arith)))

pub returns-in_default : goal.returns-in_default
returns-in_default c = sym (face-limits _ ∙ simp (le-ltb c.args.b 2 (omega arith), le-ltb c.args.b 4 (omega arith), le-ltb c.args.b 6 (omega arith)))
