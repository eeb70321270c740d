use native.Mathlib.Omega.{arith}
use mathlib.Core.Path.{sym, ◌∙◌}
use borrow.Author.Tests.{lt-ltb, le-ltb}
use Rattle.formula.proofs.StepLaws.{interval-limits}
use Rattle.formula.proofs.node.interval_kind.Goals as goal

pub returns-in-16-to-17 : goal.returns-in-16-to-17
returns-in-16-to-17 c = sym (interval-limits _ ∙ simp (le-ltb c.args.b 16 (omega arith), lt-ltb c.args.b 18 (omega arith)))

pub returns-in-18 : goal.returns-in-18
returns-in-18 c = sym (interval-limits _ ∙ simp (le-ltb c.args.b 16 (omega arith), le-ltb c.args.b 18 (omega arith), lt-ltb c.args.b 19 (omega arith)))

pub returns-in-19 : goal.returns-in-19
returns-in-19 c = sym (interval-limits _ ∙ simp (le-ltb c.args.b 16 (omega arith), le-ltb c.args.b 18 (omega arith), le-ltb c.args.b 19 (omega arith), lt-ltb c.args.b 20 (omega arith)))

pub returns-in-20-to-21 : goal.returns-in-20-to-21
returns-in-20-to-21 c = sym (interval-limits _ ∙ simp (le-ltb c.args.b 16 (omega arith), le-ltb c.args.b 18 (omega arith), le-ltb c.args.b 19 (omega arith), le-ltb c.args.b 20 (omega arith), lt-ltb c.args.b 22 (omega arith)))

pub returns-in_default : goal.returns-in_default
returns-in_default c = sym (interval-limits _ ∙ simp (lt-ltb c.args.b 16 (omega arith)))

pub returns-in_default-2 : goal.returns-in_default-2
returns-in_default-2 c = sym (interval-limits _ ∙ simp (le-ltb c.args.b 16 (omega arith), le-ltb c.args.b 18 (omega arith), le-ltb c.args.b 19 (omega arith), le-ltb c.args.b 20 (omega arith), le-ltb c.args.b 22 (omega arith)))
