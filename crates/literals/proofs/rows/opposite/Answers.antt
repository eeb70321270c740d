use Rattle.literals.proofs.MaskLaws.{opposite-even, opposite-odd}
use Rattle.literals.proofs.rows.opposite.Goals as goal

pub returns-then-even : goal.returns-then-even
returns-then-even c = opposite-even c.args.k c.if-even.true

pub returns : goal.returns
returns c = opposite-odd c.args.k c.if-even.false
