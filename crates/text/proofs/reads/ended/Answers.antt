use Rattle.text.proofs.WholeLaws.{not-end, at-close, at-end}
use Rattle.text.proofs.reads.ended.Goals as goal

pub returns-in-End : goal.returns-in-End
returns-in-End c = at-end c.token_at.ensures c.in-End.is

pub returns-in-Close : goal.returns-in-Close
returns-in-Close c = at-close c.token_at.ensures c.in-Close.is

pub returns-in_default : goal.returns-in_default
returns-in_default c = not-end c.token_at.result c.token_at.ensures c.in_default.not-End
