use Rattle.text.proofs.ReadLaws.{closes-not, closes-close}
use Rattle.text.proofs.tokens.close.Goals as goal

pub returns-in_default : goal.returns-in_default
returns-in_default c = closes-not c.token_at.result c.token_at.ensures c.in_default.not-Close

pub returns : goal.returns
returns c = closes-close c.in-Close.ensures
