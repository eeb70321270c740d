use Rattle.std.proofs.Common.{sym, ◌∙◌}
use Rattle.text.proofs.WholeLaws.{claim-not, claim-other, claim-word}
use Rattle.text.proofs.reads.claim_word.Goals as goal

pub returns-in_default : goal.returns-in_default
returns-in_default c = claim-not c.token_at.result c.token_at.ensures c.in_default.not-Word

pub returns-then-not-is_entails : goal.returns-then-not-is_entails
returns-then-not-is_entails c = claim-other c.in-Word.ensures (sym c.is_entails.ensures ∙ c.if-not-is_entails.true)

pub returns : goal.returns
returns c = claim-word c.in-Word.ensures (sym c.is_entails.ensures ∙ c.if-not-is_entails.false)
