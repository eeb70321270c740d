use mathlib.Core.Path.{sym, ◌∙◌}
use Rattle.replies.proofs.ReplyLaws.{set_front, out-ok}
use Rattle.replies.proofs.endings.deliver.Goals as goal

pub returns-then-is_ok : goal.returns-then-is_ok
returns-then-is_ok c = let p = c.args in c.copy.ensures ∙ set_front p.res.now p.out.now c.requires ∙ sym (out-ok p.a p.res.now p.out.now (sym c.is_ok.ensures.value ∙ c.if-is_ok.true))
