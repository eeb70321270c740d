use Rattle.std.proofs.Common.{rules}
use Rattle.forms.proofs.PutLaws.{filled}
use Rattle.forms.proofs.put_times.Goals as goal

pub returns : goal.returns
returns c = filled c.args.b c.args.n c.requires (c.fill.ensures.after (λ y h. search rules))
