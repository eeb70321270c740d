use mathlib.Core.Path.{sym}
use Rattle.contexts.proofs.moves.first_clash.Goals as goal

pub returns-then-apart : goal.returns-then-apart
returns-then-apart c = sym (c.apart.ensures c.if-apart.true)
