use mathlib.Core.Path.{refl}
use Rattle.steps.proofs.TreeLaws.{known}
use Rattle.contexts.proofs.ClosingLaws.{ff-is, absurd-rule, absurd-runs}
use Rattle.contexts.proofs.closings.by_absurd.Goals as goal

pub by_member-requires : goal.by_member-requires
by_member-requires c = (known (ff-is refl), c.requires, absurd-rule _ _ refl)

pub returns : goal.returns
returns c = record { runs = absurd-runs _ _ refl c.by_member.ensures.runs; lent = c.by_member.ensures.lent }
