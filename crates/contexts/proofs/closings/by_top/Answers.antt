use mathlib.Core.Path.{refl}
use Rattle.steps.proofs.RunLaws.{runs-led}
use Rattle.contexts.proofs.ClosingLaws.{by-top-up}
use Rattle.contexts.proofs.closings.by_top.Goals as goal

pub invariant_of-p : goal.invariant_of-p
invariant_of-p c = record { indexed = runs-led (by-top-up c.args.g.sound c.requires.0 c.requires.1 c.cover_step.ensures) }

pub returns : goal.returns
returns c = record { runs = by-top-up c.args.g.sound c.requires.0 c.requires.1 c.cover_step.ensures; lent = record { ledger = refl; index = refl } }
