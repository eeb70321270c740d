use mathlib.Core.Path.{sym}
use Rattle.steps.proofs.RunLaws.{emits-same}
use Rattle.contexts.proofs.ClosingLaws.{cover-short, cover-bytes}
use Rattle.contexts.proofs.closings.cover_step.Goals as goal

pub emit-requires : goal.emit-requires
emit-requires c = (c.requires.0, cover-short c.args.g.sound c.requires.1 c.count_field.ensures)

pub returns : goal.returns
returns c = emits-same (sym (cover-bytes c.args.g.sound c.requires.1 c.count_field.ensures)) c.emit.ensures
