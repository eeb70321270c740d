use mathlib.Core.Path.{sym, ◌∙◌}
use borrow.Author.Tests.{leb-false}
use Rattle.index.proofs.FindLaws.{slots-inside}
use Rattle.index.proofs.MarkLaws.{finish-kept}
use Rattle.index.proofs.marks.finish.Goals as goal

pub is_marked-requires : goal.is_marked-requires
is_marked-requires c = slots-inside c.requires.0 c.args.i c.requires.1

pub set_mark-requires : goal.set_mark-requires
set_mark-requires c = (slots-inside c.requires.0 c.args.i c.requires.1, leb-false _ _ (sym c.is_marked.ensures ∙ c.if-is_marked.false))

pub returns : goal.returns
returns c = finish-kept c.requires.0 c.args.i c.requires.1 c.requires.2 c.set_mark.ensures
