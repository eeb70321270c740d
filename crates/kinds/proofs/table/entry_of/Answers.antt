use Rattle.std.proofs.Common.{sym, ap, ◌∙◌}
use Rattle.kinds.specs.Kinds.{entry_as}
use Rattle.kinds.proofs.table.entry_of.Goals as goal

pub returns-in_err-references : goal.returns-in_err-references
returns-in_err-references c = c.from_residual.ensures ∙ sym (ap entry_as c.in_err-references.ensures)
