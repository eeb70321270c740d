use Rattle.std.proofs.Common.{sym}
use Rattle.formula.proofs.ByteLaws.{pasted}
use Rattle.kinds.proofs.table.put_name.Goals as goal

pub returns : goal.returns
returns c = rw (sym c.name_of-name.ensures) (pasted _ c.args.out.now _ c.args.at (rw c.name_of-name.ensures c.requires) c.copy_from_slice.ensures.after)
