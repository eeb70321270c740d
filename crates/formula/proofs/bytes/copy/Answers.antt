use Rattle.formula.proofs.ByteLaws.{pasted}
use Rattle.formula.proofs.bytes.copy.Goals as goal

pub returns : goal.returns
returns c = let a = c.args in pasted a.src.now a.out.now _ a.at c.requires c.copy_from_slice.ensures.after
