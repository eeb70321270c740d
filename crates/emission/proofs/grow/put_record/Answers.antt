use Rattle.std.proofs.Common.{refl}
use Rattle.emission.proofs.GrowLaws.{four-stores}
use Rattle.emission.proofs.grow.put_record.Goals as goal

pub returns : goal.returns
returns c = let a = c.args in four-stores a.l.now _ _ _ _ a.at _ a.kind a.references.now a.operands.now refl c.put4.ensures c.put2.ensures c.put_references.ensures c.copy.ensures
