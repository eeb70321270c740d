use Rattle.std.proofs.Common.{arith, refl}
use Rattle.emission.proofs.GrowLaws.{appends, keeps-all}
use Rattle.emission.proofs.grow.append.Goals as goal

pub returns-then-room-operands : goal.returns-then-room-operands
returns-then-room-operands c = let a = c.args in (tt, keeps-all a.l.now a.kind _ a.references.now a.operands.now refl (omega (arith, c.used-at.ensures, c.requires.0.fits)))

pub returns-then-room-operands-2 : goal.returns-then-room-operands-2
returns-then-room-operands-2 c = let a = c.args in (tt, keeps-all a.l.now a.kind _ a.references.now a.operands.now refl (omega (arith, c.used-at.ensures, c.requires.0.fits)))

pub returns : goal.returns
returns c = let a = c.args in
    (c.used-at.ensures, appends c.requires.0 a.kind _ _ _ a.references.now a.operands.now _ _ refl c.used-at.ensures (omega (arith, c.used-at.ensures, c.requires.0.fits)) (omega (arith, c.used-at.ensures)) c.put_record.ensures c.put4.ensures)
