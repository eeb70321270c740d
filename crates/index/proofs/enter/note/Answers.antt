use mathlib.Core.Path.{refl}
use Rattle.index.proofs.EnterLaws.{placed-part}
use Rattle.index.proofs.enter.note.Goals as goal

pub returns : goal.returns
returns c = let a = c.args in placed-part a.x.now c.places_from-p.result a.n a.at c.note.new.places _ c.places_from-p.ensures.0 c.note.ensures refl
