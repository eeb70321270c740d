use Rattle.ledger.proofs.NotingLaws.{walk_start}
use Rattle.std.proofs.Common.{refl}
use Rattle.ledger.proofs.places.find_step.Goals as goal

pub walk_to-requires : goal.walk_to-requires
walk_to-requires c = let a = c.args in walk_start a.l.now a.places.now a.i _ c.requires refl
