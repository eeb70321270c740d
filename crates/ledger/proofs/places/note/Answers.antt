use Rattle.ledger.proofs.NotingLaws.{note-none, note-place}
use Rattle.ledger.proofs.places.note.Goals as goal

pub returns-then-between : goal.returns-then-between
returns-then-between c = let a = c.args in note-none a.step a.at a.places.now c.requires.0 c.if-between.true

pub returns : goal.returns
returns c = let a = c.args in note-place a.step a.at a.places.now c.requires.0 c.if-between.false
