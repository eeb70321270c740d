use native.Mathlib.Omega.{arith}
use mathlib.Core.Path.{sym, ap, ◌∙◌}
use Rattle.ledger.specs.Ledger.{steps_of, place_of}
use Rattle.ledger.proofs.PointLaws.{walks-start}
use Rattle.ledger.proofs.steps.seek.Goals as goal

pub walk_to-requires : goal.walk_to-requires
walk_to-requires c = let p = c.requires in (p.0, p.1, omega (arith, c.start.ensures.0), c.start.ensures.1 ∙ (walks-start p.0).place ∙ ap (place_of (steps_of c.args.l.now)) (sym c.start.ensures.0))
