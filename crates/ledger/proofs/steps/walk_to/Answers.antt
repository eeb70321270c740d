use Rattle.std.proofs.Common.{arith, ◌≡◌, refl, ap, ◌∙◌}
use Rattle.ledger.specs.Ledger.{steps_of, place_of}
use Rattle.ledger.proofs.PointLaws.{walks_next}
use Rattle.ledger.proofs.steps.walk_to.Goals as goal

pub loop-step-init : goal.loop-step-init
loop-step-init c = record { led = c.requires.0; among = omega (arith, c.requires.1, c.requires.2); place = c.requires.3 }

pub next-n-requires : goal.next-n-requires
next-n-requires c = record { led = c.requires.0; inside = omega (arith, c.requires.1); place = c.loop-step.invariant.place }

pub loop-step-preserved : goal.loop-step-preserved
loop-step-preserved c = walks_next (record { led = c.requires.0; inside = omega (arith, c.requires.1); place = c.loop-step.invariant.place }) (omega arith, c.next-n.ensures.1)

pub returns : goal.returns
returns c = let e : c.loop-step.step ≡ c.args.i = omega (arith, c.loop-step.auto.step-end c.requires.2) in (refl, c.loop-step.invariant.place ∙ ap (place_of (steps_of c.args.l.now)) e)
