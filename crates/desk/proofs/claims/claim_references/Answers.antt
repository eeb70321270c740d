use native.Mathlib.Omega.{arith}
use Prim.Native.Nat.{◌-◌}
use mathlib.Core.Path.{◌∙◌}
use lib.ListN.{length-set}
use Rattle.ledger.specs.Ledger.{steps_of}
use Rattle.desk.specs.Walking.{cited}
use Rattle.desk.proofs.ClaimLaws.{reference-sought, reference-points, cited-at, filled_more}
use Rattle.desk.proofs.claims.claim_references.Goals as goal

pub find_step-d-requires : goal.find_step-d-requires
find_step-d-requires c = reference-sought c.requires.0 (c.loop-j.j - 1) _ (omega (arith, c.requires.2, c.loop-j.invariant.1, c.loop-j-test.true)) c.reference.ensures c.requires.1

pub claim_of-requires : goal.claim_of-requires
claim_of-requires c = reference-points c.requires.0 (c.loop-j.j - 1) _ (omega (arith, c.requires.2, c.loop-j.invariant.1, c.loop-j-test.true)) c.reference.ensures c.find_step-d.ensures

pub loop-j-preserved : goal.loop-j-preserved
loop-j-preserved c =
    let o = c.loop-j in
    let l = c.args.l.now in (
      length-set o.claims o.j c.claim_of.result ∙ o.invariant.0,
      omega arith,
      filled_more (cited (steps_of l) c.args.c.step) o.claims c.claim_of.result (omega (arith, o.invariant.0, c.loop-j-test.true))
          (cited-at l c.args.c.step o.j c.find_step-d.result.step c.reference.result o.invariant.1 c.find_step-d.ensures.0 c.reference.ensures) c.claim_of.ensures o.invariant.2,
    )

pub returns : goal.returns
returns c = let o = c.loop-j in (o.invariant.0, λ j d b. o.invariant.2 j d (omega (arith, o.invariant.0, c.loop-j-test.false)))
