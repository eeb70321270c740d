use native.Mathlib.Omega.{arith}
use mathlib.Core.Path.{refl, sym, ◌∙◌}
use Prim.Native.Nat.{◌+◌}
use Rattle.ledger.specs.Ledger.{steps_of}
use Rattle.desk.specs.Walking.{cited}
use Rattle.desk.proofs.ClaimLaws.{few, filled_one, four-length, four-first, claims-lie, follows-decided}
use Rattle.desk.proofs.pass.follows_at.Goals as goal

pub overflow_add-all : goal.overflow_add-all
overflow_add-all c = omega (arith, few c.requires.0, c.entry-n.ensures.0)

pub slice_bounds-all-end : goal.slice_bounds-all-end
slice_bounds-all-end c = omega (arith, few c.requires.0, c.entry-n.ensures.0)

pub slice_bounds-claims-end : goal.slice_bounds-claims-end
slice_bounds-claims-end c = sym (four-length c.claim_of-all.result (c.entry-n.result.references + 1) (omega (arith, few c.requires.0, c.entry-n.ensures.0)))

pub claim_references-requires : goal.claim_references-requires
claim_references-requires c =
    let n = c.entry-n.result.references + 1 in (
      c.requires.0,
      c.requires.1,
      four-length c.claim_of-all.result n (omega (arith, few c.requires.0, c.entry-n.ensures.0)) ∙ omega (arith, c.entry-n.ensures.0),
      filled_one (cited (steps_of c.args.l.now) c.args.c.step) _ c.claim_of-all.result refl (λ d. four-first c.claim_of-all.result n d (omega arith)) c.claim_of-all.ensures,
    )

pub follows-requires : goal.follows-requires
follows-requires c = claims-lie c.args.l.now (cited (steps_of c.args.l.now) c.args.c.step) c.claim_references.new.claims c.claim_references.ensures.1

pub returns : goal.returns
returns c =
    let n = c.entry-n.result.references + 1 in
    follows-decided c.args.l.now c.requires.0 c.claim_references.new.claims
    (c.claim_references.ensures.0 ∙ four-length c.claim_of-all.result n (omega (arith, few c.requires.0, c.entry-n.ensures.0)) ∙ omega (arith, c.entry-n.ensures.0))
    c.claim_references.ensures.1 c.kind.result c.kind.ensures c.follows.result c.follows.ensures
