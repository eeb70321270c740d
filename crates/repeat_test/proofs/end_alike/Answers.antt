use native.Mathlib.Omega.{arith}
use Rattle.calculus.proofs.Fields.{below_each}
use Rattle.ledger.proofs.CheckLaws.{sought, sought-points}
use Rattle.repeat_test.proofs.TestLaws.{empty_left, empty_right, by_last}
use Rattle.repeat_test.proofs.end_alike.Goals.{then-n-eq0-via-then-n-eq0, then-n-eq0-via-else-n-eq0+then-k-eq0}
use Rattle.repeat_test.proofs.end_alike.Goals as goal

pub returns-then-n-eq0 : goal.returns-then-n-eq0
returns-then-n-eq0 c = elim c.then-n-eq0.branch [
  | then-n-eq0-via-then-n-eq0 w ↦ empty_left _ _ c.requires.0 c.requires.1 w.if-n-eq0.true
  | then-n-eq0-via-else-n-eq0+then-k-eq0 w ↦ empty_right _ _ c.requires.0 c.requires.1 w.if-k-eq0.true
]

pub seek-c-requires : goal.seek-c-requires
seek-c-requires c = let l = c.args.l.now in sought l _ (below_each 256 l (λ i p. omega (arith, c.type_inv.l i))) c.requires.0 (omega arith)

pub seek-e-requires : goal.seek-e-requires
seek-e-requires c = let m = c.args.m.now in sought m _ (below_each 256 m (λ i p. omega (arith, c.type_inv.m i))) c.requires.1 (omega arith)

pub same_claim-requires : goal.same_claim-requires
same_claim-requires c = let l = c.args.l.now in let m = c.args.m.now in (sought-points l _ (sought l _ (below_each 256 l (λ i p. omega (arith, c.type_inv.l i))) c.requires.0 (omega arith)) c.seek-c.ensures, sought-points m _ (sought m _ (below_each 256 m (λ i p. omega (arith, c.type_inv.m i))) c.requires.1 (omega arith)) c.seek-e.ensures)

pub returns : goal.returns
returns c = by_last _ _ c.requires.0 c.requires.1 (omega (arith, c.seek-c.ensures.0)) (omega (arith, c.seek-e.ensures.0)) c.same_claim.ensures
