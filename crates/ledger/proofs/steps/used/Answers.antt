use mathlib.Core.Path.{ap, ◌∙◌}
use Prim.Native.Nat.{ℕ, ◌+◌}
use Rattle.ledger.proofs.LedgerLaws.{used-law}
use Rattle.ledger.proofs.steps.used.Goals as goal

pub returns : goal.returns
returns c = ap (λ (n : ℕ). 4 + n) c.get4.ensures.0 ∙ used-law c.requires
