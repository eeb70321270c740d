use Prim.Native.Nat.{ℕ, ◌+◌, ◌-◌}
use mathlib.Core.Path.{ap}
use mathlib.Core.List.{List}
use lib.ListN.{length}
use Rattle.steps.proofs.places.over.Goals as goal

pub returns : goal.returns
returns c = ap (λ (x : List ℕ). record { at = c.args.p.at + length x; pending = c.args.p.pending - 1 }) c.formula_at-part.ensures
