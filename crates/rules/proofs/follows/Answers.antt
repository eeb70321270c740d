use mathlib.Core.Path.{subst, sym}
use mathlib.Core.List.{List}
use Prim.Native.Nat.{◌-◌}
use native.Mathlib.Omega.{arith}
use Rattle.rows.specs.declared.Item.{Item}
use Rattle.rows.specs.Items.{RowFits}
use Rattle.rows.specs.Flattening.{joined}
use Rattle.rows.proofs.RowLaws.{row-fits}
use Rattle.rules.specs.Standing.{Decides}
use Rattle.rules.specs.Matching.{Matched, spoken}
use Rattle.rules.proofs.Instances.{kind-judged}
use Rattle.rules.proofs.follows.Goals as goal

pub match_row-requires : goal.match_row-requires
match_row-requires c = (c.requires, subst RowFits (sym c.row.ensures) (row-fits (c.args.kind - 1) (omega (arith, c.if-kind-eq0.false, c.if-kind-gt75.false))))

pub returns : goal.returns
returns c = let a = c.args in kind-judged a.l.now a.kind a.claims.now c.match_row.result c.if-kind-eq0.false c.if-kind-gt75.false (subst (λ (r : List (List Item)). Decides c.match_row.result (Matched (joined r) (spoken a.l.now a.claims.now))) c.row.ensures c.match_row.ensures)
