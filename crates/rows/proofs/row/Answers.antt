use mathlib.Core.Path.{◌≡◌, sym, ap, ap₂, ◌∙◌, subst}
use Prim.Native.Nat.{ℕ, suc, ◌-◌, ◌≤◌}
use native.Mathlib.Omega.{arith}
use Rattle.rows.specs.Flattening.{part, all_lines, start_at}
use Rattle.rows.proofs.RowLaws.{start_next, row-lines}
use Rattle.rows.proofs.row.Goals as goal

pub between-requires : goal.between-requires
between-requires c =
    let e : suc (c.args.kind - 1) ≡ c.args.kind = omega (arith, c.requires) in
    let h : start_at (c.args.kind - 1) ≤ start_at c.args.kind = subst (λ (k : ℕ). start_at (c.args.kind - 1) ≤ start_at k) e (start_next (c.args.kind - 1) (omega (arith, c.requires))) in
    (omega (arith, h, c.start.ensures.0, c.start-2.ensures.0), c.start-2.ensures.1)

pub returns : goal.returns
returns c =
    let e : suc (c.args.kind - 1) ≡ c.args.kind = omega (arith, c.requires) in
    c.between.ensures
    ∙ ap₂ (part all_lines) c.start.ensures.0 (c.start-2.ensures.0 ∙ ap start_at (sym e))
    ∙ row-lines (c.args.kind - 1) (omega (arith, c.requires))
