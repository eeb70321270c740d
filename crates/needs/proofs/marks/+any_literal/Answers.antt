use native.Mathlib.Omega.{arith}
use Prim.Native.Nat.{◌-◌}
use mathlib.Core.Path.{◌∙◌, sym, ap, subst}
use mathlib.Core.Bool.{◌||◌}
use lib.ListN.{get_or}
use Rattle.needs.specs.Marking.{Finds}
use Rattle.needs.proofs.PlaceLaws.{stands-inside, literal-inside, first-stands, second-behind, second-stands}
use Rattle.needs.proofs.MarkLaws.{leaf-finds, literal-finds, parts-find}
use Rattle.needs.proofs.marks.+any_literal.Goals as goal

pub bounds-f-at : goal.bounds-f-at
bounds-f-at g t c = stands-inside c.requires.stands

pub overflow_add-next : goal.overflow_add-next
overflow_add-next g t c = omega (arith, stands-inside c.requires.stands)

pub returns-in-0-to-1 : goal.returns-in-0-to-1
returns-in-0-to-1 g t c = leaf-finds _ c.args.f.now c.args.at (omega arith)

pub dim_at-requires : goal.dim_at-requires
dim_at-requires g t c = literal-inside c.requires.stands (omega arith) (omega arith)

pub returns-in-2-to-3 : goal.returns-in-2-to-3
returns-in-2-to-3 g t c = literal-finds _ c.args.f.now c.args.at (omega arith) (omega arith) (subst (λ n. goal.F-post g c.args.test.now n (get_or c.args.f.now c.args.at 0 - 2) c.test.result) c.dim_at.ensures.0 c.test.ensures)

pub any_literal-left-requires : goal.any_literal-left-requires
any_literal-left-requires g t c κs within = (omega (arith, c.decreases, stands-inside c.requires.stands), (within, (first-stands c.requires.stands (omega arith), c.requires.callable)))

pub any_literal-right-requires : goal.any_literal-right-requires
any_literal-right-requires g t c κs within = (omega (arith, c.decreases, stands-inside c.requires.stands, second-behind c.requires.stands (omega arith) c.any_literal-left.ensures.ends), (within, (second-stands c.requires.stands (omega arith) c.any_literal-left.ensures.ends, c.requires.callable)))

pub returns-then-left : goal.returns-then-left
returns-then-left g t c = subst (Finds _ c.args.f.now c.args.at _) (ap (λ b. b || c.any_literal-right.result.found) c.if-left.true ∙ sym c.if-left.true) (parts-find _ c.args.f.now c.args.at (omega arith) c.any_literal-left.ensures c.any_literal-right.ensures)

pub returns-else-left : goal.returns-else-left
returns-else-left g t c = subst (Finds _ c.args.f.now c.args.at _) (ap (λ b. b || c.any_literal-right.result.found) c.if-left.false) (parts-find _ c.args.f.now c.args.at (omega arith) c.any_literal-left.ensures c.any_literal-right.ensures)
