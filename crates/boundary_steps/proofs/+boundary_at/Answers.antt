use mathlib.Core.Path.{refl, sym, ◌∙◌}
use Rattle.std.proofs.lemmas.Result.{err_from_is_err_and}
use Rattle.formula.specs.declared.Sort.TheVariants.{Intervals}
use Rattle.steps.proofs.RunLaws.{runs-led}
use Rattle.steps.proofs.PlaceLaws.{known_at, at-inside, pending-inside, at-spans, viewed-at}
use Rattle.steps.proofs.WalkLaws.{right-at, two-end, less_one, less-left, less-right, leaf-both, one-both-stop, one-both, two-both-stop, two-both-stop-right, two-both}
use Rattle.steps.proofs.LentLaws.{kept-of, lent-on}
use Rattle.boundary_steps.proofs.BoundaryLaws.{same_end, beside, ends-span, lit-both, sides-below, sides-left, sides-right, sides-end}
use Rattle.boundary_steps.proofs.+boundary_at.Goals as goal

pub over-w-requires : goal.over-w-requires
over-w-requires t c = known_at c.requires.1.zeros

pub boundary_end-requires : goal.boundary_end-requires
boundary_end-requires t c = let a = c.args in
    let v = viewed-at Intervals a.r.now a.here c.requires.0 _ _ c.step.ensures c.in-Leaf.is in
    let s = ends-span c.requires.0 c.requires.1 c.over-w.ensures in
    (kept-of a.p.now, at-spans c.requires.0 v.end, s.0, s.1)

pub invariant_of-p : goal.invariant_of-p
invariant_of-p t c = let a = c.args in
    let v = viewed-at Intervals a.r.now a.here c.requires.0 _ _ c.step.ensures c.in-Leaf.is in
    record { indexed = runs-led (leaf-both (beside c.requires.0 c.requires.1) v c.over-w.ensures c.boundary_end.ensures).runs }

pub returns-in-Leaf : goal.returns-in-Leaf
returns-in-Leaf t c = let a = c.args in
    let v = viewed-at Intervals a.r.now a.here c.requires.0 _ _ c.step.ensures c.in-Leaf.is in
    record { walks = leaf-both (beside c.requires.0 c.requires.1) v c.over-w.ensures c.boundary_end.ensures; lent = record { ledger = refl; index = refl } }

pub over-w-requires-in-Lit : goal.over-w-requires-in-Lit
over-w-requires-in-Lit t c = known_at c.requires.1.zeros

pub boundary_end-requires-in-Lit : goal.boundary_end-requires-in-Lit
boundary_end-requires-in-Lit t c = let a = c.args in
    let v = viewed-at Intervals a.r.now a.here c.requires.0 _ _ c.step.ensures c.in-Lit.is in
    let s = ends-span c.requires.0 c.requires.1 c.over-w-in-Lit.ensures in
    (kept-of a.p.now, at-spans c.requires.0 v.end, s.0, s.1)

pub invariant_of-p-in-Lit : goal.invariant_of-p-in-Lit
invariant_of-p-in-Lit t c = let a = c.args in
    let v = viewed-at Intervals a.r.now a.here c.requires.0 _ _ c.step.ensures c.in-Lit.is in
    record { indexed = runs-led (lit-both c.requires.0 c.requires.1 v c.over-w-in-Lit.ensures c.boundary_end-in-Lit.ensures).runs }

pub returns-in-Lit : goal.returns-in-Lit
returns-in-Lit t c = let a = c.args in
    let v = viewed-at Intervals a.r.now a.here c.requires.0 _ _ c.step.ensures c.in-Lit.is in
    record { walks = lit-both c.requires.0 c.requires.1 v c.over-w-in-Lit.ensures c.boundary_end-in-Lit.ensures; lent = record { ledger = refl; index = refl } }

pub boundary_at-requires : goal.boundary_at-requires
boundary_at-requires t c = let a = c.args in
    let v = viewed-at Intervals a.r.now a.here c.requires.0 _ _ c.step.ensures c.in-One.is in
    (less_one c.requires.0 v c.decreases, (v.below, sides-below c.requires.0 c.requires.1 v))

pub returns-in_err-a-in-One : goal.returns-in_err-a-in-One
returns-in_err-a-in-One t c = let a = c.args in
    let v = viewed-at Intervals a.r.now a.here c.requires.0 _ _ c.step.ensures c.in-One.is in
    let p = err_from_is_err_and c.from_residual.result c.from_residual.ensures.1 in
    let w = c.in_err-a-in-One.ensures in
    rw (p.1, p.2) (record { walks = one-both-stop (beside c.requires.0 c.requires.1) v w.walks; lent = w.lent })

pub boundary_end-requires-in-One : goal.boundary_end-requires-in-One
boundary_end-requires-in-One t c = let a = c.args in
    let v = viewed-at Intervals a.r.now a.here c.requires.0 _ _ c.step.ensures c.in-One.is in
    let m = c.in_ok-a-in-One.ensures.walks.moved in
    let s = ends-span c.requires.0 c.requires.1 (m.1 ∙ sym (same_end c.requires.1)) in
    (kept-of c.boundary_at.new.p, at-spans c.requires.0 (m.0 ∙ v.end), s.0, s.1)

pub invariant_of-p-in-One : goal.invariant_of-p-in-One
invariant_of-p-in-One t c = let a = c.args in
    let v = viewed-at Intervals a.r.now a.here c.requires.0 _ _ c.step.ensures c.in-One.is in
    record { indexed = runs-led (one-both (beside c.requires.0 c.requires.1) v c.in_ok-a-in-One.ensures.walks (sym (same_end c.requires.1)) c.boundary_end-in-One.ensures).runs }

pub returns-in_ok-a-in-One : goal.returns-in_ok-a-in-One
returns-in_ok-a-in-One t c = let a = c.args in
    let v = viewed-at Intervals a.r.now a.here c.requires.0 _ _ c.step.ensures c.in-One.is in
    record { walks = one-both (beside c.requires.0 c.requires.1) v c.in_ok-a-in-One.ensures.walks (sym (same_end c.requires.1)) c.boundary_end-in-One.ensures; lent = lent-on c.in_ok-a-in-One.ensures.lent (record { ledger = refl; index = refl }) }

pub inside-requires : goal.inside-requires
inside-requires t c = (at-inside c.requires.1.zeros, pending-inside c.requires.1.zeros)

pub boundary_at-requires-in-Two : goal.boundary_at-requires-in-Two
boundary_at-requires-in-Two t c = let a = c.args in
    let v = viewed-at Intervals a.r.now a.here c.requires.0 _ _ c.step.ensures c.in-Two.is in
    (less-left c.requires.0 v c.decreases, (v.left, sides-left c.requires.0 c.requires.1 v c.inside.ensures))

pub returns-in_err-a-in-Two : goal.returns-in_err-a-in-Two
returns-in_err-a-in-Two t c = let a = c.args in
    let v = viewed-at Intervals a.r.now a.here c.requires.0 _ _ c.step.ensures c.in-Two.is in
    let p = err_from_is_err_and c.from_residual-in_err-a-in-Two.result c.from_residual-in_err-a-in-Two.ensures.1 in
    let w = c.in_err-a-in-Two.ensures in
    rw (p.1, p.2) (record { walks = two-both-stop (beside c.requires.0 c.requires.1) v w.walks; lent = w.lent })

pub boundary_at-requires-in-Two-2 : goal.boundary_at-requires-in-Two-2
boundary_at-requires-in-Two-2 t c = let a = c.args in
    let v = viewed-at Intervals a.r.now a.here c.requires.0 _ _ c.step.ensures c.in-Two.is in
    let m = c.in_ok-a-in-Two.ensures.walks.moved in
    (less-right c.requires.0 v m.0 c.decreases, (right-at v m.0, sides-right c.requires.0 c.requires.1 v c.inside.ensures m.0 m.1))

pub returns-in_err-b-in-Two : goal.returns-in_err-b-in-Two
returns-in_err-b-in-Two t c = let a = c.args in
    let v = viewed-at Intervals a.r.now a.here c.requires.0 _ _ c.step.ensures c.in-Two.is in
    let p = err_from_is_err_and c.from_residual-in_err-b-in-Two.result c.from_residual-in_err-b-in-Two.ensures.1 in
    let w = c.in_err-b-in-Two.ensures in
    rw (p.1, p.2) (record { walks = two-both-stop-right (beside c.requires.0 c.requires.1) v c.in_ok-a-in-Two.ensures.walks w.walks; lent = lent-on c.in_ok-a-in-Two.ensures.lent w.lent })

pub boundary_end-requires-in-Two : goal.boundary_end-requires-in-Two
boundary_end-requires-in-Two t c = let a = c.args in
    let v = viewed-at Intervals a.r.now a.here c.requires.0 _ _ c.step.ensures c.in-Two.is in
    let m = c.in_ok-a-in-Two.ensures.walks.moved in
    let n = c.in_ok-b-in-Two.ensures.walks.moved in
    let s = ends-span c.requires.0 c.requires.1 (n.1 ∙ sides-end c.requires.0 c.requires.1 v c.inside.ensures m.0 m.1) in
    (kept-of c.boundary_at-in-Two-2.new.p, at-spans c.requires.0 (two-end v m.0 n.0), s.0, s.1)

pub invariant_of-p-in-Two : goal.invariant_of-p-in-Two
invariant_of-p-in-Two t c = let a = c.args in
    let v = viewed-at Intervals a.r.now a.here c.requires.0 _ _ c.step.ensures c.in-Two.is in
    let m = c.in_ok-a-in-Two.ensures.walks.moved in
    record { indexed = runs-led (two-both (beside c.requires.0 c.requires.1) v c.in_ok-a-in-Two.ensures.walks c.in_ok-b-in-Two.ensures.walks (sides-end c.requires.0 c.requires.1 v c.inside.ensures m.0 m.1) c.boundary_end-in-Two.ensures).runs }

pub returns-in_ok-b-in-Two : goal.returns-in_ok-b-in-Two
returns-in_ok-b-in-Two t c = let a = c.args in
    let v = viewed-at Intervals a.r.now a.here c.requires.0 _ _ c.step.ensures c.in-Two.is in
    let m = c.in_ok-a-in-Two.ensures.walks.moved in
    record { walks = two-both (beside c.requires.0 c.requires.1) v c.in_ok-a-in-Two.ensures.walks c.in_ok-b-in-Two.ensures.walks (sides-end c.requires.0 c.requires.1 v c.inside.ensures m.0 m.1) c.boundary_end-in-Two.ensures; lent = lent-on c.in_ok-a-in-Two.ensures.lent (lent-on c.in_ok-b-in-Two.ensures.lent (record { ledger = refl; index = refl })) }

pub returns-in-Stuck : goal.returns-in-Stuck
returns-in-Stuck t c = let a = c.args in
    absurd (viewed-at Intervals a.r.now a.here c.requires.0 _ _ c.step.ensures c.in-Stuck.is)
