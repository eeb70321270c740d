use mathlib.Core.Path.{refl, sym, ◌∙◌, subst}
use Rattle.std.proofs.lemmas.Result.{err_from_is_err_and}
use Rattle.formula.specs.declared.Sort.TheVariants.{Faces}
use Rattle.formula.specs.Operations.{forall as forall_of}
use Rattle.calculus.specs.Calls.{emit_forall}
use Rattle.steps.specs.Trees.{Known, Literal}
use Rattle.steps.specs.Walking.{tree_at}
use Rattle.steps.proofs.RunLaws.{runs-led}
use Rattle.steps.proofs.NodeLaws.{literal-of, part-runs, no_one}
use Rattle.steps.proofs.PlaceLaws.{known_at, at-inside, pending-inside, at-spans, between-part, viewed-at}
use Rattle.steps.proofs.WalkLaws.{right-at, two-end, less-left, less-right, image-two, left-image, right-image, image-end, leaf-both, two-both-stop, two-both-stop-right, two-both}
use Rattle.steps.proofs.LentLaws.{kept-of, lent-on}
use Rattle.forall_steps.proofs.ForallLaws.{forall-two, beside, literal-image}
use Rattle.forall_steps.proofs.+forall_at.Goals as goal

pub over-w-requires : goal.over-w-requires
over-w-requires t c = known_at c.requires.2

pub forall_end-requires : goal.forall_end-requires
forall_end-requires t c = let a = c.args in
    let v = viewed-at Faces a.f.now a.here c.requires.0 _ _ c.step.ensures c.in-Leaf.is in
    (kept-of a.p.now, at-spans c.requires.0 v.end, c.requires.1, at-spans c.requires.2 c.over-w.ensures)

pub invariant_of-p : goal.invariant_of-p
invariant_of-p t c = let a = c.args in
    let v = viewed-at Faces a.f.now a.here c.requires.0 _ _ c.step.ensures c.in-Leaf.is in
    record { indexed = runs-led (leaf-both (beside a.k c.requires.0 c.requires.2 c.requires.1) v c.over-w.ensures c.forall_end.ensures).runs }

pub returns-in-Leaf : goal.returns-in-Leaf
returns-in-Leaf t c = let a = c.args in
    let v = viewed-at Faces a.f.now a.here c.requires.0 _ _ c.step.ensures c.in-Leaf.is in
    record { walks = leaf-both (beside a.k c.requires.0 c.requires.2 c.requires.1) v c.over-w.ensures c.forall_end.ensures; lent = (record { ledger = refl; index = refl }) }

pub over-w-requires-in-Lit : goal.over-w-requires-in-Lit
over-w-requires-in-Lit t c = known_at c.requires.2

pub between-requires : goal.between-requires
between-requires t c = at-spans c.requires.2 c.over-w-in-Lit.ensures

pub forall_literal-requires : goal.forall_literal-requires
forall_literal-requires t c = let a = c.args in
    let v = viewed-at Faces a.f.now a.here c.requires.0 _ _ c.step.ensures c.in-Lit.is in
    let e = between-part c.requires.0 c.between-x.ensures v.end in
    (subst (Known Faces) (sym e) c.requires.0.is, c.requires.1, subst (Literal Faces _) (sym e) (literal-of v.view), literal-image a.k c.requires.0 c.requires.2 e c.between.ensures c.over-w-in-Lit.ensures)

pub returns-in_err-step-in-Lit : goal.returns-in_err-step-in-Lit
returns-in_err-step-in-Lit t c = let a = c.args in
    let v = viewed-at Faces a.f.now a.here c.requires.0 _ _ c.step.ensures c.in-Lit.is in
    let p = err_from_is_err_and c.from_residual.result c.from_residual.ensures.1 in
    let w = c.in_err-step-in-Lit.ensures in
    rw (p.1, p.2) (record { walks = record { runs = part-runs Faces (emit_forall a.k) (between-part c.requires.0 c.between-x.ensures v.end) w.runs; moved = tt }; lent = w.lent })

pub returns-in_ok-step-in-Lit : goal.returns-in_ok-step-in-Lit
returns-in_ok-step-in-Lit t c = let a = c.args in
    let v = viewed-at Faces a.f.now a.here c.requires.0 _ _ c.step.ensures c.in-Lit.is in
    let w = c.in_ok-step-in-Lit.ensures in
    record { walks = record { runs = part-runs Faces (emit_forall a.k) (between-part c.requires.0 c.between-x.ensures v.end) w.runs; moved = (v.end, c.over-w-in-Lit.ensures) }; lent = w.lent }

pub inside-requires : goal.inside-requires
inside-requires t c = (at-inside c.requires.2, pending-inside c.requires.2)

pub forall_at-requires : goal.forall_at-requires
forall_at-requires t c = let a = c.args in
    let v = viewed-at Faces a.f.now a.here c.requires.0 _ _ c.step.ensures c.in-Two.is in
    (less-left c.requires.0 v c.decreases, (v.left, c.requires.1, left-image (image-two Faces Faces (forall_of a.k) (forall-two a.k) v refl c.requires.2) c.inside.ensures))

pub returns-in_err-a-in-Two : goal.returns-in_err-a-in-Two
returns-in_err-a-in-Two t c = let a = c.args in
    let v = viewed-at Faces a.f.now a.here c.requires.0 _ _ c.step.ensures c.in-Two.is in
    let p = err_from_is_err_and c.from_residual-in_err-a-in-Two.result c.from_residual-in_err-a-in-Two.ensures.1 in
    let w = c.in_err-a-in-Two.ensures in
    rw (p.1, p.2) (record { walks = two-both-stop (beside a.k c.requires.0 c.requires.2 c.requires.1) v w.walks; lent = w.lent })

pub forall_at-requires-in-Two : goal.forall_at-requires-in-Two
forall_at-requires-in-Two t c = let a = c.args in
    let v = viewed-at Faces a.f.now a.here c.requires.0 _ _ c.step.ensures c.in-Two.is in
    let m = c.in_ok-a-in-Two.ensures.walks.moved in
    (less-right c.requires.0 v m.0 c.decreases, (right-at v m.0, c.requires.1, right-image (image-two Faces Faces (forall_of a.k) (forall-two a.k) v m.0 c.requires.2) c.inside.ensures m.1))

pub returns-in_err-b-in-Two : goal.returns-in_err-b-in-Two
returns-in_err-b-in-Two t c = let a = c.args in
    let v = viewed-at Faces a.f.now a.here c.requires.0 _ _ c.step.ensures c.in-Two.is in
    let p = err_from_is_err_and c.from_residual-in_err-b-in-Two.result c.from_residual-in_err-b-in-Two.ensures.1 in
    let w = c.in_err-b-in-Two.ensures in
    rw (p.1, p.2) (record { walks = two-both-stop-right (beside a.k c.requires.0 c.requires.2 c.requires.1) v c.in_ok-a-in-Two.ensures.walks w.walks; lent = lent-on c.in_ok-a-in-Two.ensures.lent w.lent })

pub forall_end-requires-in-Two : goal.forall_end-requires-in-Two
forall_end-requires-in-Two t c = let a = c.args in
    let v = viewed-at Faces a.f.now a.here c.requires.0 _ _ c.step.ensures c.in-Two.is in
    let m = c.in_ok-a-in-Two.ensures.walks.moved in
    let n = c.in_ok-b-in-Two.ensures.walks.moved in
    (kept-of c.forall_at-in-Two.new.p, at-spans c.requires.0 (two-end v m.0 n.0), c.requires.1, at-spans c.requires.2 (n.1 ∙ image-end (image-two Faces Faces (forall_of a.k) (forall-two a.k) v m.0 c.requires.2) c.inside.ensures m.1))

pub invariant_of-p-in-Two : goal.invariant_of-p-in-Two
invariant_of-p-in-Two t c = let a = c.args in
    let v = viewed-at Faces a.f.now a.here c.requires.0 _ _ c.step.ensures c.in-Two.is in
    let m = c.in_ok-a-in-Two.ensures.walks.moved in
    record { indexed = runs-led (two-both (beside a.k c.requires.0 c.requires.2 c.requires.1) v c.in_ok-a-in-Two.ensures.walks c.in_ok-b-in-Two.ensures.walks (image-end (image-two Faces Faces (forall_of a.k) (forall-two a.k) v m.0 c.requires.2) c.inside.ensures m.1) c.forall_end-in-Two.ensures).runs }

pub returns-in_ok-b-in-Two : goal.returns-in_ok-b-in-Two
returns-in_ok-b-in-Two t c = let a = c.args in
    let v = viewed-at Faces a.f.now a.here c.requires.0 _ _ c.step.ensures c.in-Two.is in
    let m = c.in_ok-a-in-Two.ensures.walks.moved in
    record { walks = two-both (beside a.k c.requires.0 c.requires.2 c.requires.1) v c.in_ok-a-in-Two.ensures.walks c.in_ok-b-in-Two.ensures.walks (image-end (image-two Faces Faces (forall_of a.k) (forall-two a.k) v m.0 c.requires.2) c.inside.ensures m.1) c.forall_end-in-Two.ensures; lent = lent-on c.in_ok-a-in-Two.ensures.lent (lent-on c.in_ok-b-in-Two.ensures.lent (record { ledger = refl; index = refl })) }

pub returns-in-One : goal.returns-in-One
returns-in-One t c = let a = c.args in
    let v = viewed-at Faces a.f.now a.here c.requires.0 _ _ c.step.ensures c.in-One.is in
    no_one (tree_at Faces a.f.now a.here) v.view

pub returns-in-Stuck : goal.returns-in-Stuck
returns-in-Stuck t c = let a = c.args in
    absurd (viewed-at Faces a.f.now a.here c.requires.0 _ _ c.step.ensures c.in-Stuck.is)
