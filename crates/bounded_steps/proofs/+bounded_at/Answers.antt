use mathlib.Core.Path.{refl, sym, ◌∙◌, subst}
use Rattle.std.proofs.lemmas.Result.{err_from_is_err_and}
use Rattle.steps.specs.Trees.{Known, Literal}
use Rattle.steps.proofs.RunLaws.{runs-led}
use Rattle.steps.proofs.NodeLaws.{literal-of}
use Rattle.steps.proofs.PlaceLaws.{at-spans, between-part, viewed-at}
use Rattle.steps.proofs.WalkLaws.{right-at, two-end, less_one, less-left, less-right}
use Rattle.steps.proofs.LentLaws.{kept-of, lent-on}
use Rattle.bounded_steps.proofs.BelowLaws.{leaf-walks, literal-stops, literal-walks, one-walks-stop, one-walks, two-walks-stop, two-walks-stop-right, two-walks}
use Rattle.bounded_steps.proofs.+bounded_at.Goals as goal

pub invariant_of-p : goal.invariant_of-p
invariant_of-p t c = let a = c.args in
    record { indexed = runs-led (leaf-walks a.sort a.d c.requires.1 c.requires.0 (viewed-at a.sort a.f.now a.here c.requires.0 _ _ c.step.ensures c.in-Leaf.is) c.bounded_end.ensures).runs }

pub returns-in-Leaf : goal.returns-in-Leaf
returns-in-Leaf t c = let a = c.args in
    record { walks = leaf-walks a.sort a.d c.requires.1 c.requires.0 (viewed-at a.sort a.f.now a.here c.requires.0 _ _ c.step.ensures c.in-Leaf.is) c.bounded_end.ensures; lent = record { ledger = refl; index = refl } }

pub bounded_literal-requires : goal.bounded_literal-requires
bounded_literal-requires t c = let a = c.args in
    let v = viewed-at a.sort a.f.now a.here c.requires.0 _ _ c.step.ensures c.in-Lit.is in
    let e = between-part c.requires.0 c.between.ensures v.end in
    (subst (Known a.sort) (sym e) c.requires.0.is, c.requires.1, subst (Literal a.sort _) (sym e) (literal-of v.view))

pub returns-in_err-step-in-Lit : goal.returns-in_err-step-in-Lit
returns-in_err-step-in-Lit t c = let a = c.args in
    let p = err_from_is_err_and c.from_residual.result c.from_residual.ensures.1 in
    let w = c.in_err-step-in-Lit.ensures in
    rw (p.1, p.2) (record { walks = literal-stops a.sort a.d c.requires.1 c.requires.0 (viewed-at a.sort a.f.now a.here c.requires.0 _ _ c.step.ensures c.in-Lit.is) c.between.ensures w.runs; lent = w.lent })

pub returns-in_ok-step-in-Lit : goal.returns-in_ok-step-in-Lit
returns-in_ok-step-in-Lit t c = let a = c.args in
    let w = c.in_ok-step-in-Lit.ensures in
    record { walks = literal-walks a.sort a.d c.requires.1 c.requires.0 (viewed-at a.sort a.f.now a.here c.requires.0 _ _ c.step.ensures c.in-Lit.is) c.between.ensures w.runs; lent = w.lent }

pub bounded_at-requires : goal.bounded_at-requires
bounded_at-requires t c = let a = c.args in
    let v = viewed-at a.sort a.f.now a.here c.requires.0 _ _ c.step.ensures c.in-One.is in
    (less_one c.requires.0 v c.decreases, (v.below, c.requires.1))

pub returns-in_err-a-in-One : goal.returns-in_err-a-in-One
returns-in_err-a-in-One t c = let a = c.args in
    let p = err_from_is_err_and c.from_residual-in_err-a-in-One.result c.from_residual-in_err-a-in-One.ensures.1 in
    let w = c.in_err-a-in-One.ensures in
    rw (p.1, p.2) (record { walks = one-walks-stop a.sort a.d c.requires.1 c.requires.0 (viewed-at a.sort a.f.now a.here c.requires.0 _ _ c.step.ensures c.in-One.is) w.walks; lent = w.lent })

pub bounded_end-requires-in-One : goal.bounded_end-requires-in-One
bounded_end-requires-in-One t c = let a = c.args in
    let v = viewed-at a.sort a.f.now a.here c.requires.0 _ _ c.step.ensures c.in-One.is in
    (kept-of c.bounded_at.new.p, at-spans c.requires.0 (c.in_ok-a-in-One.ensures.walks.moved ∙ v.end), c.requires.1)

pub invariant_of-p-in-One : goal.invariant_of-p-in-One
invariant_of-p-in-One t c = let a = c.args in
    record { indexed = runs-led (one-walks a.sort a.d c.requires.1 c.requires.0 (viewed-at a.sort a.f.now a.here c.requires.0 _ _ c.step.ensures c.in-One.is) c.in_ok-a-in-One.ensures.walks c.bounded_end-in-One.ensures).runs }

pub returns-in_ok-a-in-One : goal.returns-in_ok-a-in-One
returns-in_ok-a-in-One t c = let a = c.args in
    record {
      walks = one-walks a.sort a.d c.requires.1 c.requires.0 (viewed-at a.sort a.f.now a.here c.requires.0 _ _ c.step.ensures c.in-One.is) c.in_ok-a-in-One.ensures.walks c.bounded_end-in-One.ensures;
      lent = lent-on c.in_ok-a-in-One.ensures.lent (record { ledger = refl; index = refl });
    }

pub bounded_at-requires-in-Two : goal.bounded_at-requires-in-Two
bounded_at-requires-in-Two t c = let a = c.args in
    let v = viewed-at a.sort a.f.now a.here c.requires.0 _ _ c.step.ensures c.in-Two.is in
    (less-left c.requires.0 v c.decreases, (v.left, c.requires.1))

pub returns-in_err-a-in-Two : goal.returns-in_err-a-in-Two
returns-in_err-a-in-Two t c = let a = c.args in
    let p = err_from_is_err_and c.from_residual-in_err-a-in-Two.result c.from_residual-in_err-a-in-Two.ensures.1 in
    let w = c.in_err-a-in-Two.ensures in
    rw (p.1, p.2) (record { walks = two-walks-stop a.sort a.d c.requires.1 c.requires.0 (viewed-at a.sort a.f.now a.here c.requires.0 _ _ c.step.ensures c.in-Two.is) w.walks; lent = w.lent })

pub bounded_at-requires-in-Two-2 : goal.bounded_at-requires-in-Two-2
bounded_at-requires-in-Two-2 t c = let a = c.args in
    let v = viewed-at a.sort a.f.now a.here c.requires.0 _ _ c.step.ensures c.in-Two.is in
    let m = c.in_ok-a-in-Two.ensures.walks.moved in
    (less-right c.requires.0 v m c.decreases, (right-at v m, c.requires.1))

pub returns-in_err-b-in-Two : goal.returns-in_err-b-in-Two
returns-in_err-b-in-Two t c = let a = c.args in
    let p = err_from_is_err_and c.from_residual-in_err-b-in-Two.result c.from_residual-in_err-b-in-Two.ensures.1 in
    let w = c.in_err-b-in-Two.ensures in
    rw (p.1, p.2) (record {
      walks = two-walks-stop-right a.sort a.d c.requires.1 c.requires.0 (viewed-at a.sort a.f.now a.here c.requires.0 _ _ c.step.ensures c.in-Two.is) c.in_ok-a-in-Two.ensures.walks w.walks;
      lent = lent-on c.in_ok-a-in-Two.ensures.lent w.lent;
    })

pub bounded_end-requires-in-Two : goal.bounded_end-requires-in-Two
bounded_end-requires-in-Two t c = let a = c.args in
    let v = viewed-at a.sort a.f.now a.here c.requires.0 _ _ c.step.ensures c.in-Two.is in
    (kept-of c.bounded_at-in-Two-2.new.p, at-spans c.requires.0 (two-end v c.in_ok-a-in-Two.ensures.walks.moved c.in_ok-b-in-Two.ensures.walks.moved), c.requires.1)

pub invariant_of-p-in-Two : goal.invariant_of-p-in-Two
invariant_of-p-in-Two t c = let a = c.args in
    record { indexed = runs-led (two-walks a.sort a.d c.requires.1 c.requires.0 (viewed-at a.sort a.f.now a.here c.requires.0 _ _ c.step.ensures c.in-Two.is) c.in_ok-a-in-Two.ensures.walks c.in_ok-b-in-Two.ensures.walks c.bounded_end-in-Two.ensures).runs }

pub returns-in_ok-b-in-Two : goal.returns-in_ok-b-in-Two
returns-in_ok-b-in-Two t c = let a = c.args in
    record {
      walks = two-walks a.sort a.d c.requires.1 c.requires.0 (viewed-at a.sort a.f.now a.here c.requires.0 _ _ c.step.ensures c.in-Two.is) c.in_ok-a-in-Two.ensures.walks c.in_ok-b-in-Two.ensures.walks c.bounded_end-in-Two.ensures;
      lent = lent-on c.in_ok-a-in-Two.ensures.lent (lent-on c.in_ok-b-in-Two.ensures.lent (record { ledger = refl; index = refl }));
    }

pub returns-in-Stuck : goal.returns-in-Stuck
returns-in-Stuck t c = let a = c.args in
    absurd (viewed-at a.sort a.f.now a.here c.requires.0 _ _ c.step.ensures c.in-Stuck.is)
