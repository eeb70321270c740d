use Rattle.std.proofs.lemmas.Result.{err_from_is_err_and}
use mathlib.Core.Path.{sym}
use native.Mathlib.Omega.{arith}
use Rattle.transforms.proofs.ImageLaws.{room}
use Rattle.results.proofs.ResultLaws.{result-done, result-large, one-large, one-short}
use Rattle.results.proofs.IndexLaws.{change-result, change-computed}
use Rattle.results.proofs.substitutions.transform.Goals as goal

pub returns-then-short : goal.returns-then-short
returns-then-short c = let p = c.args in one-short (change-result p.sort p.t.now p.r.now p.out.now p.op c.requires.0 c.requires.1 c.requires.2) (result-done (change-computed p.sort p.t.now p.r.now p.out.now p.op c.requires.1 c.requires.2 room c.in_ok-z.ensures)).0 c.if-short.true

pub slice_bounds-result-end : goal.slice_bounds-result-end
slice_bounds-result-end c = let p = c.args in (result-done (change-computed p.sort p.t.now p.r.now p.out.now p.op c.requires.1 c.requires.2 room c.in_ok-z.ensures)).1

pub slice_bounds-run-end : goal.slice_bounds-run-end
slice_bounds-run-end c = let p = c.args in sym (result-done (change-computed p.sort p.t.now p.r.now p.out.now p.op c.requires.1 c.requires.2 room c.in_ok-z.ensures)).2

pub run-requires : goal.run-requires
run-requires c = let p = c.args in let k = result-done (change-computed p.sort p.t.now p.r.now p.out.now p.op c.requires.1 c.requires.2 room c.in_ok-z.ensures) in (c.requires.0, c.requires.1, c.requires.2, k.0, omega (arith, k.2, c.if-short.false))

pub returns-in_err-z : goal.returns-in_err-z
returns-in_err-z c = let p = c.args in
    let r = err_from_is_err_and c.from_residual.result c.from_residual.ensures.1 in
    rw (r.1, r.2) (one-large (change-result p.sort p.t.now p.r.now p.out.now p.op c.requires.0 c.requires.1 c.requires.2) (result-large (change-computed p.sort p.t.now p.r.now p.out.now p.op c.requires.1 c.requires.2 room c.in_err-z.ensures)))
