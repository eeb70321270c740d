use mathlib.Core.Path.{refl, sym}
use lib.Seq.{length-take-le}
use Rattle.transforms.proofs.ImageLaws.{room, sides-made, sides-size, zero-front, one-front, sides-front}
use Rattle.results.proofs.SideLaws.{short-first, short-second, first_fits, second_fits}
use Rattle.results.proofs.boundaries.boundary.Goals as goal

pub returns-then-out0-n : goal.returns-then-out0-n
returns-then-out0-n c = let p = c.args in short-first p.r.now p.out0.now p.out1.now c.requires.0 c.requires.1 (sides-size c.requires.1 room room c.in_ok-z.ensures _ refl) c.if-out0-n.true

pub returns-then-short : goal.returns-then-short
returns-then-short c = let p = c.args in short-second p.r.now p.out0.now p.out1.now c.requires.0 c.requires.1 (sides-size c.requires.1 room room c.in_ok-z.ensures _ refl) c.if-short.true

pub slice_bounds-zero-end : goal.slice_bounds-zero-end
slice_bounds-zero-end c = (zero-front c.requires.1 room room c.in_ok-z.ensures _ refl).inside

pub slice_bounds-run-end : goal.slice_bounds-run-end
slice_bounds-run-end c = sym (length-take-le _ _ (zero-front c.requires.1 room room c.in_ok-z.ensures _ refl).inside)

pub slice_bounds-one-end : goal.slice_bounds-one-end
slice_bounds-one-end c = (one-front c.requires.1 room room c.in_ok-z.ensures _ refl).inside

pub slice_bounds-run-end-2 : goal.slice_bounds-run-end-2
slice_bounds-run-end-2 c = sym (length-take-le _ _ (one-front c.requires.1 room room c.in_ok-z.ensures _ refl).inside)

pub run-requires : goal.run-requires
run-requires c = (c.requires.0, c.requires.1, record { sides = sides-front c.requires.1 room room c.in_ok-z.ensures _ refl; size = sides-size c.requires.1 room room c.in_ok-z.ensures _ refl }, first_fits c.requires.1 room room c.in_ok-z.ensures _ refl c.if-out0-n.false, second_fits c.requires.1 room room c.in_ok-z.ensures _ refl c.if-short.false)

pub returns-in_err-z : goal.returns-in_err-z
returns-in_err-z c = sides-made c.requires.1 room room c.in_err-z.ensures refl
