use mathlib.Core.Path.{refl, sym}
use lib.Seq.{length-take-le}
use Rattle.transforms.proofs.ImageLaws.{room, sides-made, zero-front, one-front, sides-front}
use Rattle.runs.proofs.entailments.endpoint.Goals as goal

pub slice_bounds-zero-end : goal.slice_bounds-zero-end
slice_bounds-zero-end c = (zero-front c.requires.3 room room c.in_ok-z.ensures _ refl).inside

pub slice_bounds-run_endpoint-end : goal.slice_bounds-run_endpoint-end
slice_bounds-run_endpoint-end c = sym (length-take-le _ _ (zero-front c.requires.3 room room c.in_ok-z.ensures _ refl).inside)

pub slice_bounds-one-end : goal.slice_bounds-one-end
slice_bounds-one-end c = (one-front c.requires.3 room room c.in_ok-z.ensures _ refl).inside

pub slice_bounds-run_endpoint-end-2 : goal.slice_bounds-run_endpoint-end-2
slice_bounds-run_endpoint-end-2 c = sym (length-take-le _ _ (one-front c.requires.3 room room c.in_ok-z.ensures _ refl).inside)

pub run_endpoint-requires : goal.run_endpoint-requires
run_endpoint-requires c = (c.requires.0, c.requires.1, c.requires.2, c.requires.3, sides-front c.requires.3 room room c.in_ok-z.ensures _ refl)

pub returns-in_err-z : goal.returns-in_err-z
returns-in_err-z c = sides-made c.requires.3 room room c.in_err-z.ensures refl
