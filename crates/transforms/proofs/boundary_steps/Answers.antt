use mathlib.Core.Path.{sym}
use lib.Seq.{length-take-le}
use Rattle.transforms.proofs.ImageLaws.{room, sides-made, zero-front, one-front, sides-front}
use Rattle.transforms.proofs.boundary_steps.Goals as goal

pub slice_bounds-zero-end : goal.slice_bounds-zero-end
slice_bounds-zero-end c = (zero-front c.requires room room c.boundary.ensures _ c.in-Ok.is).inside

pub slice_bounds-a-end : goal.slice_bounds-a-end
slice_bounds-a-end c = sym (length-take-le _ _ (zero-front c.requires room room c.boundary.ensures _ c.in-Ok.is).inside)

pub slice_bounds-one-end : goal.slice_bounds-one-end
slice_bounds-one-end c = (one-front c.requires room room c.boundary.ensures _ c.in-Ok.is).inside

pub slice_bounds-b-end : goal.slice_bounds-b-end
slice_bounds-b-end c = sym (length-take-le _ _ (one-front c.requires room room c.boundary.ensures _ c.in-Ok.is).inside)

pub boundary-requires-in-Ok : goal.boundary-requires-in-Ok
boundary-requires-in-Ok c = (c.requires, sides-front c.requires room room c.boundary.ensures _ c.in-Ok.is)

pub returns-in-Err : goal.returns-in-Err
returns-in-Err c = sides-made c.requires room room c.boundary.ensures c.in-Err.is
