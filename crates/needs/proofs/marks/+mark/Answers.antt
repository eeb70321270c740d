use native.Mathlib.Omega.{arith}
use Rattle.needs.proofs.PlaceLaws.{stands-inside, leaf-ends, literal-ends, first-stands, second-behind, second-stands}
use Rattle.needs.proofs.MarkLaws.{parts-marked, node-marked}
use mathlib.Core.Path.{refl}
use Rattle.needs.proofs.marks.+mark.Goals as goal

pub bounds-f-at : goal.bounds-f-at
bounds-f-at t c = stands-inside c.requires.stands.0

pub overflow_add-next : goal.overflow_add-next
overflow_add-next t c = omega (arith, stands-inside c.requires.stands.0)

pub returns-in-0-to-1 : goal.returns-in-0-to-1
returns-in-0-to-1 t c = record { ends = leaf-ends c.args.f.now c.args.at (omega arith); right = c.requires.stands.1; long = refl }

pub returns-in-2-to-3 : goal.returns-in-2-to-3
returns-in-2-to-3 t c = record { ends = literal-ends c.args.f.now c.args.at (omega arith) (omega arith); right = c.requires.stands.1; long = refl }

pub mark-middle-requires : goal.mark-middle-requires
mark-middle-requires t c = (omega (arith, c.decreases, stands-inside c.requires.stands.0), ((first-stands c.requires.stands.0 (omega arith), c.requires.stands.1), c.requires.f_in_bounds))

pub mark-end-requires : goal.mark-end-requires
mark-end-requires t c = (omega (arith, c.decreases, stands-inside c.requires.stands.0, second-behind c.requires.stands.0 (omega arith) c.mark-middle.ensures.ends), ((second-stands c.requires.stands.0 (omega arith) c.mark-middle.ensures.ends, c.mark-middle.ensures.right), omega (arith, c.requires.f_in_bounds, c.mark-middle.ensures.long)))

pub share-requires : goal.share-requires
share-requires t c = (first-stands c.requires.stands.0 (omega arith), second-stands c.requires.stands.0 (omega arith) c.mark-middle.ensures.ends)

pub returns-then-not-share : goal.returns-then-not-share
returns-then-not-share t c = node-marked c.args.f.now c.args.at (omega arith) c.mark-middle.ensures c.mark-end.ensures c.share.ensures c.if-not-share.true

pub returns-else-not-share : goal.returns-else-not-share
returns-else-not-share t c = parts-marked c.args.f.now c.args.at (omega arith) c.mark-middle.ensures c.mark-end.ensures
