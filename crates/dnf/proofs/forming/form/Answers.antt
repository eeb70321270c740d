use native.Mathlib.Omega.{arith}
use Rattle.dnf.proofs.NormalLaws.{whole-asks, whole-shapes, whole-normals}
use Rattle.dnf.proofs.forming.form.Goals as goal

pub collect-requires : goal.collect-requires
collect-requires c = whole-asks c.requires c.blank-numbers.ensures

pub sized-requires : goal.sized-requires
sized-requires c = record { few = omega arith; shapes = whole-shapes c.requires c.blank-numbers.ensures c.collect.ensures c.mask-mask.result c.mask-mask.ensures 513 (omega (arith, c.if-nodes-le15.true)) }

pub returns-then-nodes-le15 : goal.returns-then-nodes-le15
returns-then-nodes-le15 c = whole-normals c.requires c.blank-numbers.ensures c.collect.ensures c.mask-mask.result c.mask-mask.ensures c.sized.ensures

pub sized-requires-then-nodes-le127 : goal.sized-requires-then-nodes-le127
sized-requires-then-nodes-le127 c = record { few = omega arith; shapes = whole-shapes c.requires c.blank-numbers.ensures c.collect.ensures c.mask-mask.result c.mask-mask.ensures 2305 (omega (arith, c.if-nodes-le127.true)) }

pub returns-then-nodes-le127 : goal.returns-then-nodes-le127
returns-then-nodes-le127 c = whole-normals c.requires c.blank-numbers.ensures c.collect.ensures c.mask-mask.result c.mask-mask.ensures c.sized-then-nodes-le127.ensures

pub sized-requires-2 : goal.sized-requires-2
sized-requires-2 c = record { few = omega arith; shapes = whole-shapes c.requires c.blank-numbers.ensures c.collect.ensures c.mask-mask.result c.mask-mask.ensures 8449 (omega (arith, c.requires.few)) }

pub returns : goal.returns
returns c = whole-normals c.requires c.blank-numbers.ensures c.collect.ensures c.mask-mask.result c.mask-mask.ensures c.sized-2.ensures
