use native.Mathlib.Omega.{arith}
use Rattle.contexts.proofs.LeftLaws.{offset-zero, offset-none, offset_up, prefix-short}
use Rattle.contexts.specs.Faces.{faces_of}
use Rattle.contexts.proofs.lefts.+offset.Goals as goal

pub returns-then-i-eq0 : goal.returns-then-i-eq0
returns-then-i-eq0 t c = offset-zero c.args.i (faces_of c.args.g) c.if-i-eq0.true

pub overflow_add-result : goal.overflow_add-result
overflow_add-result t c = omega (arith, offset_up c.in-Some.ensures c.args.i c.if-i-eq0.false c.offset.ensures, prefix-short c.args.g.sound c.args.i)

pub returns-in-Some : goal.returns-in-Some
returns-in-Some t c = offset_up c.in-Some.ensures c.args.i c.if-i-eq0.false c.offset.ensures

pub returns-in-None : goal.returns-in-None
returns-in-None t c = offset-none c.args.i c.in-None.ensures
