use native.Mathlib.Omega.{arith}
use mathlib.Core.Path.{refl}
use Rattle.literals.proofs.RowLaws.{blanking-next, blanking-end}
use Rattle.literals.proofs.rows.blank.Goals as goal

pub loop-i-init : goal.loop-i-init
loop-i-init c = record { upto = omega arith; long = refl; left = refl }

pub bounds-numbers-i : goal.bounds-numbers-i
bounds-numbers-i c = c.loop-i-test.true

pub loop-i-preserved : goal.loop-i-preserved
loop-i-preserved c = blanking-next c.loop-i.invariant c.loop-i-test.true

pub returns : goal.returns
returns c = blanking-end c.loop-i.invariant c.loop-i-test.false
