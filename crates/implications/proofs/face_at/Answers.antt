use mathlib.Core.Path.{sym, ap}
use mathlib.Core.Bool.{Bool}
use Rattle.calculus.specs.Calls.{side}
use Rattle.calculus.specs.Door.{end_of}
use Rattle.implications.proofs.face_at.Goals as goal

pub returns-then-hi : goal.returns-then-hi
returns-then-hi c = ap (λ (t : Bool). side (end_of t) c.args.zero.now c.args.one.now) (sym c.if-hi.true)

pub returns : goal.returns
returns c = ap (λ (t : Bool). side (end_of t) c.args.zero.now c.args.one.now) (sym c.if-hi.false)
