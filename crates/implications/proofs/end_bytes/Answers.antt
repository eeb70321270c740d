use mathlib.Core.Path.{sym, ap}
use mathlib.Core.Bool.{Bool}
use Rattle.formula.specs.declared.Sort.TheVariants.{Intervals}
use Rattle.formula.specs.Formula.{i0, i1}
use Rattle.formula.specs.Bytes.{encode, encode_interval}
use Rattle.calculus.specs.Calls.{side}
use Rattle.calculus.specs.Door.{end_of}
use Rattle.implications.proofs.end_bytes.Goals as goal

pub returns-then-hi : goal.returns-then-hi
unfolding encode_interval
returns-then-hi c = ap (λ (t : Bool). encode Intervals (side (end_of t) i0 i1)) (sym c.if-hi.true)

pub returns : goal.returns
unfolding encode_interval
returns c = ap (λ (t : Bool). encode Intervals (side (end_of t) i0 i1)) (sym c.if-hi.false)
