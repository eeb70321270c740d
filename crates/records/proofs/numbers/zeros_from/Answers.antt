use native.Mathlib.Omega.{arith}
use mathlib.Core.Path.{refl, sym, ap, ◌∙◌}
use mathlib.Core.Bool.{Bool, ◌&&◌}
use Prim.Native.Nat.{◌+◌}
use lib.ListN.{drop}
use borrow.Author.Tests.{eq-eqb, ne_eqb}
use Rattle.calculus.specs.Parse.{all_zero}
use Rattle.records.proofs.NumberLaws.{part_step}
use Rattle.records.proofs.numbers.zeros_from.Goals as goal

pub loop-i-init : goal.loop-i-init
loop-i-init c = (refl, c.requires)

pub returns-then-bits64-ne0 : goal.returns-then-bits64-ne0
returns-then-bits64-ne0 c = let s = c.args.s.now in let i = c.loop-i.i in sym (sym c.loop-i.invariant.0 ∙ part_step s i 64 ∙ ap (λ (t : Bool). t && all_zero (drop (i + 64) s)) (sym c.bits64.ensures ∙ ne_eqb _ _ c.if-bits64-ne0.true))

pub loop-i-preserved : goal.loop-i-preserved
loop-i-preserved c = let s = c.args.s.now in let i = c.loop-i.i in (sym (part_step s i 64 ∙ ap (λ (t : Bool). t && all_zero (drop (i + 64) s)) (sym c.bits64.ensures ∙ eq-eqb _ _ c.if-bits64-ne0.false)) ∙ c.loop-i.invariant.0, omega arith)

pub returns : goal.returns
returns c = c.tail_is_zero.ensures ∙ c.loop-i.invariant.0
