use native.Mathlib.Omega.{arith}
use mathlib.Core.Path.{sym, ap}
use mathlib.Core.Logic.{inl, inr}
use Rattle.passes.specs.Stepping.{kind_over}
use Rattle.formula.specs.declared.Kind.TheVariants.{Nullary, Literal, Unknown}
use Rattle.passes.proofs.SideLaws.{pushed-unary, pushed-binary, pushed-ends, pushed-as}
use Rattle.passes.proofs.sides.push.Goals as goal

pub returns-in-One : goal.returns-in-One
returns-in-One c = let a = c.args in pushed-as (sym (ap kind_over c.in-One.is)) (pushed-unary a.ends.now a.top a.e c.requires.0 (omega arith) c.requires.3)

pub returns-in-Two : goal.returns-in-Two
returns-in-Two c = let a = c.args in pushed-as (sym (ap kind_over c.in-Two.is)) (pushed-binary a.ends.now a.top a.e c.requires.0 (omega arith) c.requires.3)

pub returns-in-Leaf : goal.returns-in-Leaf
returns-in-Leaf c = let a = c.args in
    elim c.in-Leaf.is [
      | inl p ↦ pushed-as (sym (ap kind_over p.1)) (pushed-ends Nullary tt a.e a.ends.now a.top)
      | inr (inl p) ↦ pushed-as (sym (ap kind_over p.2)) (pushed-ends Literal tt a.e a.ends.now a.top)
      | inr (inr p) ↦ pushed-as (sym (ap kind_over p)) (pushed-ends Unknown tt a.e a.ends.now a.top)
    ]
