use mathlib.Core.Path.{sym, ap, ◌∙◌, subst}
use Rattle.passes.specs.Stepping.{DimOver, weight_over}
use Rattle.passes.proofs.weighing.weight.Goals as goal

pub literal_weight-requires : goal.literal_weight-requires
literal_weight-requires c = subst DimOver c.in-Lit.is c.requires

pub returns-in-Leaf : goal.returns-in-Leaf
returns-in-Leaf c = let a = c.args in c.plain_weight.ensures ∙ sym (ap (weight_over a.rule a.hit) c.in-Leaf.is)

pub returns-in-Lit : goal.returns-in-Lit
returns-in-Lit c = let a = c.args in c.literal_weight.ensures ∙ sym (ap (weight_over a.rule a.hit) c.in-Lit.is)

pub returns-in-One : goal.returns-in-One
returns-in-One c = let a = c.args in c.plain_weight-in-One.ensures ∙ sym (ap (weight_over a.rule a.hit) c.in-One.is)

pub returns-in-Two : goal.returns-in-Two
returns-in-Two c = let a = c.args in c.plain_weight-in-Two.ensures ∙ sym (ap (weight_over a.rule a.hit) c.in-Two.is)

pub returns-in-Stuck : goal.returns-in-Stuck
returns-in-Stuck c = let a = c.args in c.plain_weight-in-Stuck.ensures ∙ sym (ap (weight_over a.rule a.hit) c.in-Stuck.is)
