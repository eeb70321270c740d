use mathlib.Core.Path.{sym, ap, ◌∙◌}
use Rattle.formula.specs.declared.Sort.TheVariants.{Faces}
use Rattle.formula.specs.Answers.{tree_of}
use Rattle.calculus.specs.Search.{has}
use Rattle.contexts.proofs.MemberLaws.{same-face, other-face}
use Rattle.contexts.proofs.MoveLaws.{has_same, has_other, has-none}
use Rattle.contexts.proofs.moves.has.Goals as goal

pub returns-then-same : goal.returns-then-same
returns-then-same c = let f = tree_of Faces c.args.f.now in let v = c.in-Some.ensures in has_same f v.first _ (same-face c.requires v.face (sym c.same.ensures ∙ c.if-same.true)) ∙ ap (has f) (sym v.whole) ∙ c.loop-h.invariant

pub loop-h-preserved : goal.loop-h-preserved
loop-h-preserved c = let f = tree_of Faces c.args.f.now in let v = c.in-Some.ensures in has_other f v.first _ (other-face c.requires v.face (sym c.same.ensures ∙ c.if-same.false)) ∙ ap (has f) (sym v.whole) ∙ c.loop-h.invariant

pub returns : goal.returns
returns c = has-none (tree_of Faces c.args.f.now) c.in_default.ensures ∙ c.loop-h.invariant
