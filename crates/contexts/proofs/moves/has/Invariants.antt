use mathlib.Core.Path.{◌≡◌}
use Rattle.formula.specs.declared.Sort.TheVariants.{Faces}
use Rattle.formula.specs.Answers.{tree_of}
use Rattle.calculus.specs.Search.{has}
use Rattle.contexts.specs.Faces.{faces_of}
use Rattle.contexts.proofs.moves.has.Given as goal

abbrev pub invariant-loop-h : goal.invariant-loop-h
invariant-loop-h l = has (tree_of Faces l.f) (faces_of l.rest) ≡ has (tree_of Faces l.f) (faces_of l.g)

abbrev pub decreases-loop-h : goal.decreases-loop-h
decreases-loop-h l = l.rest.count
