-- Examples by computation: folds nest left (document 01, "Normal form and repeat test").
use mathlib.Core.Path.{◌≡◌, refl}
use mathlib.Core.Option.{some}
use Rattle.formula.specs.Formula.{lo, at, fand, for}
use Rattle.clauses.specs.Normal.{normal, dnf, clauses, pairs, pairs_with, opposed, any, opposite, disjunction, prune, minimal, entered, enter, lex, properly, inside, ors, conjunction, ands, literal, union}

nests-left : normal (fand (at lo 0) (fand (at lo 1) (at lo 2))) ≡ some (fand (fand (at lo 0) (at lo 1)) (at lo 2))
unfolding normal dnf clauses pairs pairs_with opposed any opposite prune minimal entered enter lex properly inside union disjunction conjunction ands literal ors
nests-left = refl

joins-left : normal (for (at lo 0) (for (at lo 1) (at lo 2))) ≡ some (for (for (at lo 0) (at lo 1)) (at lo 2))
unfolding normal dnf clauses disjunction prune minimal entered enter lex any properly inside ors conjunction ands literal
joins-left = refl
