use Rattle.formula.specs.declared.Sort.TheVariants.{Faces}
use Rattle.formula.specs.Answers.{tree_of}
use Rattle.contexts.specs.Faces.{faces_of}
use Rattle.contexts.proofs.MoveLaws.{face-some}
use Rattle.search.proofs.TurnLaws.{compound-at, and-left-turn, or-left-turn, and-right-turn, or-right-turn, stuck-turn}
use Rattle.search.proofs.turns.split.Goals as goal

pub bounds-x-0 : goal.bounds-x-0
bounds-x-0 c = face-some (compound-at c.args.g.sound c.in-Some.ensures (tree_of Faces c.args.goal.now) c.offset-at.ensures c.formula_at-x.ensures).out

pub returns-then-x-eq4 : goal.returns-then-x-eq4
returns-then-x-eq4 c = and-left-turn c.args.g.sound c.in-Some.ensures _ c.offset-at.ensures c.formula_at-x.ensures c.if-x-eq4.true

pub returns-in-Some : goal.returns-in-Some
returns-in-Some c = or-left-turn c.args.g.sound c.in-Some.ensures _ c.offset-at.ensures c.formula_at-x.ensures c.if-x-eq4.false

pub bounds-goal-0 : goal.bounds-goal-0
bounds-goal-0 c = face-some c.requires

pub bounds-goal-0-2 : goal.bounds-goal-0-2
bounds-goal-0-2 c = face-some c.requires

pub returns-then-goal-eq4 : goal.returns-then-goal-eq4
returns-then-goal-eq4 c = and-right-turn (faces_of c.args.g) c.in_default.ensures c.requires c.if-goal-eq4.true

pub returns-then-goal-eq5 : goal.returns-then-goal-eq5
returns-then-goal-eq5 c = or-right-turn (faces_of c.args.g) c.in_default.ensures c.requires c.if-goal-eq5.true

pub returns : goal.returns
returns c = stuck-turn (faces_of c.args.g) c.in_default.ensures c.requires c.if-goal-eq4.false c.if-goal-eq5.false
