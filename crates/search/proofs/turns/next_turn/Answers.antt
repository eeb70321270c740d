use mathlib.Core.Path.{refl}
use Rattle.steps.proofs.TreeLaws.{known}
use Rattle.contexts.proofs.MoveLaws.{face-some}
use Rattle.contexts.proofs.ClosingLaws.{ff-is}
use Rattle.search.proofs.TurnLaws.{top-turn, hit-turn, absurd-turn, opposed-turn, split-turn}
use Rattle.search.proofs.turns.next_turn.Goals as goal

pub bounds-goal-0 : goal.bounds-goal-0
bounds-goal-0 c = face-some c.requires

pub returns-then-top : goal.returns-then-top
returns-then-top c = top-turn c.args.g.sound c.requires c.if-top.true

pub returns-then-has : goal.returns-then-has
returns-then-has c = hit-turn c.args.g.sound c.requires c.if-top.false c.has.ensures c.if-has.true

pub has-requires-2 : goal.has-requires-2
has-requires-2 c = known (ff-is refl)

pub returns-then-has-2 : goal.returns-then-has-2
returns-then-has-2 c = absurd-turn c.args.g.sound c.requires c.if-top.false c.has.ensures c.if-has.false refl c.has-2.ensures c.if-has-2.true

pub returns-in-Some : goal.returns-in-Some
returns-in-Some c = opposed-turn c.args.g.sound c.requires c.if-top.false c.has.ensures c.if-has.false refl c.has-2.ensures c.if-has-2.false c.first_clash.ensures c.in-Some.is

pub returns-in-None : goal.returns-in-None
returns-in-None c = split-turn c.args.g.sound c.requires c.if-top.false c.has.ensures c.if-has.false refl c.has-2.ensures c.if-has-2.false c.first_clash.ensures c.in-None.is c.split.ensures
