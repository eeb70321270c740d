use Rattle.steps.proofs.TreeLaws.{known}
use mathlib.Core.List.{[]}
use Rattle.contexts.proofs.ClashLaws.{met_start, met-next, met-end}
use Rattle.contexts.proofs.clashes.apart.Goals as goal

pub loop-x-init : goal.loop-x-init
loop-x-init c = ([], met_start _ _ c.requires)

pub returns : goal.returns
returns c = λ e. met-end c.args.g c.loop-x.rest c.loop-x.invariant c.in_default.ensures

pub meet-requires : goal.meet-requires
meet-requires c = (known c.in-Some.ensures.face, c.loop-x.invariant.1.long)

pub loop-x-preserved : goal.loop-x-preserved
loop-x-preserved c = met-next c.args.g c.loop-x.invariant c.in-Some.ensures c.meet.ensures c.if-not-meet.false
