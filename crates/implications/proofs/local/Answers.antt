use Rattle.calculus.specs.Door.{end_of}
use Rattle.steps.proofs.RunLaws.{emits-same, emits-kind}
use Rattle.implications.proofs.ImplicationLaws.{local-operands, local-short}
use Rattle.implications.proofs.local.Goals as goal

pub emit-requires : goal.emit-requires
emit-requires c = (c.requires.0, local-short (end_of c.args.hi) c.args.phi.now c.args.r.now c.requires.2 c.requires.3 c.number.ensures c.end_bytes-end.ensures)

pub returns : goal.returns
returns c = let a = c.args in emits-kind c.end_kind-kind.ensures (emits-same (local-operands (end_of a.hi) a.phi.now a.r.now c.number.ensures c.end_bytes-end.ensures) c.emit.ensures)
