use Rattle.writing.proofs.DeliverLaws.{writes-front, writes-in}
use Rattle.writing.proofs.formulas.write_formula.Goals as goal

pub returns : goal.returns
returns c = writes-in c.args.sort c.args.f.now c.in_ok-operand.ensures c.sized.ensures

pub sized-requires : goal.sized-requires
sized-requires c = writes-front c.args.sort c.args.f.now c.in_ok-operand.ensures
