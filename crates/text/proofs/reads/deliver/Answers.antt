use Rattle.text.proofs.WholeLaws.{delivers, delivers-not}
use Rattle.text.proofs.reads.deliver.Goals as goal

pub returns-then-put : goal.returns-then-put
returns-then-put c = delivers c.if-put.true c.put.ensures

pub returns : goal.returns
returns c = delivers-not c.if-put.false c.put.ensures
