use Rattle.lookup.proofs.LookupLaws.{name-short, name-written}
use Rattle.lookup.proofs.rule_name.Goals as goal

pub returns-then-out-n : goal.returns-then-out-n
returns-then-out-n c = name-short c.args.kind c.name_len-n.ensures c.args.out.now c.if-out-n.true

pub returns : goal.returns
returns c = name-written c.args.kind c.name_len-n.ensures c.if-out-n.false c.put_name.ensures
