use Rattle.std.proofs.Common.{rules}
use Rattle.records.proofs.NumberLaws.{cleared}
use Rattle.records.proofs.numbers.clear.Goals as goal

pub returns : goal.returns
returns c = cleared c.args.s.now _ c.args.from c.args.to c.requires.0 c.requires.1 (c.fill.ensures.after (λ y h. search rules))
