use Rattle.numbers.proofs.NumberLaws.{is_one-from_zero}
use Rattle.numbers.proofs.is_one.Goals as goal

pub returns : goal.returns
returns c = is_one-from_zero c.args.one
