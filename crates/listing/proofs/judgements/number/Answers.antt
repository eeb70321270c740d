use Rattle.listing.proofs.ValueLaws.{number-prints}
use Rattle.listing.proofs.judgements.number.Goals as goal

pub returns : goal.returns
returns c = record { prints = number-prints c.args.f.now c.dim_at-n.ensures.0 c.unary.ensures.wrote; same = c.unary.ensures.same }
