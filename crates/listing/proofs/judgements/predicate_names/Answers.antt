use Rattle.std.proofs.Common.{refl}
use Rattle.calculus.specs.Table.{text_bytes}
use Rattle.listing.proofs.judgements.predicate_names.Goals as goal

pub returns : goal.returns
unfolding text_bytes
returns c = refl
