use mathlib.Core.Path.{ap₂, ◌∙◌}
use Rattle.index.specs.Index.{bucket_of}
use Rattle.index.proofs.pass.bucket_at.Goals as goal

pub returns : goal.returns
returns c = (c.bucket_of.ensures.0 ∙ ap₂ (bucket_of c.args.heads) c.predicate-p.ensures c.operands.ensures, c.bucket_of.ensures.1)
