use native.Mathlib.Nat.{mod-lt}
use mathlib.Core.Path.{ap}
use Prim.Native.Nat.{ℕ, ◌%◌}
use Rattle.index.specs.Index.{bucket_of}
use Rattle.index.proofs.bucket.bucket_of.Goals as goal

pub returns : goal.returns
unfolding bucket_of
returns c = (ap (λ (n : ℕ). n % c.args.heads) c.hash.ensures, mod-lt c.hash.result c.requires)
