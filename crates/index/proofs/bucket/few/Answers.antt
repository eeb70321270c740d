use Rattle.std.proofs.Common.{arith, ◌≡◌, ℕ, length, ap, ◌∙◌}
use Rattle.index.specs.Index.{bytes_of}
use Rattle.index.proofs.HashLaws.{bytes_next, none_yet}
use Rattle.index.proofs.bucket.few.Goals as goal

pub loop-b-init : goal.loop-b-init
loop-b-init c = ((none_yet c.args.from c.args.s.now).0, c.requires)

pub loop-b-preserved : goal.loop-b-preserved
loop-b-preserved c = (bytes_next c.args.from c.args.s.now c.loop-b.b-index c.mix-h.ensures.0 c.loop-b.invariant.0 c.from.ensures, c.mix-h.ensures.1)

pub returns : goal.returns
returns c = let e : c.loop-b.b-index ≡ length c.args.s.now = omega (arith, c.loop-b.auto.b-index-end) in c.loop-b.invariant.0 ∙ ap (λ (n : ℕ). bytes_of n c.args.from c.args.s.now) e
