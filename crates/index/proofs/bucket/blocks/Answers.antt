use Rattle.std.proofs.Common.{arith, ◌≡◌, ℕ, ap, ◌∙◌}
use Rattle.index.specs.Index.{blocks_of}
use Rattle.index.proofs.HashLaws.{blocks-next, none_yet}
use Rattle.index.proofs.bucket.blocks.Goals as goal

pub loop-j-init : goal.loop-j-init
loop-j-init c = ((none_yet c.args.from c.args.s.now).1, c.requires.0)

pub loop-j-preserved : goal.loop-j-preserved
loop-j-preserved c = (blocks-next c.args.from c.args.s.now c.loop-j.j c.eight-h.ensures.0 c.loop-j.invariant.0, c.eight-h.ensures.1)

pub returns : goal.returns
returns c = let e : c.loop-j.j ≡ c.args.n = omega (arith, c.loop-j.auto) in (c.loop-j.invariant.0 ∙ ap (λ (n : ℕ). blocks_of n c.args.from c.args.s.now) e, c.loop-j.invariant.1)
