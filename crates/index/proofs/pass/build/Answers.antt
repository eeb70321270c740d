use Rattle.std.proofs.Common.{rules}
use native.Mathlib.Omega.{arith}
use mathlib.Core.Path.{◌∙◌, subst}
use Prim.Native.Nat.{ℕ, ◌+◌, ◌<◌}
use Rattle.ledger.proofs.PointLaws.{walks-points, walks-forward}
use Rattle.index.proofs.BuildLaws.{build-start, build-turn, zeroed-length, built}
use Rattle.index.proofs.pass.build.Goals as goal

pub loop-c-init : goal.loop-c-init
loop-c-init c = build-start c.requires.0 c.heads-h.result c.args.x.now c.fill.new.self c.heads-h.ensures c.requires.1 (c.fill.ensures.after (λ y h. search rules)) c.start-c.ensures

pub bucket_at-b-requires : goal.bucket_at-b-requires
bucket_at-b-requires c = (walks-points c.loop-c.invariant.walks (omega (arith, c.used-end.ensures)), omega (arith, c.loop-c.invariant.heads))

pub enter_step-requires : goal.enter_step-requires
enter_step-requires c = (subst (λ (h : ℕ). c.bucket_at-b.result < h) c.loop-c.invariant.heads c.bucket_at-b.ensures.1, omega (arith, c.used-end.ensures, c.requires.0.fits, c.requires.0.small))

pub next-c-requires : goal.next-c-requires
next-c-requires c = walks-points c.loop-c.invariant.walks (omega (arith, c.used-end.ensures))

pub loop-c-smaller : goal.loop-c-smaller
loop-c-smaller c = let f = walks-forward (walks-points c.loop-c.invariant.walks (omega (arith, c.used-end.ensures))) c.next-c.ensures.1 in omega (arith, f.0, f.1)

pub loop-c-preserved : goal.loop-c-preserved
loop-c-preserved c = build-turn c.loop-c.invariant (walks-points c.loop-c.invariant.walks (omega (arith, c.used-end.ensures))) c.bucket_at-b.ensures c.enter_step.ensures c.next-c.ensures

pub shape_of-x : goal.shape_of-x
shape_of-x c = c.loop-c.auto.x ∙ zeroed-length c.args.x.now c.fill.new.self (1 + c.heads-h.result) c.fill.ensures.len

pub returns : goal.returns
returns c = built c.loop-c.invariant (omega (arith, c.used-end.ensures))
