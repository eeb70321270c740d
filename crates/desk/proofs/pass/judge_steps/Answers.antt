use native.Mathlib.Omega.{arith}
use Prim.Native.Nat.{ℕ}
use lib.ListN.{length-replicate}
use Rattle.desk.proofs.PassLaws.{passing-start, passing-room, passing-fails, passing-all}
use Rattle.desk.proofs.pass.judge_steps.Goals as goal

pub loop-c-init : goal.loop-c-init
loop-c-init c = passing-start c.requires.0 _ (length-replicate {A = ℕ} 10923 0) c.start-c.ensures.0 c.start-c.ensures.1

pub returns-then-not-follows_at : goal.returns-then-not-follows_at
returns-then-not-follows_at c = passing-fails c.loop-c.invariant c.follows_at.result (omega (arith, c.requires.1, c.loop-c-test.true)) c.if-not-follows_at.true c.follows_at.ensures

pub note-requires : goal.note-requires
note-requires c = passing-room c.loop-c.invariant (omega (arith, c.requires.1, c.loop-c-test.true))

pub returns : goal.returns
returns c = passing-all c.loop-c.invariant (omega (arith, c.requires.1, c.loop-c-test.false))
