use native.Mathlib.Omega.{arith}
use mathlib.Core.Path.{subst}
use Prim.Native.Nat.{ℕ}
use Rattle.index.specs.Index.{heads_of, places_from, Entered}
use Rattle.index.proofs.enter.enter_step.Goals as goal

pub returns-then-x-lt23 : goal.returns-then-x-lt23
returns-then-x-lt23 c = λ e. absurd (omega (arith, c.if-x-lt23.true, e.1))

pub returns-then-n-ge1048576 : goal.returns-then-n-ge1048576
returns-then-n-ge1048576 c = λ e. absurd (omega (arith, c.if-n-ge1048576.true, e.0, c.slot-n.ensures.0))

pub returns-then-groups-n : goal.returns-then-groups-n
returns-then-groups-n c = λ e. absurd (omega (arith, c.if-groups-n.true, e.1, c.slot-n.ensures.0, c.groups.ensures))

pub returns : goal.returns
returns c = λ e. let a = c.args in subst (λ (n : ℕ). Entered (heads_of a.x.now) (places_from a.x.now) n a.x.now a.b a.at c.store.new.x) c.slot-n.ensures.0 c.store.ensures
