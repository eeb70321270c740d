use native.Mathlib.Omega.{arith}
use Prim.Native.Nat.{◌+◌}
use mathlib.Core.Path.{ap₂, subst}
use Rattle.std.proofs.Common.{Some}
use Rattle.clauses.specs.Lists.{Lists}
use Rattle.clauses.specs.Normal.{limited, pairs}
use Rattle.clauses.specs.Words.{words}
use Rattle.dnf.proofs.JoinLaws.{parted, both-done}
use Rattle.dnf.proofs.joined.both.Goals as goal

pub returns : goal.returns
returns c =
    let a = c.args in
    let s = c.split_at_mut-parts.ensures in
    let same = parted a.n a.m a.list.now c.split_at_mut-parts.result.0.now s.front s.front_len in
    subst (λ xs. Lists (limited (words a.mask) xs) (Some c.prune.result) c.prune.new.list) (ap₂ (pairs (words a.mask)) same.0 same.1)
    (both-done (words a.mask) _ c.split_at_mut-parts.result.0.now (a.n + a.m) s.front_len (omega (arith, s.back_len, c.pairs.auto.made)) c.in_ok-k.ensures c.prune.ensures)
