use native.Mathlib.Omega.{arith}
use Prim.Native.Nat.{◌+◌}
use mathlib.Core.Path.{sym, ◌∙◌}
use borrow.Author.Tests.{ltb-true, ltb-false}
use Rattle.clauses.specs.Words.{words}
use Rattle.dnf.proofs.JoinLaws.{either-over, either-done}
use Rattle.dnf.proofs.joined.either.Goals as goal

pub returns-then-over : goal.returns-then-over
returns-then-over c = either-over (words c.args.mask) c.args.n c.args.m c.args.list.now (omega arith) (ltb-true 256 (c.args.n + c.args.m) (sym c.over.ensures ∙ c.if-over.true))

pub returns : goal.returns
returns c = either-done (words c.args.mask) c.args.n c.args.m c.args.list.now (omega arith) (ltb-false 256 (c.args.n + c.args.m) (sym c.over.ensures ∙ c.if-over.false)) c.prune.ensures
