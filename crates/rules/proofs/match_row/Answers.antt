use native.Mathlib.Omega.{arith}
use mathlib.Core.Path.{subst}
use mathlib.Core.List.{List}
use Rattle.std.specs.Prelude.{Some}
use Rattle.rows.specs.declared.Item.{Item}
use Rattle.rows.specs.Flattening.{joined, blank}
use Rattle.rules.specs.Matching.{Passes, held_in}
use Rattle.rules.proofs.Turning.{begin, begin-placed, row-first, row-on, row-stop, row-none, row-unread, row-read, take-past}
use Rattle.rules.proofs.match_row.Goals as goal

pub loop-line-init : goal.loop-line-init
loop-line-init c = let a = c.args in (row-first a.l.now a.claims.now begin c.none-env.result (begin-placed a.l.now a.claims.now), (blank, c.none-env.ensures a.l.now (held_in blank)))

pub one_line-requires : goal.one_line-requires
one_line-requires c = let o = c.loop-line in (c.requires.1 o.line-index _ c.loop-line-test.true, o.invariant.1, o.invariant.0.placed, c.requires.0)

pub returns-in_default : goal.returns-in_default
returns-in_default c = let a = c.args in let o = c.loop-line in row-none a.l.now a.claims.now (joined a.row.now) c.none-env.result c.none-env.ensures c.one_line.new.env (row-stop a.l.now a.claims.now begin c.none-env.result a.row.now o.line-index o.q o.env o.invariant.0 _ c.loop-line-test.true c.one_line.new.env c.in_default.ensures)

pub loop-line-preserved : goal.loop-line-preserved
loop-line-preserved c = let a = c.args in let o = c.loop-line in (row-on a.l.now a.claims.now begin c.none-env.result a.row.now o.line-index o.q o.env o.invariant.0 _ c.loop-line-test.true c.in-Some.p c.one_line.new.env c.in-Some.ensures, c.in-Some.ensures.possible o.invariant.1)

pub returns-then-q : goal.returns-then-q
returns-then-q c = let a = c.args in let o = c.loop-line in row-unread a.l.now a.claims.now (joined a.row.now) c.none-env.result c.none-env.ensures o.env o.q (subst (λ (ls : List (List Item)). Passes (joined ls) begin a.l.now a.claims.now c.none-env.result (Some o.q) o.env) (take-past a.row.now o.line-index (omega (arith, c.loop-line-test.false))) o.invariant.0) c.if-q.true

pub returns : goal.returns
returns c = let a = c.args in let o = c.loop-line in row-read a.l.now a.claims.now (joined a.row.now) c.none-env.result c.none-env.ensures o.env o.q (subst (λ (ls : List (List Item)). Passes (joined ls) begin a.l.now a.claims.now c.none-env.result (Some o.q) o.env) (take-past a.row.now o.line-index (omega (arith, c.loop-line-test.false))) o.invariant.0) c.if-q.false
