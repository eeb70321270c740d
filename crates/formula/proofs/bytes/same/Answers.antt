use Rattle.std.proofs.Common.{arith, sym, ap, length, drop, ℕ, List, Bool, false, true, ◌≡◌, ◌<◌, ◌+◌, ◌∙◌}
use mathlib.Core.Bool.{◌&&◌}
use borrow.Author.Tests.{eq-eqb, ne_eqb}
use lib.Dec.{eqb}
use lib.ListN.{get_or}
use Rattle.formula.specs.Answers.{same_bytes}
use Rattle.formula.proofs.ByteLaws.{same-lengths, same_at, same_ends}
use Rattle.formula.proofs.bytes.same.Goals as goal

-- What is left to compare, where it is known whether the bytes at i are the same.
from-here : (t : Bool) (l m : List ℕ) (i : ℕ) → i < length l → i < length m → eqb (get_or l i 0) (get_or m i 0) ≡ t → same_bytes (drop i l) (drop i m) ≡ (t && same_bytes (drop (i + 1) l) (drop (i + 1) m))
from-here t l m i p q e = same_at l m i p q ∙ ap (λ (t : Bool). t && same_bytes (drop (i + 1) l) (drop (i + 1) m)) e

pub returns-then-a-b : goal.returns-then-a-b
returns-then-a-b c = sym (same-lengths c.args.a.now c.args.b.now c.if-a-b.true)

pub returns-then-a-i : goal.returns-then-a-i
returns-then-a-i c = sym (sym c.loop-i.invariant ∙ from-here false _ _ c.loop-i.i (omega arith) (omega arith) (ne_eqb _ _ (λ e. omega (arith, c.if-a-i.true, e))))

pub loop-i-preserved : goal.loop-i-preserved
loop-i-preserved c = sym (from-here true _ _ c.loop-i.i (omega arith) (omega arith) (eq-eqb _ _ (omega (arith, c.if-a-i.false)))) ∙ c.loop-i.invariant

pub returns : goal.returns
returns c = sym (same_ends c.args.a.now c.args.b.now c.loop-i.i c.loop-i-test.false c.if-a-b.false (omega arith)) ∙ c.loop-i.invariant
