use Prim.Native.Nat.{ℕ, ◌+◌, ◌≤◌}
use native.Mathlib.Omega.{arith}
use mathlib.Core.Path.{◌≡◌, sym, ◌∙◌}
use mathlib.Core.List.{List, map}
use lib.ListN.{length, drop_of_length-le}
use borrow.Author.Tests.{eqb-true, eqb-false}
use Rattle.clauses.specs.declared.Clause.{Clause}
use Rattle.clauses.proofs.ListLaws.{item}
use Rattle.forms.specs.Forms.{weight_of, form_nodes}
use Rattle.forms.proofs.FormLaws.{weight-few, Summing, summing-next, summing-end, summing-none}
use Rattle.dnf.proofs.forming.nodes.Goals as goal

weight-low : (d : Clause) {w : ℕ} → w ≡ weight_of d → w ≤ 511
weight-low d e = omega (arith, e, weight-few d)

pub returns-then-is_empty : goal.returns-then-is_empty
returns-then-is_empty c = sym (summing-none weight_of c.args.form.now (eqb-true (length c.args.form.now) 0 (sym c.is_empty.ensures ∙ c.if-is_empty.true)))

pub overflow_add-total : goal.overflow_add-total
overflow_add-total c = omega (arith, weight-low _ c.weight.ensures)

pub overflow_add-total-in-loop-c : goal.overflow_add-total-in-loop-c
overflow_add-total-in-loop-c c = omega (arith, weight-low _ c.weight.ensures, c.loop-c.invariant.few, c.loop-c-test.true, c.requires)

pub loop-c-preserved : goal.loop-c-preserved
loop-c-preserved c = summing-next c.loop-c.invariant (item c.args.form.now c.loop-c.c-index _ c.loop-c-test.true) c.weight.ensures (weight-low _ c.weight.ensures)

-- The sum at the end of the loop is one more than the nodes.
total : (l : List Clause) {i total : ℕ} → Summing weight_of l i total → length l ≤ i → (length l ≡ 0 → ⊥) → total ≡ form_nodes (map weight_of l) + 1
total l {i} s e z = summing-end s (drop_of_length-le l {i = i} e) (omega (arith, z))

pub overflow_sub-result : goal.overflow_sub-result
overflow_sub-result c = omega (arith, total c.args.form.now c.loop-c.invariant c.loop-c-test.false (eqb-false (length c.args.form.now) 0 (sym c.is_empty.ensures ∙ c.if-is_empty.false)))

pub returns : goal.returns
returns c = omega (arith, total c.args.form.now c.loop-c.invariant c.loop-c-test.false (eqb-false (length c.args.form.now) 0 (sym c.is_empty.ensures ∙ c.if-is_empty.false)))
