use Prim.Native.Nat.{ℕ, ◌-◌, ◌≤◌}
use native.Mathlib.Omega.{arith}
use mathlib.Core.Path.{◌≡◌, sym, ap, ◌∙◌}
use mathlib.Core.List.{List, ◌++◌, flat_map}
use lib.ListN.{length, replicate, drop_of_length-le}
use borrow.Author.Tests.{eqb-true, eqb-false}
use Rattle.clauses.specs.declared.Clause.{Clause}
use Rattle.clauses.proofs.ListLaws.{item}
use Rattle.forms.specs.Forms.{clause_form}
use Rattle.forms.proofs.FormLaws.{form-none, form-bytes, form-room, wrote_as, printing-start, printing-room, printing-next, printing-end}
use Rattle.dnf.specs.Forming.{form_bytes, Printable}
use Rattle.dnf.proofs.FormLaws.{all-at}
use Rattle.dnf.proofs.forming.write.Goals as goal

module _ {form : List Clause} {numbers : List ℕ} {room : ℕ} (p : Printable numbers form room) where
  none : length form ≡ 0 → form_bytes numbers form ≡ replicate 1 0
  none e = form-none numbers form e

  -- The bytes: one for each clause but the first, and those of the clauses.
  bytes : (length form ≡ 0 → ⊥) → form_bytes numbers form ≡ replicate (length form - 1) 5 ++ flat_map (clause_form numbers) form
  bytes h = form-bytes numbers form (omega (arith, h))

  first : (length form ≡ 0 → ⊥) → length form - 1 ≤ room
  first h = omega (arith, form-room numbers form 0 {room = room} (omega (arith, h)) (omega (arith, p.fits)))

pub put_times-requires : goal.put_times-requires
put_times-requires c = omega (arith, c.requires.fits, ap length (none c.requires (eqb-true (length c.args.form.now) 0 (sym c.is_empty.ensures ∙ c.if-is_empty.true))))

pub returns-then-is_empty : goal.returns-then-is_empty
returns-then-is_empty c = wrote_as (sym (none c.requires (eqb-true (length c.args.form.now) 0 (sym c.is_empty.ensures ∙ c.if-is_empty.true)))) c.put_times.ensures

pub put_times-to-requires : goal.put_times-to-requires
put_times-to-requires c = omega (arith, first c.requires (eqb-false (length c.args.form.now) 0 (sym c.is_empty.ensures ∙ c.if-is_empty.false)))

pub loop-c-init : goal.loop-c-init
loop-c-init c = printing-start c.put_times-to.ensures (sym (bytes c.requires (eqb-false (length c.args.form.now) 0 (sym c.is_empty.ensures ∙ c.if-is_empty.false))))

pub put_clause-to-requires-clause-all : goal.put_clause-to-requires-clause-all
put_clause-to-requires-clause-all c = all-at c.loop-c.c-index c.requires.fielded (item c.args.form.now c.loop-c.c-index _ c.loop-c-test.true)

pub put_clause-to-requires-clause-c_in_bounds : goal.put_clause-to-requires-clause-c_in_bounds
put_clause-to-requires-clause-c_in_bounds c = printing-room c.loop-c.invariant (item c.args.form.now c.loop-c.c-index _ c.loop-c-test.true) (omega (arith, c.requires.fits))

pub loop-c-preserved : goal.loop-c-preserved
loop-c-preserved c = printing-next c.loop-c.invariant (item c.args.form.now c.loop-c.c-index _ c.loop-c-test.true) c.put_clause-to.ensures

pub returns : goal.returns
returns c = printing-end c.loop-c.invariant (drop_of_length-le c.args.form.now {i = c.loop-c.c-index} c.loop-c-test.false)
