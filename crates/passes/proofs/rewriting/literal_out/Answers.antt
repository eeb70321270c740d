use Rattle.std.specs.Prelude.{ℕ, Option}
use Prim.Native.Nat.{◌+◌, ◌≤◌}
use native.Mathlib.Omega.{arith}
use mathlib.Core.Path.{sym, ap, ◌∙◌, subst}
use lib.ListN.{length}
use Rattle.passes.specs.Rewriting.{moved_bytes, Fielded}
use Rattle.passes.proofs.PassLaws.{wrote_as, hit-one, hit-zero}
use Rattle.passes.proofs.rewriting.literal_out.Goals as goal

pub bytes_out-requires : goal.bytes_out-requires
bytes_out-requires c = let a = c.args in
    (subst Fielded (sym c.move_dim.ensures ∙ c.in-Some.is) c.requires.1, subst (λ (x : Option ℕ). a.o + length (moved_bytes a.b x a.zero.now a.one.now) ≤ length a.out.now) (sym c.move_dim.ensures ∙ c.in-Some.is) c.requires.2)

pub part_out-requires : goal.part_out-requires
part_out-requires c = let a = c.args in
    omega (arith, ap length (ap (λ (x : Option ℕ). moved_bytes a.b x a.zero.now a.one.now) (sym c.move_dim.ensures ∙ c.in-None.is) ∙ hit-one a.b a.zero.now a.one.now c.if-b-eq3.true), c.requires.2)

pub returns-then-b-eq3 : goal.returns-then-b-eq3
returns-then-b-eq3 c = let a = c.args in
    wrote_as (sym (ap (λ (x : Option ℕ). moved_bytes a.b x a.zero.now a.one.now) (sym c.move_dim.ensures ∙ c.in-None.is) ∙ hit-one a.b a.zero.now a.one.now c.if-b-eq3.true)) c.part_out.ensures

pub part_out-requires-in-None : goal.part_out-requires-in-None
part_out-requires-in-None c = let a = c.args in
    omega (arith, ap length (ap (λ (x : Option ℕ). moved_bytes a.b x a.zero.now a.one.now) (sym c.move_dim.ensures ∙ c.in-None.is) ∙ hit-zero a.b a.zero.now a.one.now c.if-b-eq3.false), c.requires.2)

pub returns-in-Some : goal.returns-in-Some
returns-in-Some c = let a = c.args in wrote_as (sym (ap (λ (x : Option ℕ). moved_bytes a.b x a.zero.now a.one.now) (sym c.move_dim.ensures ∙ c.in-Some.is))) c.bytes_out.ensures

pub returns-else-b-eq3 : goal.returns-else-b-eq3
returns-else-b-eq3 c = let a = c.args in
    wrote_as (sym (ap (λ (x : Option ℕ). moved_bytes a.b x a.zero.now a.one.now) (sym c.move_dim.ensures ∙ c.in-None.is) ∙ hit-zero a.b a.zero.now a.one.now c.if-b-eq3.false)) c.part_out-in-None.ensures
