use native.Mathlib.Omega.{arith}
use mathlib.Core.Path.{refl, sym, ap, ◌∙◌, subst}
use mathlib.Core.List.{[], ◌∷◌}
use mathlib.Core.Logic.{inl, inr}
use Prim.Native.Nat.{ℕ}
use lib.ListN.{length}
use Rattle.passes.specs.Stepping.{DimOver}
use Rattle.passes.proofs.PassLaws.{wrote_as, wrote_none}
use Rattle.passes.proofs.SideLaws.{side-plain, side-literal}
use Rattle.passes.proofs.sides.side_out.Goals as goal

pub byte_out-requires : goal.byte_out-requires
byte_out-requires c = let a = c.args in omega (arith, ap length (side-plain a.e a.b c.in-Leaf.is refl c.requires.1), c.requires.3)

pub bytes_out-requires : goal.bytes_out-requires
bytes_out-requires c = let a = c.args in (subst DimOver c.in-Lit.is c.requires.2, omega (arith, ap length (side-literal a.e a.b c.in-Lit.is c.requires.0 c.literal_kind.ensures), c.requires.3))

pub byte_out-requires-in-Two : goal.byte_out-requires-in-Two
byte_out-requires-in-Two c = let a = c.args in omega (arith, ap length (side-plain a.e a.b c.in-Two.is refl c.requires.1), c.requires.3)

pub returns-in-Leaf : goal.returns-in-Leaf
returns-in-Leaf c = let a = c.args in wrote_as (ap (λ (n : ℕ). n ∷ []) c.leaf_side.ensures ∙ sym (side-plain a.e a.b c.in-Leaf.is refl c.requires.1)) c.byte_out.ensures

pub returns-in-Lit : goal.returns-in-Lit
returns-in-Lit c = let a = c.args in wrote_as (sym (side-literal a.e a.b c.in-Lit.is c.requires.0 c.literal_kind.ensures)) c.bytes_out.ensures

pub returns-in-One : goal.returns-in-One
returns-in-One c = let a = c.args in
    elim c.in-One.is [
      | inl p ↦ wrote_as (sym (side-plain a.e a.b p.1 refl c.requires.1)) (wrote_none a.out.now a.o)
      | inr p ↦ wrote_as (sym (side-plain a.e a.b p refl c.requires.1)) (wrote_none a.out.now a.o)
    ]

pub returns-in-Two : goal.returns-in-Two
returns-in-Two c = let a = c.args in wrote_as (ap (λ (n : ℕ). n ∷ []) c.pair_side.ensures ∙ sym (side-plain a.e a.b c.in-Two.is refl c.requires.1)) c.byte_out-in-Two.ensures
