use Prim.Native.Nat.{◌+◌, ◌≤◌}
use native.Mathlib.Omega.{arith}
use mathlib.Core.Path.{sym, ap, subst}
use lib.ListN.{length}
use Rattle.formula.specs.declared.Advance.{Advance}
use Rattle.passes.specs.Rewriting.{Token, image_of, FieldedAt}
use Rattle.passes.specs.Stepping.{token_over, DimOver}
use Rattle.passes.proofs.PassLaws.{wrote_as, plain_over}
use Rattle.passes.proofs.rewriting.node_out.Goals as goal

pub literal_out-requires : goal.literal_out-requires
literal_out-requires c = let a = c.args in
    let t = ap (token_over a.b) c.in-Lit.is in
    (subst DimOver c.in-Lit.is c.requires.0, subst (FieldedAt a.rule) t c.requires.1, subst (λ (y : Token). a.o + length (image_of a.rule a.zero.now a.one.now y) ≤ length a.out.now) t c.requires.2)

pub returns-in-Lit : goal.returns-in-Lit
returns-in-Lit c = let a = c.args in wrote_as (sym (ap (λ (y : Advance). image_of a.rule a.zero.now a.one.now (token_over a.b y)) c.in-Lit.is)) c.literal_out.ensures

pub byte_out-requires : goal.byte_out-requires
byte_out-requires c = let a = c.args in omega (arith, ap (λ (y : Token). length (image_of a.rule a.zero.now a.one.now y)) (plain_over a.b a.x c.in_default.not-Lit), c.requires.2)

pub returns : goal.returns
returns c = let a = c.args in wrote_as (sym (ap (image_of a.rule a.zero.now a.one.now) (plain_over a.b a.x c.in_default.not-Lit))) c.byte_out.ensures
