use native.Mathlib.Omega.{arith}
use mathlib.Core.Path.{refl}
use Rattle.contexts.proofs.MoveLaws.{face-some, constant-free, compound-free, opposite, opposite-known, opposite-clash, opposite-free}
use Rattle.contexts.proofs.moves.opposed.Goals as goal

pub bounds-x-0 : goal.bounds-x-0
bounds-x-0 c = face-some c.requires

pub returns-then-b-lt2 : goal.returns-then-b-lt2
returns-then-b-lt2 c = constant-free c.requires _ refl c.if-b-lt2.true

pub returns-then-b-gt3 : goal.returns-then-b-gt3
returns-then-b-gt3 c = compound-free c.requires _ refl c.if-b-gt3.true

pub dim_at-k-requires : goal.dim_at-k-requires
dim_at-k-requires c = omega (arith, (opposite c.requires refl c.if-b-lt2.false c.if-b-gt3.false).long)

pub has-requires : goal.has-requires
has-requires c = (opposite-known (opposite c.requires refl c.if-b-lt2.false c.if-b-gt3.false) c.literal_kind.ensures c.literal.ensures c.dim_at-k.ensures.0)

pub returns-then-has : goal.returns-then-has
returns-then-has c = opposite-clash (opposite c.requires refl c.if-b-lt2.false c.if-b-gt3.false) c.literal_kind.ensures c.literal.ensures c.dim_at-k.ensures.0 _ c.has.ensures c.if-has.true

pub returns : goal.returns
returns c = opposite-free (opposite c.requires refl c.if-b-lt2.false c.if-b-gt3.false) c.literal_kind.ensures c.literal.ensures c.dim_at-k.ensures.0 _ c.has.ensures c.if-has.false
