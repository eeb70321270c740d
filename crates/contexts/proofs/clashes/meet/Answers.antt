use mathlib.Core.Path.{refl}
use native.Mathlib.Omega.{arith}
use borrow.Author.Tests.{eqb-true}
use Rattle.contexts.proofs.MoveLaws.{face-some, opposite}
use Rattle.contexts.proofs.ClashLaws.{met-small, met-large, met-literal}
use Rattle.contexts.proofs.clashes.meet.Goals as goal

pub bounds-x-0 : goal.bounds-x-0
bounds-x-0 c = face-some c.requires.0

pub returns-then-b-lt2 : goal.returns-then-b-lt2
returns-then-b-lt2 c = met-small refl c.if-b-lt2.true

pub returns-then-b-gt3 : goal.returns-then-b-gt3
returns-then-b-gt3 c = met-large refl c.if-b-gt3.true

pub dim_at-k-requires : goal.dim_at-k-requires
dim_at-k-requires c = omega (arith, (opposite c.requires.0 refl c.if-b-lt2.false c.if-b-gt3.false).long)

pub returns : goal.returns
returns c = met-literal refl c.if-b-lt2.false c.if-b-gt3.false c.dim_at-k.ensures.0 (λ h. eqb-true _ _ h)
