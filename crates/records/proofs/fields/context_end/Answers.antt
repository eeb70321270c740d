use mathlib.Core.Path.{sym, ap, ◌∙◌}
use Prim.Native.Nat.{◌+◌}
use native.Mathlib.Omega.{arith}
use Rattle.records.specs.Places.{faces_end}
use Rattle.records.proofs.FieldLaws.{context-short, context-in}
use Rattle.records.proofs.fields.context_end.Goals as goal

pub returns-then-s-at-lt2 : goal.returns-then-s-at-lt2
returns-then-s-at-lt2 c = let a = c.args in sym (context-short a.s.now a.at c.if-s-at-lt2.true)

pub returns : goal.returns
returns c = let a = c.args in c.faces_end.ensures ∙ ap (faces_end a.s.now (a.at + 2)) c.get2-n.ensures.0 ∙ sym (context-in a.s.now a.at (omega arith))
