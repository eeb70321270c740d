use native.Mathlib.Omega.{arith}
use mathlib.Core.Path.{ap, ◌∙◌}
use native.Mathlib.Numerals.{add-one}
use lib.ListN.{length-set, set}
use lib.Seq.{sets}
use Rattle.formula.specs.Bytes.{dim_bytes}
use Prim.Native.Nat.{ℕ}
use Rattle.passes.proofs.rewriting.bytes_out.Goals as goal

pub put_dim-requires : goal.put_dim-requires
put_dim-requires c = (simp length-set (omega arith), omega arith)

pub shape_of-out : goal.shape_of-out
shape_of-out c = let a = c.args in c.put_dim.auto.out ∙ length-set a.out.now a.o a.b

pub returns : goal.returns
returns c = let a = c.args in record { next = omega arith; stored = c.put_dim.ensures ∙ ap (λ (i : ℕ). sets (set a.out.now a.o a.b) i (dim_bytes a.n)) (add-one a.o) }
