-- A literal's bytes are its kind and its dimension.
use native.Mathlib.Omega.{arith}
use mathlib.Core.Path.{ap, ◌∙◌}
use lib.ListN.{length, length-set}
use Rattle.forms.proofs.PutLaws.{literal-bytes, literal-wrote}
use Rattle.forms.proofs.put_literal.Goals as goal

pub bounds-out-to : goal.bounds-out-to
bounds-out-to c = omega (arith, c.requires.k_in_bounds, ap length (literal-bytes c.args.k c.literal_kind.ensures))

pub put_dim-requires : goal.put_dim-requires
put_dim-requires c = (simp length-set (omega (arith, c.requires.k_in_bounds, ap length (literal-bytes c.args.k c.literal_kind.ensures))), c.requires.k_bound)

pub shape_of-out : goal.shape_of-out
shape_of-out c = let a = c.args in c.put_dim.auto.out ∙ length-set a.out.now a.to _

pub returns : goal.returns
returns c = literal-wrote c.args.k c.literal_kind.ensures c.put_dim.ensures
