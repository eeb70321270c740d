-- The weight by the number of literals, which is 256 at most.
use native.Mathlib.Omega.{arith}
use Rattle.forms.proofs.FormLaws.{ones-few}
use Rattle.forms.proofs.PutLaws.{weight-none, weight-some}
use Rattle.forms.proofs.weight.Goals as goal

pub returns-then-m-eq0 : goal.returns-then-m-eq0
returns-then-m-eq0 c = weight-none c.args.c c.ones-m.ensures c.if-m-eq0.true

pub overflow_mul-result : goal.overflow_mul-result
overflow_mul-result c = omega (arith, c.ones-m.ensures, ones-few c.args.c)

pub returns : goal.returns
returns c = weight-some c.args.c c.ones-m.ensures c.if-m-eq0.false
