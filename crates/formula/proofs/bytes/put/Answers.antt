use native.Mathlib.Omega.{arith}
use Rattle.formula.proofs.ByteLaws.{put_in, put-out}
use Rattle.formula.proofs.bytes.put.Goals as goal

pub returns-then-out-at : goal.returns-then-out-at
returns-then-out-at c = let a = c.args in put-out a.src.now a.at a.out.now (omega arith)

pub returns : goal.returns
returns c = let a = c.args in put_in a.src.now a.at a.out.now _ (omega arith) c.copy.ensures
