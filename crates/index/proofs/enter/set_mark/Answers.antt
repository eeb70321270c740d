use native.Mathlib.Omega.{arith}
use mathlib.Core.Path.{◌≡◌, ap}
use Prim.Native.Nat.{ℕ, ◌+◌}
use lib.ListN.{get_or, set}
use Rattle.index.specs.Index.{heads_of, mark, marked}
use Rattle.index.proofs.enter.set_mark.Goals as goal

pub overflow_add-x : goal.overflow_add-x
overflow_add-x c = let a = c.args in
    let e : get_or a.x.now (1 + c.heads.result + a.i) 0 ≡ get_or a.x.now (1 + heads_of a.x.now + a.i) 0 = ap (λ (h : ℕ). get_or a.x.now (1 + h + a.i) 0) c.heads.ensures in
    omega (arith, e, c.requires.1)

pub returns : goal.returns
unfolding marked
returns c = let a = c.args in ap (λ (h : ℕ). set a.x.now (1 + h + a.i) (get_or a.x.now (1 + h + a.i) 0 + mark)) c.heads.ensures
