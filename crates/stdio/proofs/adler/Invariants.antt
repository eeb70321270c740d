use Rattle.std.proofs.Common.{◌≡◌, ◌<◌, drop}
use Rattle.stdio.specs.Front.{low_sum, high_sum}
use Rattle.stdio.proofs.adler.Given as goal

abbrev pub invariant-loop-x : goal.invariant-loop-x
invariant-loop-x l = (l.a < 65521) × (l.b < 65521) × (low_sum l.a (drop l.x-index l.s) ≡ low_sum 1 l.s) × (high_sum l.a l.b (drop l.x-index l.s) ≡ high_sum 1 0 l.s)
