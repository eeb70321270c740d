-- The check of the Rust's producer/syntax.rs in its own order: at each node the depth and the count, then a dimension's
-- index, then the parts, the left one first.
use Rattle.std.specs.Prelude.{ℕ, suc, leb, Result, Err, Ok}
use Rattle.refusals.specs.declared.Refusal.{Refusal}
use Rattle.refusals.specs.declared.Refusal.TheVariants.{BeyondProducer}
use Rattle.formula.specs.Formula.{Face, ff, ft, at, fand, for, Interval, i0, i1, dim, neg, meet, join}
use Rattle.formula.specs.Bytes.{Tree}
use Rattle.formula.specs.Answers.{pick}
use Rattle.formula.specs.declared.Sort.{Sort}
use Rattle.formula.specs.declared.Sort.TheVariants.{Faces, Intervals}

-- What the check comes to: how many nodes it has counted, or what it refuses, a depth, a count or an index.
pub data Check : Type 0 where
  count : ℕ → Check
  too-deep too_many too_large : Check

-- The check goes on with its count; the first refusal decides.
abbrev pub next : Check → (ℕ → Check) → Check
next (count n) k = k n
next too-deep k = too-deep
next too_many k = too_many
next too_large k = too_large

-- `limits`: one node more, at depth d. The Rust has one error for both tests.
abbrev pub limits : ℕ → ℕ → Check
limits d n = pick (leb d 32) (pick (leb (suc n) 10000) (count (suc n)) too_many) too-deep

-- The index of a dimension.
abbrev pub index : ℕ → ℕ → Check
index i n = pick (leb i 32) (count n) too_large

-- `face` and `interval`: a formula at depth d, n nodes being counted before it.
unfoldable pub check_face : Face → ℕ → ℕ → Check
check_face ff d n = limits d n
check_face ft d n = limits d n
check_face (at e i) d n = next (limits d n) (index i)
check_face (fand a b) d n = next (limits d n) (λ m. next (check_face a (suc d) m) (check_face b (suc d)))
check_face (for a b) d n = next (limits d n) (λ m. next (check_face a (suc d) m) (check_face b (suc d)))

unfoldable pub check_interval : Interval → ℕ → ℕ → Check
check_interval i0 d n = limits d n
check_interval i1 d n = limits d n
check_interval (dim i) d n = next (limits d n) (index i)
check_interval (neg r) d n = next (limits d n) (check_interval r (suc d))
check_interval (meet r s) d n = next (limits d n) (λ m. next (check_interval r (suc d) m) (check_interval s (suc d)))
check_interval (join r s) d n = next (limits d n) (λ m. next (check_interval r (suc d) m) (check_interval s (suc d)))

abbrev pub check : (s : Sort) → Tree s → ℕ → ℕ → Check
check Faces f d n = check_face f d n
check Intervals r d n = check_interval r d n

-- What the check is answered with here: its count, or 13.
abbrev pub answered : Check → Result ℕ Refusal
answered (count n) = Ok n
answered too-deep = Err BeyondProducer
answered too_many = Err BeyondProducer
answered too_large = Err BeyondProducer
