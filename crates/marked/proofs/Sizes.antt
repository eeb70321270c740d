-- The steps for an interval of at most 511 nodes take less than 1,000,000 bytes.
use mathlib.Core.Path.{◌≡◌, refl, ap}
use mathlib.Core.Bool.{true}
use mathlib.Core.Option.{Option, none, some}
use mathlib.Core.List.{List, [], ◌∷◌, ◌++◌}
use Prim.Native.Nat.{ℕ, zero, suc, ◌+◌, ◌*◌, ◌≤◌, max}
use native.Mathlib.Omega.{arith}
use native.Mathlib.Nat.{suc-mul, mul-suc, add-mul, mul-le-mul_left, mul-le-mul_right}
use borrow.Author.Tests.{le-leb}
use lib.ListN.{length, length-append}
use Rattle.formula.specs.Formula.{Interval, i0, i1, dim, neg, meet, join}
use Rattle.formula.specs.Bytes.{encode_interval, nodes_interval, bound_interval, max_nodes, max_bound}
use Rattle.calculus.specs.Judgement.{Judgement, Step, interval}
use Rattle.calculus.specs.Record.{references_bytes, operand_bytes, body_bytes, record_bytes, steps_bytes, size}
use Rattle.calculus.specs.Emit.{Failure, find, emit, Outcome, done, stopped, next, emitted, unbounded, run}
use Rattle.calculus.specs.Calls.{less, emit_comparison, emit_interval}
use Rattle.calculus.proofs.Records.{record-length, steps-append}
use Rattle.marked.proofs.Replying.{takes}

-- The run leaves steps that take at most b bytes more.
data Adds (b : ℕ) (L : List Step) : Outcome → Type 0 where
  adds-done : {n : ℕ} {M : List Step} → size M ≤ size L + b → Adds b L (done n M)
  adds-stopped : {e : Failure} {M : List Step} → size M ≤ size L + b → Adds b L (stopped e M)

adds-more : {b c : ℕ} {L M : List Step} {o : Outcome} → size L + b ≤ size M + c → Adds b L o → Adds c M o
adds-more h (adds-done {M} k) = adds-done {M = M} (omega arith)
adds-more h (adds-stopped {M} k) = adds-stopped {M = M} (omega arith)

-- One run after another.
adds-next : {b c e : ℕ} {L : List Step} {o : Outcome} {k : ℕ → List Step → Outcome} → b + c ≤ e → Adds b L o → ((n : ℕ) (M : List Step) → Adds c M (k n M)) → Adds e L (next o k)
adds-next h (adds-done {n} {M} p) w = adds-more (omega arith) (w n M)
adds-next h (adds-stopped {M} p) w = adds-stopped {M = M} (omega arith)

-- A step takes its record.
adds-emit : {b : ℕ} (k : ℕ) (is : List ℕ) (j : Judgement) (L : List Step) → 6 + (length (references_bytes is) + length (operand_bytes j)) ≤ b → Adds b L (run unbounded (emit k is j) L)
unfolding run steps_bytes body_bytes
adds-emit {b} k is j L h = go (find j L)
  where
    s : Step
    s = record { kind = k; references = is; judgement = j }

    takes-record : size (L ++ s ∷ []) ≤ size L + b
    takes-record =
        let a = ap length (steps-append L (s ∷ [])) in
        let c = length-append (steps_bytes L) (steps_bytes (s ∷ [])) in
        let d = length-append (references_bytes is) (operand_bytes j) in
        omega (arith, length-append (record_bytes s) [], record-length s)

    go : (o : Option ℕ) → Adds b L (emitted unbounded L s o)
    go (some n) = adds-done {M = L} (omega arith)
    go none = adds-done takes-record

-- A comparison takes at most twelve bytes for each number up to its first.
comparison-adds : (m n : ℕ) (L : List Step) → Adds (12 * suc m) L (run unbounded (emit_comparison less m n) L)
unfolding run emit_comparison references_bytes
comparison-adds zero zero L = adds-stopped {M = L} (omega arith)
comparison-adds zero (suc n) L = adds-emit 1 [] _ L (omega arith)
comparison-adds (suc m) zero L = adds-stopped {M = L} (omega arith)
comparison-adds (suc m) (suc n) L = adds-next {c = 12} (omega arith) (comparison-adds m n L) (λ i M. adds-emit 2 (i ∷ []) _ M (omega arith))

-- How many dimensions stand in an interval, and how many nodes lie one below another.
dims : Interval → ℕ
dims i0 = 0
dims i1 = 0
dims (dim n) = 1
dims (neg r) = dims r
dims (meet r s) = dims r + dims s
dims (join r s) = dims r + dims s

height : Interval → ℕ
height i0 = 1
height i1 = 1
height (dim n) = 1
height (neg r) = suc (height r)
height (meet r s) = suc (max (height r) (height s))
height (join r s) = suc (max (height r) (height s))

-- A byte for each node and each dimension.
bytes_counted : (r : Interval) → length (encode_interval r) ≡ nodes_interval r + dims r
unfolding encode_interval nodes_interval dims
bytes_counted i0 = refl
bytes_counted i1 = refl
bytes_counted (dim n) = refl
bytes_counted (neg r) = omega (arith, bytes_counted r)
bytes_counted (meet r s) = omega (arith, length-append (encode_interval r) (encode_interval s), bytes_counted r, bytes_counted s)
bytes_counted (join r s) = omega (arith, length-append (encode_interval r) (encode_interval s), bytes_counted r, bytes_counted s)

-- With many dimensions an interval is not high.
counted : (r : Interval) → (2 * dims r ≤ nodes_interval r + 1) × (height r + dims r ≤ nodes_interval r + 1) × (dims r ≤ nodes_interval r)
unfolding nodes_interval dims height
counted i0 = omega arith
counted i1 = omega arith
counted (dim n) = omega arith
counted (neg r) = omega (arith, counted r)
counted (meet r s) = omega (arith, counted r, counted s)
counted (join r s) = omega (arith, counted r, counted s)

-- The bytes of all its parts, 15 more for each step, and a comparison for each dimension.
cost : Interval → ℕ
cost r = (nodes_interval r + dims r) * height r + 15 * nodes_interval r + 3060 * dims r

-- A node over one part, and over two.
cost-one : (b h : ℕ) → b * h + (b + 1) ≤ suc b * suc h
cost-one b h = omega (arith, suc-mul b (suc h), mul-suc b h)

cost-two : (b c h k : ℕ) → b * h + c * k + suc (b + c) ≤ suc (b + c) * suc (max h k)
cost-two b c h k =
    let m = max h k in
    let p : b * h ≤ b * m = mul-le-mul_left b (omega arith) in
    let q : c * k ≤ c * m = mul-le-mul_left c (omega arith) in
    omega (arith, suc-mul (b + c) (suc m), mul-suc (b + c) m, add-mul b c m)

two-adds : (r s : Interval) → cost r + (cost s + (16 + length (encode_interval r ++ encode_interval s))) ≤ cost (meet r s)
unfolding cost nodes_interval dims height
two-adds r s =
    let a = length-append (encode_interval r) (encode_interval s) in
    let b = bytes_counted r in
    let c = bytes_counted s in
    omega (arith, cost-two (nodes_interval r + dims r) (nodes_interval s + dims s) (height r) (height s))

interval-adds : (d : ℕ) (r : Interval) → bound_interval r ≤ max_bound → (L : List Step) → Adds (cost r) L (run unbounded (emit_interval d r) L)
unfolding run emit_interval bound_interval cost nodes_interval dims height encode_interval references_bytes
interval-adds d i0 h L = adds-emit 5 [] (interval d i0) L (omega arith)
interval-adds d i1 h L = adds-emit 6 [] (interval d i1) L (omega arith)
interval-adds d (dim n) h L = adds-next {c = 13} (omega arith) (comparison-adds n d L) (λ i M. adds-emit 7 (i ∷ []) (interval d (dim n)) M (omega arith))
interval-adds d (neg r) h L =
    adds-next {c = 12 + length (encode_interval r)} (omega (arith, bytes_counted r, cost-one (nodes_interval r + dims r) (height r))) (interval-adds d r h L) (λ i M. adds-emit 8 (i ∷ []) (interval d (neg r)) M (omega arith))
interval-adds d (meet r s) h L =
    let n = 16 + length (encode_interval r ++ encode_interval s) in
    let e = two-adds r s in
    adds-next {c = cost s + n} (omega arith) (interval-adds d r (omega arith) L) (λ i M.
    adds-next {c = n} (omega arith) (interval-adds d s (omega arith) M) (λ k N. adds-emit 9 (i ∷ k ∷ []) (interval d (meet r s)) N (omega arith)))
interval-adds d (join r s) h L =
    let n = 16 + length (encode_interval r ++ encode_interval s) in
    let e = two-adds r s in
    adds-next {c = cost s + n} (omega arith) (interval-adds d r (omega arith) L) (λ i M.
    adds-next {c = n} (omega arith) (interval-adds d s (omega arith) M) (λ k N. adds-emit 10 (i ∷ k ∷ []) (interval d (join r s)) N (omega arith)))

-- At most 511 nodes and dimensions of at most 254.
cost-small : (r : Interval) → nodes_interval r ≤ max_nodes → cost r ≤ 999996
unfolding cost
cost-small r h = omega (arith, counted r, mul-le-mul_right (height r) (let z : nodes_interval r + dims r ≤ 767 = omega (arith, counted r) in z))

pub interval-takes : (d : ℕ) (r : Interval) → nodes_interval r ≤ max_nodes → bound_interval r ≤ max_bound → takes (run unbounded (emit_interval d r) []) 1000000 ≡ true
unfolding steps_bytes
interval-takes d r p q = go (interval-adds d r q [])
  where
    go : {o : Outcome} → Adds (cost r) [] o → takes o 1000000 ≡ true
    go (adds-done {M = M} h) = le-leb (size M) 1000000 (omega (arith, cost-small r p))
    go (adds-stopped {M = M} h) = le-leb (size M) 1000000 (omega (arith, cost-small r p))
