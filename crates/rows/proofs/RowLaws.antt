-- Each rule's lines are found between its start and the next, and their variables are few.
use mathlib.Core.Path.{◌≡◌, refl, sym, ap, ◌∙◌}
use mathlib.Core.Bool.{Bool, true, ◌&&◌, and-eq-true_iff}
use mathlib.Core.List.{List, [], ◌∷◌, map}
use Prim.Native.Nat.{ℕ, zero, suc, ◌≤◌, ◌<◌}
use native.Mathlib.Omega.{arith}
use borrow.Author.Tests.{leb-true, ltb-true}
use lib.Dec.{leb, ltb}
use lib.ListN.{length, get_or, get_or-map, replicate, get_or-replicate}
use Rattle.calculus.proofs.Rows.{Row, row, Lt, nz, rows, row_at}
use Rattle.rows.specs.declared.TheConstants.{STARTS}
use Rattle.rows.specs.declared.Token.TheVariants.{Byte as byte, Number as number, Slot as slot, Front as front, Done as done, Pad as pad}
use Rattle.rows.specs.declared.Item.{Item}
use Rattle.rows.specs.declared.Item.TheVariants.{Claim as claim, Inside as inside}
use Rattle.rows.specs.Items.{AllFit, RowFits}
use Rattle.rows.specs.Flattening.{flat_f, flat_i, fronts, flat_faces, part, lines_in, all_lines, start_at}

-- The parts between a number and the next.
unfoldable pieces : {A : Type 0} → List A → List ℕ → List (List A)
pieces l [] = []
pieces l (a ∷ []) = []
pieces l (a ∷ (b ∷ t)) = part l a b ∷ pieces l (b ∷ t)

-- Do the numbers not fall, up to n?
unfoldable rising : ℕ → List ℕ → Bool
rising n [] = true
rising n (a ∷ []) = leb a n
rising n (a ∷ (b ∷ t)) = leb a b && rising n (b ∷ t)

piece_at : {A : Type 0} (l : List A) (s : List ℕ) (k : ℕ) (e : List A) → suc k < length s → get_or (pieces l s) k e ≡ part l (get_or s k 0) (get_or s (suc k) 0)
unfolding pieces
piece_at l [] k e h = absurd (omega arith)
piece_at l (a ∷ []) k e h = absurd (omega arith)
piece_at l (a ∷ (b ∷ t)) zero e h = refl
piece_at l (a ∷ (b ∷ t)) (suc k) e h = piece_at l (b ∷ t) k e (omega arith)

rising_at : (n : ℕ) (s : List ℕ) (k : ℕ) → rising n s ≡ true → suc k < length s → get_or s k 0 ≤ get_or s (suc k) 0
unfolding rising
rising_at n [] k e h = absurd (omega arith)
rising_at n (a ∷ []) k e h = absurd (omega arith)
rising_at n (a ∷ (b ∷ t)) zero e h = leb-true a b ((and-eq-true_iff (leb a b) (rising n (b ∷ t))).0 e).0
rising_at n (a ∷ (b ∷ t)) (suc k) e h = rising_at n (b ∷ t) k ((and-eq-true_iff (leb a b) (rising n (b ∷ t))).0 e).1 (omega arith)

rising-below : (n : ℕ) (s : List ℕ) (k : ℕ) → rising n s ≡ true → k < length s → get_or s k 0 ≤ n
unfolding rising
rising-below n [] k e h = absurd (omega arith)
rising-below n (a ∷ []) zero e h = leb-true a n e
rising-below n (a ∷ []) (suc k) e h = absurd (omega arith)
rising-below n (a ∷ (b ∷ t)) zero e h =
    let p = (and-eq-true_iff (leb a b) (rising n (b ∷ t))).0 e in
    omega (arith, leb-true a b p.0, rising-below n (b ∷ t) 0 p.1 (omega arith))
rising-below n (a ∷ (b ∷ t)) (suc k) e h = rising-below n (b ∷ t) k ((and-eq-true_iff (leb a b) (rising n (b ∷ t))).0 e).1 (omega arith)

-- The computed tests: the table's parts are the rows, and the starts rise.
table-rows : pieces all_lines STARTS ≡ map lines_in rows
unfolding pieces all_lines flat_f flat_i fronts flat_faces rows
table-rows = refl

starts-rise : rising 154 STARTS ≡ true
unfolding rising
starts-rise = refl

pub start-below : (k : ℕ) → k < 76 → start_at k ≤ 154
unfolding start_at
start-below k h = rising-below 154 STARTS k starts-rise h

pub start_next : (k : ℕ) → k < 75 → start_at k ≤ start_at (suc k)
unfolding start_at
start_next k h = rising_at 154 STARTS k starts-rise (omega arith)

rows-length : length rows ≡ 75
unfolding rows
rows-length = refl

-- The lines between a start and the next are the row's.
pub row-lines : (k : ℕ) → k < 75 → part all_lines (start_at k) (start_at (suc k)) ≡ lines_in (row_at k)
unfolding start_at
row-lines k h =
    let e : Row = row (Lt nz nz) [] in
    sym (piece_at all_lines STARTS k (lines_in e) (omega arith))
    ∙ ap (λ (t : List (List (List Item))). get_or t k (lines_in e)) table-rows
    ∙ get_or-map lines_in rows k e

-- Are the variables of the lines few?
unfoldable few : List Item → Bool
few [] = true
few (claim p ∷ is) = few is
few (inside (byte b) ∷ is) = few is
few (inside (number k v) ∷ is) = ltb v 8 && few is
few (inside (slot u) ∷ is) = ltb u 24 && few is
few (inside (front k) ∷ is) = few is
few (inside done ∷ is) = few is
few (inside pad ∷ is) = few is

few_at : (is : List Item) → few is ≡ true → AllFit is
unfolding few
few_at [] e i d h = absurd (omega arith)
few_at (claim p ∷ is) e zero d h = tt
few_at (claim p ∷ is) e (suc i) d h = few_at is e i d (omega arith)
few_at (inside (byte b) ∷ is) e zero d h = tt
few_at (inside (byte b) ∷ is) e (suc i) d h = few_at is e i d (omega arith)
few_at (inside (number k v) ∷ is) e zero d h = ltb-true v 8 ((and-eq-true_iff (ltb v 8) (few is)).0 e).0
few_at (inside (number k v) ∷ is) e (suc i) d h = few_at is ((and-eq-true_iff (ltb v 8) (few is)).0 e).1 i d (omega arith)
few_at (inside (slot u) ∷ is) e zero d h = ltb-true u 24 ((and-eq-true_iff (ltb u 24) (few is)).0 e).0
few_at (inside (slot u) ∷ is) e (suc i) d h = few_at is ((and-eq-true_iff (ltb u 24) (few is)).0 e).1 i d (omega arith)
few_at (inside (front k) ∷ is) e zero d h = tt
few_at (inside (front k) ∷ is) e (suc i) d h = few_at is e i d (omega arith)
few_at (inside done ∷ is) e zero d h = tt
few_at (inside done ∷ is) e (suc i) d h = few_at is e i d (omega arith)
few_at (inside pad ∷ is) e zero d h = tt
few_at (inside pad ∷ is) e (suc i) d h = few_at is e i d (omega arith)

unfoldable all_few : List (List Item) → Bool
all_few [] = true
all_few (l ∷ ls) = few l && all_few ls

all_few_at : (ls : List (List Item)) → all_few ls ≡ true → RowFits ls
unfolding all_few
all_few_at [] e k d h = absurd (omega arith)
all_few_at (l ∷ ls) e zero d h = few_at l ((and-eq-true_iff (few l) (all_few ls)).0 e).0
all_few_at (l ∷ ls) e (suc k) d h = all_few_at ls ((and-eq-true_iff (few l) (all_few ls)).0 e).1 k d (omega arith)

-- The computed test.
rows-few : map (λ (r : Row). all_few (lines_in r)) rows ≡ replicate 75 true
unfolding all_few few flat_f flat_i fronts flat_faces rows
rows-few = refl

-- Every variable of a rule's lines fits the slots.
pub row-fits : (k : ℕ) → k < 75 → RowFits (lines_in (row_at k))
row-fits k h =
    let e : Row = row (Lt nz nz) [] in
    all_few_at (lines_in (row_at k))
    (sym (get_or-map (λ (r : Row). all_few (lines_in r)) rows k e) ∙ ap (λ (l : List Bool). get_or l k (all_few (lines_in e))) rows-few ∙ get_or-replicate 75 k true (all_few (lines_in e)) h)
