-- One turn of the walk over a row of formulas: what is left to read ends where the whole does.
use Rattle.std.specs.Prelude.{Result, Err, Ok, Option, Some, None}
use Rattle.refusals.specs.declared.Refusal.{Refusal}
use Prim.Native.Nat.{ℕ, zero, suc, ◌+◌, ◌-◌, ◌≤◌, ◌<◌, max}
use native.Mathlib.Omega.{arith}
use native.Mathlib.Numerals.{add-one}
use native.Mathlib.Decide.{dec_le}
use mathlib.Core.Path.{◌≡◌, refl, sym, ap, ap₂, ◌∙◌, subst}
use mathlib.Core.Bool.{Bool, true, false, ◌&&◌}
use mathlib.Core.List.{List, [], ◌∷◌, ◌++◌}
use lib.Dec.{leb, eqb}
use lib.ListN.{length, get_or, take, drop, length-append, length-drop, drop_of_length-le}
use lib.Seq.{drop-cons, take_at}
use borrow.Author.Tests.{le-leb, leb-true, leb-false, eq-eqb, ne_eqb}
use Rattle.formula.specs.Bytes.{Tree, dim_width, dim_at, encode, Node, leaf, lit, one, two, bad, node_of, Got, nothing, got, then, take_dim, front, read, wholly, read_all}
use Rattle.formula.specs.Answers.{pick, step_by, step_of, kind_of, size_read, measurement, size_front, measurement_at, bytes_of, part_at}
use Rattle.formula.proofs.Walks.{Walk, counted, turn_of, read_row, over_tree, passed, finish, walked_at}
use Rattle.formula.specs.declared.Sort.{Sort}
use Rattle.formula.specs.declared.Size.{Size}
use Rattle.formula.specs.declared.Kind.{Kind}
use Rattle.refusals.specs.declared.Refusal.TheVariants.{NotAFormula}
use Rattle.formula.specs.declared.Advance.{Advance}
use Rattle.formula.specs.declared.Advance.TheVariants.{Leaf, Lit, One, Two, Stuck}
use Rattle.formula.proofs.Nodes.{Makes, made}
use Rattle.formula.proofs.Reading.{nothing-got, encode-pos, read-cons, encode-read}
use Rattle.formula.proofs.StepLaws.{step_kind, step_in, step-few}

walk-eq : {a b p q n m x y : ℕ} → a ≡ b → p ≡ q → n ≡ m → x ≡ y → ◌≡◌ {A = Walk} (record { at = a; pending = p; nodes = n; bound = x }) (record { at = b; pending = q; nodes = m; bound = y })
walk-eq e f g h i = record { at = e i; pending = f i; nodes = g i; bound = h i }

-- a turn that is counted, with its numbers as the code has them
pub on-eq : {a b p q n x y : ℕ} → b ≡ a → q ≡ p → y ≡ x → ◌≡◌ {A = Option Walk} (Some (record { at = a + 1; pending = p; nodes = n; bound = x })) (Some (record { at = b + 1; pending = q; nodes = n; bound = y }))
on-eq e f h = ap Some (walk-eq (ap (λ (z : ℕ). z + 1) (sym e)) (sym f) refl (sym h))

size-eq : {a b n m x y : ℕ} → a ≡ b → n ≡ m → x ≡ y → ◌≡◌ {A = Size} (record { len = a; nodes = n; bound = x }) (record { len = b; nodes = m; bound = y })
size-eq e f g i = record { len = e i; nodes = f i; bound = g i }

module _ (s : Sort) where
  -- a row takes a byte or more for each formula
  abbrev Long : ℕ → List ℕ → Type 0
  Long p l = (ts : List (Tree s)) (m : List ℕ) → read_row s p l ≡ got ts m → p ≤ length l

  long_rest : (p : ℕ) (l : List ℕ) (t : Tree s) (k : List ℕ) → l ≡ encode s t ++ k → (r : Got (List (Tree s))) → ((us : List (Tree s)) (n : List ℕ) → r ≡ got us n → p ≤ length k)
      → (ts : List (Tree s)) (m : List ℕ) → then r (λ us. got (t ∷ us)) ≡ got ts m → suc p ≤ length l
  long_rest p l t k i nothing h ts m e = absurd (nothing-got e)
  long_rest p l t k i (got us n) h ts m e = omega (arith, h us n refl, encode-pos s t, simp length-append at (ap length i))

  long-first : (p : ℕ) → ((l : List ℕ) → Long p l) → (l : List ℕ) (r : Got (Tree s)) → read s l ≡ r
      → (ts : List (Tree s)) (m : List ℕ) → then r (λ t k. then (read_row s p k) (λ us. got (t ∷ us))) ≡ got ts m → suc p ≤ length l
  long-first p h l nothing i ts m e = absurd (nothing-got e)
  long-first p h l (got t k) i ts m e = long_rest p l t k (encode-read s l t k i) (read_row s p k) (h k) ts m e

  row-long : (p : ℕ) (l : List ℕ) → Long p l
  unfolding read_row
  row-long zero l ts m e = omega arith
  row-long (suc p) l ts m e = long-first p (row-long p) l (read s l) refl ts m e

  row-few : (p : ℕ) (l : List ℕ) → length l < p → read_row s p l ≡ nothing
  row-few p l h = go (read_row s p l) refl
    where
      go : (r : Got (List (Tree s))) → read_row s p l ≡ r → r ≡ nothing
      go nothing e = refl
      go (got ts m) e = absurd (omega (arith, row-long p l ts m e))

  -- a row behind a formula, its walk, and the same behind a node over one or two formulas
  abbrev behind : ℕ → Tree s → List ℕ → Got (List (Tree s))
  behind q t m = then (read_row s q m) (λ ts. got (t ∷ ts))

  finish-behind : (q : ℕ) (w w' : Walk) (t : Tree s) (m : List ℕ) → over_tree s w t ≡ w' → finish s w (behind q t m) ≡ finish s w' (read_row s q m)
  unfolding passed
  finish-behind q w w' t m e = go (read_row s q m)
    where
      go : (r : Got (List (Tree s))) → finish s w (then r (λ ts. got (t ∷ ts))) ≡ finish s w' r
      go nothing = refl
      go (got ts k) = ap (λ (x : Walk). Some (passed s x ts)) e

  finish-one : (q : ℕ) (w w' : Walk) (u : Tree s → Tree s) → ((x : Tree s) → over_tree s w (u x) ≡ over_tree s w' x) → (r : Got (Tree s))
      → finish s w (then (then r (λ x. got (u x))) (behind q)) ≡ finish s w' (then r (behind q))
  finish-one q w w' u e nothing = refl
  finish-one q w w' u e (got x m) = finish-behind q w (over_tree s w' x) (u x) m (e x) ∙ sym (finish-behind q w' (over_tree s w' x) x m refl)

  finish-second : (q : ℕ) (w w' : Walk) (v : Tree s → Tree s → Tree s) → ((x y : Tree s) → over_tree s w (v x y) ≡ over_tree s (over_tree s w' x) y) → (x : Tree s) (r : Got (Tree s))
      → finish s w (then (then r (λ y. got (v x y))) (behind q)) ≡ finish s w' (then (then r (behind q)) (λ ts. got (x ∷ ts)))
  unfolding passed
  finish-second q w w' v e x nothing = refl
  finish-second q w w' v e x (got y k) = finish-behind q w (over_tree s (over_tree s w' x) y) (v x y) k (e x y) ∙ sym (pass (read_row s q k))
    where
      pass : (r : Got (List (Tree s))) → finish s w' (then (then r (λ ts. got (y ∷ ts))) (λ ts. got (x ∷ ts))) ≡ finish s (over_tree s (over_tree s w' x) y) r
      pass nothing = refl
      pass (got ts n) = refl

  finish-two : (q : ℕ) (w w' : Walk) (v : Tree s → Tree s → Tree s) → ((x y : Tree s) → over_tree s w (v x y) ≡ over_tree s (over_tree s w' x) y) → (r : Got (Tree s))
      → finish s w (then (then r (λ x m. then (read s m) (λ y. got (v x y)))) (behind q)) ≡ finish s w' (then r (behind (suc q)))
  unfolding read_row
  finish-two q w w' v e nothing = refl
  finish-two q w w' v e (got x m) = finish-second q w w' v e x (read s m)

  -- a walk past a node
  over-leaf : (w : Walk) (b : ℕ) (t : Tree s) → Makes s b (leaf t) → over_tree s w t ≡ record { at = w.at + 1; pending = w.pending - 1; nodes = w.nodes + 1; bound = w.bound }
  over-leaf w b t k = walk-eq (omega (arith, ap length k.bytes)) refl (omega (arith, k.count)) (omega (arith, k.top))

  over-lit : (w : Walk) (b n : ℕ) (g : ℕ → Tree s) → Makes s b (lit g) → over_tree s w (g n) ≡ record { at = w.at + 1 + dim_width; pending = w.pending - 1; nodes = w.nodes + 1; bound = max w.bound (n + 1) }
  over-lit w b n g k = walk-eq (omega (arith, ap length (k n).bytes)) refl (omega (arith, (k n).count)) (omega (arith, (k n).top))

  over-one : (w : Walk) (b : ℕ) (u : Tree s → Tree s) → Makes s b (one u) → (x : Tree s) → over_tree s w (u x) ≡ over_tree s (record { at = w.at + 1; pending = w.pending; nodes = w.nodes + 1; bound = w.bound }) x
  over-one w b u k x = walk-eq (omega (arith, ap length (k x).bytes)) refl (omega (arith, (k x).count)) (omega (arith, (k x).top))

  over-two : (w : Walk) (b : ℕ) (v : Tree s → Tree s → Tree s) → Makes s b (two v) → (x y : Tree s)
      → over_tree s w (v x y) ≡ over_tree s (over_tree s (record { at = w.at + 1; pending = w.pending + 1; nodes = w.nodes + 1; bound = w.bound }) x) y
  over-two w b v k x y =
      let i = k x y in
      walk-eq (omega (arith, ap length i.bytes, length-append (encode s x) (encode s y))) (omega arith) (omega (arith, i.count)) (omega (arith, i.top))

  -- where the walk goes on after a turn
  abbrev pub after : List ℕ → Option Walk → Option Walk
  after l None = None
  after l (Some w) = finish s w (read_row s w.pending (drop w.at l))

  module _ (l : List ℕ) (w : Walk) (q : ℕ) (e : w.pending ≡ suc q) (b : ℕ) where
    abbrev At : Node (Tree s) → Type 0
    At k = finish s w (then (front k (read s) (drop (w.at + 1) l)) (behind q)) ≡ after l (counted w (step_by k l w.at w.pending))

    turn-leaf : (t : Tree s) → Makes s b (leaf t) → At (leaf t)
    turn-leaf t k =
        let w' : Walk = record { at = w.at + 1; pending = w.pending - 1; nodes = w.nodes + 1; bound = w.bound } in
        finish-behind q w w' t (drop (w.at + 1) l) (over-leaf w b t k) ∙ ap (λ (n : ℕ). finish s w' (read_row s n (drop (w.at + 1) l))) (omega arith)

    turn-lit : (g : ℕ → Tree s) → Makes s b (lit g) → (t : Bool) → leb dim_width (length l - (w.at + 1)) ≡ t
        → finish s w (then (then (take_dim (drop (w.at + 1) l)) (λ n. got (g n))) (behind q))
        ≡ after l (counted w (pick t (Lit (record { at = w.at + 1 + dim_width; pending = w.pending - 1 }) (dim_at l (w.at + 1))) Stuck))
    turn-lit g k true i =
        let h = leb-true dim_width (length l - (w.at + 1)) i in
        let n = get_or l (w.at + 1) 0 in
        let w' : Walk = record { at = w.at + 1 + dim_width; pending = w.pending - 1; nodes = w.nodes + 1; bound = max w.bound (n + 1) } in
        rw (drop-cons l (w.at + 1) 0 (omega arith))
        (finish-behind q w w' (g n) (drop (suc (w.at + 1)) l) (over-lit w b n g k)
        ∙ ap₂ (λ (m j : ℕ). finish s w' (read_row s m (drop j l))) (omega arith) (sym (add-one (w.at + 1))))
    turn-lit g k false i =
        let h = leb-false dim_width (length l - (w.at + 1)) i in
        rw (drop_of_length-le l {i = w.at + 1} (omega arith)) refl

    turn_one : (u : Tree s → Tree s) → Makes s b (one u) → At (one u)
    unfolding read_row
    turn_one u k =
        let w' : Walk = record { at = w.at + 1; pending = w.pending; nodes = w.nodes + 1; bound = w.bound } in
        finish-one q w w' u (over-one w b u k) (read s (drop (w.at + 1) l)) ∙ ap (λ (n : ℕ). finish s w' (read_row s n (drop (w.at + 1) l))) (sym e)

    turn_two : (v : Tree s → Tree s → Tree s) → Makes s b (two v) → At (two v)
    unfolding read_row
    turn_two v k =
        let w' : Walk = record { at = w.at + 1; pending = w.pending + 1; nodes = w.nodes + 1; bound = w.bound } in
        let p : suc (suc q) ≡ w.pending + 1 = omega arith in
        finish-two q w w' v (over-two w b v k) (read s (drop (w.at + 1) l)) ∙ ap (λ (n : ℕ). finish s w' (read_row s n (drop (w.at + 1) l))) p

    turn-node : (k : Node (Tree s)) → Makes s b k → At k
    turn-node (leaf t) k = turn-leaf t k
    turn-node (lit g) k = turn-lit g k (leb dim_width (length l - (w.at + 1))) refl
    turn-node (one u) k = turn_one u k
    turn-node (two v) k = turn_two v k
    turn-node bad k = refl

  turn_in : (l : List ℕ) (w : Walk) (q : ℕ) → w.pending ≡ suc q → w.pending ≤ length l - w.at → finish s w (read_row s w.pending (drop w.at l)) ≡ after l (turn_of s l w)
  unfolding read_row
  turn_in l w q e h =
      let b = get_or l w.at 0 in
      let c : drop w.at l ≡ b ∷ drop (w.at + 1) l = drop-cons l w.at 0 (omega arith) ∙ ap (λ (n : ℕ). b ∷ drop n l) (sym (add-one w.at)) in
      ap₂ (λ (n : ℕ) (m : List ℕ). finish s w (read_row s n m)) e c
      ∙ ap (λ (r : Got (Tree s)). finish s w (then r (behind q))) (read-cons s b (drop (w.at + 1) l))
      ∙ turn-node l w q e b (node_of s b) (made s b)
      ∙ sym (simp (le-leb 1 w.pending (omega arith), le-leb w.pending (length l - w.at) h))

  turn-few : (l : List ℕ) (w : Walk) → 1 ≤ w.pending → length l - w.at < w.pending → finish s w (read_row s w.pending (drop w.at l)) ≡ after l (turn_of s l w)
  turn-few l w h g =
      ap (finish s w) (row-few w.pending (drop w.at l) (omega (arith, length-drop w.at l)))
      ∙ sym (ap (λ (x : Advance). after l (counted w x)) (step-few s l w.at w.pending h g))

  -- what is left to read ends where it ends after the turn
  pub turn-law : (l : List ℕ) (w : Walk) → 1 ≤ w.pending → finish s w (read_row s w.pending (drop w.at l)) ≡ after l (turn_of s l w)
  turn-law l w h = go (dec_le w.pending (length l - w.at))
    where
      go : Dec (w.pending ≤ length l - w.at) → finish s w (read_row s w.pending (drop w.at l)) ≡ after l (turn_of s l w)
      go (yes g) = turn_in l w (w.pending - 1) (omega arith) g
      go (no g) = turn-few l w h (omega arith)

  -- a walk that started at a place: what is left to read ends where the whole does
  pub record Walking (l : List ℕ) (start : ℕ) (w : Walk) : Type 0 where
    pub ends : finish s w (read_row s w.pending (drop w.at l)) ≡ walked_at s l start
    pub inside : w.at ≤ length l
    pub behind_start : start ≤ w.at
    pub few : w.nodes ≤ w.at

  pub walking-outside : (l : List ℕ) (start : ℕ) → length l ≤ start → None ≡ walked_at s l start
  unfolding walked_at
  walking-outside l start h = sym (ap (finish s (record { at = start; pending = 1; nodes = 0; bound = 0 })) (row-few 1 (drop start l) (omega (arith, length-drop start l))))

  pub walking_start : (l : List ℕ) (start : ℕ) → start ≤ length l → Walking l start (record { at = start; pending = 1; nodes = 0; bound = 0 })
  unfolding walked_at
  walking_start l start h = record { ends = refl; inside = h; behind_start = omega arith; few = omega arith }

  module _ {l : List ℕ} {start : ℕ} {w : Walk} (g : Walking l start w) (h : 1 ≤ w.pending) where
    -- too few bytes lead nowhere
    pub walking-few : length l - w.at < w.pending → None ≡ walked_at s l start
    walking-few f = sym (ap (finish s w) (row-few w.pending (drop w.at l) (omega (arith, length-drop w.at l)))) ∙ g.ends

    -- a turn by the kind of the node
    module _ (i : w.pending ≤ length l - w.at) (k : Kind) (e : k ≡ kind_of s (get_or l w.at 0)) where
      turned : after l (counted w (step_kind k l w.at w.pending)) ≡ walked_at s l start
      turned = sym (ap (λ (x : Advance). after l (counted w x)) (step_in s l w.at w.pending h i k e)) ∙ sym (turn-law l w h) ∙ g.ends

      pub walking-broken : counted w (step_kind k l w.at w.pending) ≡ None → None ≡ walked_at s l start
      walking-broken f = sym (ap (after l) f) ∙ turned

      pub walking_on : (v : Walk) → counted w (step_kind k l w.at w.pending) ≡ Some v → w.at < v.at → v.at ≤ length l → v.nodes ≡ w.nodes + 1 → Walking l start v
      walking_on v f b c n = record { ends = sym (ap (after l) f) ∙ turned; inside = c; behind_start = omega (arith, g.behind_start); few = omega (arith, g.few) }

  pub finish-zero : (w : Walk) (l : List ℕ) → w.pending ≡ 0 → finish s w (read_row s w.pending l) ≡ Some w
  unfolding read_row passed
  finish-zero w l e = ap (λ (n : ℕ). finish s w (read_row s n l)) e

  -- the size of the formula that the walk passed over
  abbrev pub size_from : ℕ → Option Walk → Result Size Refusal
  size_from at None = Err NotAFormula
  size_from at (Some w) = Ok (record { len = w.at - at; nodes = w.nodes; bound = w.bound })

  pub measure-at-law : (l : List ℕ) (at : ℕ) → measurement_at s l at ≡ size_from at (walked_at s l at)
  unfolding measurement_at walked_at read_row passed
  measure-at-law l at = go (read s (drop at l))
    where
      go : (r : Got (Tree s)) → size_front s r ≡ size_from at (finish s (record { at = at; pending = 1; nodes = 0; bound = 0 }) (then r (λ t m. got (t ∷ []) m)))
      go nothing = refl
      go (got t m) = ap Ok (size-eq (omega arith) (omega arith) (omega arith))

  pub size-none : (l : List ℕ) (at : ℕ) → None ≡ walked_at s l at → Err NotAFormula ≡ measurement_at s l at
  size-none l at e = sym (measure-at-law l at ∙ ap (size_from at) (sym e))

  -- the whole list is one formula where the one at its front is as long as the list
  abbrev pub whole_size : List ℕ → Size → Result Size Refusal
  whole_size l z = pick (eqb z.len (length l)) (Ok z) (Err NotAFormula)

  abbrev pub judge : List ℕ → Result Size Refusal → Result Size Refusal
  judge l (Err e) = Err e
  judge l (Ok z) = whole_size l z

  pub measure-law : (l : List ℕ) → measurement s l ≡ judge l (measurement_at s l 0)
  unfolding measurement measurement_at read_all
  measure-law l = go (read s l) refl
    where
      go : (r : Got (Tree s)) → read s l ≡ r → size_read s (wholly r) ≡ judge l (size_front s r)
      go nothing e = refl
      go (got t []) e =
          let h : length (encode s t) ≡ length l = omega (arith, simp length-append at (ap length (encode-read s l t [] e))) in
          rw (eq-eqb (length (encode s t)) (length l) h) refl
      go (got t (b ∷ m)) e =
          let h : length (encode s t) ≡ length l → ⊥ = λ i. omega (arith, simp length-append at (ap length (encode-read s l t (b ∷ m) e))) in
          rw (ne_eqb (length (encode s t)) (length l) h) refl

  -- the part of the list that the formula is
  abbrev pub Part : List ℕ → ℕ → List ℕ → Result Size Refusal → Type 0
  Part l at p (Err e) = [] ≡ p
  Part l at p (Ok z) = (at + z.len ≤ length l) × (take (at + z.len - at) (drop at l) ≡ p)

  pub part-law : (l : List ℕ) (at : ℕ) → Part l at (part_at s l at) (measurement_at s l at)
  unfolding part_at measurement_at
  part-law l at = go (read s (drop at l)) refl
    where
      go : (r : Got (Tree s)) → read s (drop at l) ≡ r → Part l at (bytes_of s r) (size_front s r)
      go nothing e = refl
      go (got t m) e =
          let i = encode-read s (drop at l) t m e in
          let k = simp (length-append, length-drop) at (ap length i) in
          let j = encode-pos s t in
          (omega arith, ap (take (at + length (encode s t) - at)) i ∙ take_at (encode s t) m (at + length (encode s t) - at) (omega arith))

  pub part-as : (l : List ℕ) (at : ℕ) {r : Result Size Refusal} → r ≡ measurement_at s l at → Part l at (part_at s l at) r
  part-as l at e = subst (Part l at (part_at s l at)) (sym e) (part-law l at)

-- a step goes forward, within the list; a literal's dimension is that of its field
abbrev pub Moves : List ℕ → ℕ → Advance → Type 0
Moves l at (Leaf q) = (at < q.at) × (q.at ≤ length l)
Moves l at (Lit q n) = (at < q.at) × (q.at ≤ length l) × (n ≡ dim_at l (at + 1))
Moves l at (One q) = (at < q.at) × (q.at ≤ length l)
Moves l at (Two q) = (at < q.at) × (q.at ≤ length l)
Moves l at Stuck = Unit {0}

moves-by : {A : Type 0} (l : List ℕ) (at p : ℕ) → at < length l → (k : Node A) → Moves l at (step_by k l at p)
moves-by l at p h (leaf t) = omega arith
moves-by l at p h (lit g) = go (leb dim_width (length l - (at + 1))) refl
  where
    go : (t : Bool) → leb dim_width (length l - (at + 1)) ≡ t → Moves l at (pick t (Lit (record { at = at + 1 + dim_width; pending = p - 1 }) (dim_at l (at + 1))) Stuck)
    go true e = let i = leb-true dim_width (length l - (at + 1)) e in (omega arith, omega arith, refl)
    go false e = tt
moves-by l at p h (one u) = omega arith
moves-by l at p h (two v) = omega arith
moves-by l at p h bad = tt

pub moves : (s : Sort) (l : List ℕ) (at p : ℕ) → Moves l at (step_of s l at p)
moves s l at p = go (leb 1 p) (leb p (length l - at)) refl refl
  where
    go : (t u : Bool) → leb 1 p ≡ t → leb p (length l - at) ≡ u → Moves l at (pick (t && u) (step_by (node_of s (get_or l at 0)) l at p) Stuck)
    go true true e f = let i = leb-true 1 p e in let j = leb-true p (length l - at) f in moves-by l at p (omega arith) (node_of s (get_or l at 0))
    go true false e f = tt
    go false u e f = tt

abbrev pub Advances : List ℕ → Walk → Option Walk → Type 0
Advances l w None = Unit {0}
Advances l w (Some v) = (w.at < v.at) × (v.at ≤ length l) × (v.nodes ≡ w.nodes + 1)

advances-step : (l : List ℕ) (w : Walk) (x : Advance) → Moves l w.at x → Advances l w (counted w x)
advances-step l w (Leaf q) h = (h.0, h.1, refl)
advances-step l w (Lit q n) h = (h.0, h.1, refl)
advances-step l w (One q) h = (h.0, h.1, refl)
advances-step l w (Two q) h = (h.0, h.1, refl)
advances-step l w Stuck h = tt

pub advances : (s : Sort) (l : List ℕ) (w : Walk) → Advances l w (turn_of s l w)
advances s l w = advances-step l w (step_of s l w.at w.pending) (moves s l w.at w.pending)
