-- Laws of the loops over lists in slices, over any elements.
use Prim.Native.Nat.{ℕ, suc, ◌+◌, ◌-◌, ◌≤◌, ◌<◌, Ordering}
use native.Mathlib.Numerals.{add-one}
use native.Mathlib.Omega.{arith}
use mathlib.Core.Path.{◌≡◌, refl, sym, ap, ap₂, ◌∙◌}
use mathlib.Core.Bool.{Bool, true, false, not, ◌||◌}
use mathlib.Core.List.{List, [], ◌∷◌, ◌++◌, append-nil, append_assoc}
use lib.ListN.{length, get_or, set, take, drop, length-append, length-drop, take-append-drop, drop_of_length-le}
use lib.Seq.{paste, length-take-le, drop-cons, append_snoc, take-set-le, take-set-lt, take-suc-set, take-take, take_at, set-append_left}
use Rattle.std.proofs.Common.{rules, Ok, Err}
use Rattle.std.proofs.lemmas.Slice.{between_is}
use Rattle.std.proofs.lemmas.List.{take_more, take_all}
use mir.Val.{bool_byte}
use Rattle.std.specs.List.{list_any}
use Rattle.formula.specs.Formula.{beside}
use Rattle.formula.specs.Answers.{pick}
use Rattle.clauses.specs.Normal.{enter, entered, any, minimal, least_of}
use Rattle.clauses.proofs.Lengths.{enter-length}
use Rattle.clauses.specs.Lists.{Searches, over, Leads, Fronts}

-- What stands from a place on.
pub item : {A : Type 0} (l : List A) (i : ℕ) (d : A) → i < length l → drop i l ≡ get_or l i d ∷ drop (i + 1) l
item l i d h = drop-cons l i d h ∙ ap (λ n. get_or l i d ∷ drop n l) (sym (add-one i))

-- ---- a search for the place of an element

module _ {A : Type 0} (order : A → A → Ordering) (x : A) where
  -- Among the first i elements there is none that x does not come after.
  pub record Seeking (l : List A) (i : ℕ) : Type 0 where
    pub left : enter order x l ≡ take i l ++ enter order x (drop i l)

  enter-by : {o : Ordering} (d : A) (l : List A) → order x d ≡ o → enter order x (d ∷ l) ≡ beside o (x ∷ d ∷ l) (d ∷ l) (d ∷ enter order x l)
  unfolding enter
  enter-by d l e = ap (λ o. beside o (x ∷ d ∷ l) (d ∷ l) (d ∷ enter order x l)) e

  module _ {l : List A} {i : ℕ} (s : Seeking l i) where
    turned : {o : Ordering} (d : A) → i < length l → order x (get_or l i d) ≡ o → enter order x l ≡ take i l ++ beside o (x ∷ drop i l) (drop i l) (get_or l i d ∷ enter order x (drop (i + 1) l))
    turned {o} d h e = s.left ∙ ap (λ m. take i l ++ m) (ap (enter order x) (item l i d h) ∙ enter-by (get_or l i d) (drop (i + 1) l) e ∙ ap (λ m. beside o (x ∷ m) m (get_or l i d ∷ enter order x (drop (i + 1) l))) (sym (item l i d h)))

    pub seeking-before : (d : A) → i < length l → order x (get_or l i d) ≡ Ordering.lt → Searches order x l (Err i)
    seeking-before d h e = record { entered = turned d h e; inside = omega arith }

    pub seeking-same : (d : A) → i < length l → order x (get_or l i d) ≡ Ordering.eq → Searches order x l (Ok i)
    seeking-same d h e = record { entered = turned d h e ∙ take-append-drop i l; inside = tt }

    pub seeking-next : (d : A) → i < length l → order x (get_or l i d) ≡ Ordering.gt → Seeking l (i + 1)
    seeking-next d h e = record { left = turned d h e ∙ sym (append_snoc (take i l) (get_or l i d) (enter order x (drop (i + 1) l))) ∙ ap (λ m. m ++ enter order x (drop (i + 1) l)) (sym (take_more l i d h)) }

    pub seeking-end : length l ≤ i → Searches order x l (Err (length l))
    unfolding enter
    seeking-end h = record { entered = s.left ∙ ap₂ (λ m n. m ++ enter order x n) (take_all i l h) (drop_of_length-le l {i = i} h) ∙ ap₂ (λ m n. m ++ x ∷ n) (sym (take_all (length l) l (omega arith))) (sym (drop_of_length-le l {i = length l} (omega arith))); inside = omega arith }

-- The element written where the elements behind it were moved up by one.
module _ {A : Type 0} (l : List A) (n p : ℕ) (x : A) (h : n < length l) (k : p ≤ n) where
  entered-long : length (take p (take n l) ++ x ∷ drop p (take n l)) ≡ n + 1
  entered-long = omega (arith, length-append (take p (take n l)) (x ∷ drop p (take n l)), length-take-le p (take n l) (omega (arith, length-take-le n l (omega arith))), length-drop p (take n l), length-take-le n l (omega arith))

  moved : set (paste l (p + 1) (drop p l) (n - p)) p x ≡ over (take p (take n l) ++ x ∷ drop p (take n l)) l
  moved =
      let behind = drop (p + 1 + (n - p)) l in
      let rest = take (n - p) (drop p l) ++ behind in
      let part : take (n - p) (drop p l) ≡ drop p (take n l) = search (rules, between_is) in
      let first : set (take (p + 1) l) p x ≡ take p l ++ x ∷ [] = sym (take-set-lt (p + 1) l p x (omega arith)) ∙ ap (λ m. take m (set l p x)) (add-one p) ∙ take-suc-set l p x (omega arith) in
      let split : set (take (p + 1) l ++ rest) p x ≡ set (take (p + 1) l) p x ++ rest = set-append_left (take (p + 1) l) rest p x (omega (arith, length-take-le (p + 1) l (omega arith))) in
      let last : behind ≡ drop (length (take p (take n l) ++ x ∷ drop p (take n l))) l = ap (λ m. drop m l) (omega (arith, entered-long)) in
      ap (λ m. set m p x) (append_assoc (take (p + 1) l) (take (n - p) (drop p l)) behind)
      ∙ split
      ∙ ap (λ m. m ++ rest) first
      ∙ append_snoc (take p l) x rest
      ∙ ap₂ (λ a b. a ++ x ∷ (b ++ behind)) (sym (take-take p n l k)) part
      ∙ ap (λ b. take p (take n l) ++ x ∷ (drop p (take n l) ++ b)) last
      ∙ sym (append_assoc (take p (take n l)) (x ∷ drop p (take n l)) (drop (length (take p (take n l) ++ x ∷ drop p (take n l))) l))

  pub inserted : {order : A → A → Ordering} {l' : List A} → Searches order x (take n l) (Err p) → l' ≡ paste l (p + 1) (drop p l) (n - p) → Leads (enter order x (take n l)) l (n + 1) (set l' p x)
  inserted {order} {l'} s e = record {
    many = sym (ap length s.entered ∙ entered-long);
    all = ap (λ m. set m p x) e ∙ moved ∙ ap (λ y. over y l) (sym s.entered);
  }

-- ---- a list in front of a slice

pub leads-front : {A : Type 0} {x l l' : List A} {n : ℕ} → Leads x l n l' → take n l' ≡ x
leads-front {x = x} {l} {l'} {n} s = ap (take n) s.all ∙ take_at x (drop (length x) l) n (sym s.many)

-- ---- a list sorted into a slice

-- The first i elements are entered: they are the first k of the slice.
pub record Sorting {A : Type 0} (order : A → A → Ordering) (xs s : List A) (k i : ℕ) : Type 0 where
  pub few : k ≤ i
  pub left : entered order [] xs ≡ entered order (take k s) (drop i xs)

module _ {A : Type 0} {order : A → A → Ordering} {xs s : List A} {k i : ℕ} (t : Sorting order xs s k i) where
  pub sorting-next : {k' : ℕ} {s' : List A} (d : A) → i < length xs → k ≤ length s → Leads (enter order (get_or xs i d) (take k s)) s k' s' → Sorting order xs s' k' (i + 1)
  unfolding entered
  sorting-next d h m f = record {
    few = omega (arith, f.many, enter-length order (get_or xs i d) (take k s), length-take-le k s m, t.few);
    left = t.left ∙ ap (entered order (take k s)) (item xs i d h) ∙ ap (λ y. entered order y (drop (i + 1) xs)) (sym (leads-front f));
  }

  pub sorting-end : length xs ≤ i → k ≤ length s → Fronts (entered order [] xs) k s
  unfolding entered
  sorting-end h m = record { fits = m; here = sym (t.left ∙ ap (entered order (take k s)) (drop_of_length-le xs {i = i} h)) }

-- ---- the minimal ones kept

-- What is counted of an element, unless it is dropped.
pub counted-unless : (dropped : Bool) {w : ℕ} → w ≡ bool_byte (not dropped) → w ≡ pick dropped 0 1
counted-unless true e = e
counted-unless false e = e

-- An element written behind others, whether it counts or not.
pub written : {A : Type 0} (l : List A) (to : ℕ) (x : A) (dropped : Bool) {w : ℕ} → to < length l → w ≡ pick dropped 0 1 → take (to + w) (set l to x) ≡ take to l ++ pick dropped [] (x ∷ [])
written l to x true {w} h e = let same : to + w ≡ to = omega (arith, e) in ap (λ y. take y (set l to x)) same ∙ take-set-le to l to x (omega arith) ∙ sym (append-nil (take to l))
written l to x false {w} h e = let next : to + w ≡ suc to = omega (arith, e) in ap (λ y. take y (set l to x)) next ∙ take-suc-set l to x h

pub picked : {A : Type 0} (b : Bool) (x : A) (l : List A) → pick b l (x ∷ l) ≡ pick b [] (x ∷ []) ++ l
picked true x l = refl
picked false x l = refl

-- What the element adds to the minimal ones.
minimal-cons : {A : Type 0} (below : A → A → Bool) (all : List A) (x : A) (l : List A) → minimal below all (x ∷ l) ≡ pick (any (λ d. below d x) all) [] (x ∷ []) ++ minimal below all l
unfolding minimal
minimal-cons below all x l = picked (any (λ d. below d x) all) x (minimal below all l)

-- Of the first i elements the minimal ones are the first m of the slice.
pub record Keeping {A : Type 0} (below : A → A → Bool) (xs l : List A) (m i : ℕ) : Type 0 where
  pub few : m ≤ i
  pub left : least_of below xs ≡ take m l ++ minimal below xs (drop i xs)

counted : (b : Bool) {w : ℕ} → w ≡ pick b 0 1 → w ≤ 1
counted true e = omega (arith, e)
counted false e = omega (arith, e)

module _ {A : Type 0} {below : A → A → Bool} {xs l : List A} {m i : ℕ} (t : Keeping below xs l m i) where
  pub keeping-next : {b : Bool} {w : ℕ} (d : A) → i < length xs → m < length l → b ≡ any (λ c. below c (get_or xs i d)) xs → w ≡ pick b 0 1 → Keeping below xs (set l m (get_or xs i d)) (m + w) (i + 1)
  keeping-next {b} {w} d h k r o =
      let x = get_or xs i d in
      let rest = minimal below xs (drop (i + 1) xs) in
      record {
        few = omega (arith, t.few, counted b o);
        left =
            t.left
            ∙ ap (λ y. take m l ++ minimal below xs y) (item xs i d h)
            ∙ ap (λ y. take m l ++ y) (minimal-cons below xs x (drop (i + 1) xs) ∙ ap (λ y. pick y [] (x ∷ []) ++ rest) (sym r))
            ∙ sym (append_assoc (take m l) (pick b [] (x ∷ [])) rest)
            ∙ ap (λ y. y ++ rest) (sym (written l m x b k o));
      }

  pub keeping-end : length xs ≤ i → m ≤ length l → Fronts (least_of below xs) m l
  unfolding minimal
  keeping-end h k = record { fits = k; here = sym (t.left ∙ ap (λ y. take m l ++ minimal below xs y) (drop_of_length-le xs {i = i} h) ∙ append-nil (take m l)) }

-- The library's test for an element that passes is this one.
pub any-is : {A : Type 0} (test : A → Bool) (xs : List A) → any test xs ≡ list_any test xs
unfolding any
any-is test [] = refl
any-is test (x ∷ xs) = ap (λ b. test x || b) (any-is test xs)
