-- One step more keeps an index.
use Prim.Native.Nat.{ℕ, suc, ◌+◌, ◌-◌, ◌*◌, ◌%◌, ◌≤◌, ◌<◌}
use native.Mathlib.Omega.{arith}
use native.Mathlib.Decide.{dec_lt}
use mathlib.Core.Path.{◌≡◌, refl, sym, ap, ◌∙◌, subst}
use mathlib.Core.Bool.{Bool, true, false}
use mathlib.Core.List.{List, [], ◌++◌, append-nil}
use lib.Dec.{eqb}
use lib.ListN.{length, get_or, set, take, drop, length-set, length-append, length-drop, get_or-append}
use lib.Seq.{get_or-set_same, get_or-set_other, take-append-le, length-take-le, take_all, drop-length, get_or-take, drop_at, drop-set-lt}
use borrow.Author.Tests.{eqb-true, eqb-false, eq-eqb}
use Rattle.calculus.specs.Judgement.{Step}
use Rattle.calculus.specs.Record.{steps_bytes}
use Rattle.ledger.specs.Ledger.{place_of}
use Rattle.ledger.specs.Noting.{Noted, Notes}
use Rattle.ledger.proofs.NotingLaws.{noted-none}
use Rattle.index.specs.Index.{choose, bucket_at, last, Finished, mark, places_from, IndexedTo, linked, Placed, Entered}
use Rattle.index.proofs.ChainLaws.{last-low, bucket-more, last_more}
use Rattle.index.proofs.MarkLaws.{finished-more}

-- What stands in a list after three stores.
module _ (x : List ℕ) (i k v y z : ℕ) where
  three : List ℕ
  three = set (set (set x i v) k y) 0 z

  three-last : 0 < length x → get_or three 0 0 ≡ z
  unfolding three
  three-last h = get_or-set_same (set (set x i v) k y) 0 z 0 (simp length-set h)

  three-second : k < length x → (k ≡ 0 → ⊥) → get_or three k 0 ≡ y
  unfolding three
  three-second h a = get_or-set_other (set (set x i v) k y) 0 k z 0 a ∙ get_or-set_same (set x i v) k y 0 (simp length-set h)

  three-first : i < length x → (i ≡ 0 → ⊥) → (i ≡ k → ⊥) → get_or three i 0 ≡ v
  unfolding three
  three-first h a b = get_or-set_other (set (set x i v) k y) 0 i z 0 a ∙ get_or-set_other (set x i v) k i y 0 b ∙ get_or-set_same x i v 0 h

  three-other : (m : ℕ) → (m ≡ 0 → ⊥) → (m ≡ k → ⊥) → (m ≡ i → ⊥) → get_or three m 0 ≡ get_or x m 0
  unfolding three
  three-other m a b c = get_or-set_other (set (set x i v) k y) 0 m z 0 a ∙ get_or-set_other (set x i v) k m y 0 b ∙ get_or-set_other x i m v 0 c

  three-drop : (p : ℕ) → i < p → k < p → drop p three ≡ drop p x
  unfolding three
  three-drop p h g = drop-set-lt p (set (set x i v) k y) 0 z (omega arith) ∙ drop-set-lt p (set x i v) k y g ∙ drop-set-lt p x i v h

  three-length : length three ≡ length x
  unfolding three
  three-length = simp length-set

-- All places are a part of the list up to its end.
pub part-whole : (x : List ℕ) (p : ℕ) → take (length x - p) (drop p x) ≡ drop p x
part-whole x p = take_all (length x - p) (drop p x) (omega (arith, length-drop p x))

pub placed-part : (x : List ℕ) (p n at : ℕ) (part y : List ℕ) → p ≡ places_from x → Notes n at (take (length x - p) (drop p x)) part → y ≡ take p x ++ (part ++ drop (length x - p) (drop p x)) → Placed (places_from x) n at x y
placed-part x p n at part y e h k =
    let z : drop (length x - p) (drop p x) ≡ [] = ap (λ (m : ℕ). drop m (drop p x)) (sym (length-drop p x)) ∙ drop-length (drop p x) in
    record {
      noted = part;
      notes = subst (λ (q : List ℕ). Notes n at q part) (part-whole x p ∙ ap (λ (m : ℕ). drop m x) e) h;
      whole = k ∙ ap (λ (q : List ℕ). take p x ++ (part ++ q)) z ∙ ap (λ (q : List ℕ). take p x ++ q) (append-nil part) ∙ ap (λ (m : ℕ). take m x ++ part) e;
    }

-- One step more.
module _ {H P n : ℕ} {x : List ℕ} {b at : ℕ} {x' : List ℕ} (w : Entered H P n x b at x') (within : P ≤ length x) where
  -- The list with its place noted.
  abbrev base : List ℕ
  base = w.base

  front : length (take P x) ≡ P
  front = length-take-le P x within

  base-length : length base ≡ length x
  base-length = ap length w.placed.whole ∙ length-append (take P x) w.placed.noted ∙ omega (arith, front, w.placed.notes.long, length-drop P x)

  base-low : (k : ℕ) → k < P → get_or base k 0 ≡ get_or x k 0
  base-low k h = ap (λ (y : List ℕ). get_or y k 0) w.placed.whole ∙ get_or-append (take P x) w.placed.noted 0 k (omega (arith, front)) ∙ get_or-take P x k 0 h

  base-drop : drop P base ≡ w.placed.noted
  base-drop = ap (drop P) w.placed.whole ∙ drop_at (take P x) w.placed.noted P front

  abbrev after : List ℕ
  after = three base (1 + H + n) (1 + b) (get_or base (1 + b) 0) (n + 1) (n + 1)

  is-after : x' ≡ after
  unfolding linked three
  is-after = w.whole

  pub entered-length : length x' ≡ length x
  entered-length = ap length is-after ∙ three-length base (1 + H + n) (1 + b) (get_or base (1 + b) 0) (n + 1) (n + 1) ∙ base-length

  module _ {L : List Step} (e : IndexedTo H P L x n) (inside : b < H) (is : b ≡ bucket_at H L n) (stands : at ≡ place_of L n) (low : 1 + H + n < P) (few : n < mark) where
    last-here : last H L b (suc n) ≡ suc n
    unfolding last
    last-here = ap (λ (t : Bool). choose t (suc n) (last H L b n)) (eq-eqb (bucket_at H L n) b (sym is))

    last-there : (c : ℕ) → (c ≡ b → ⊥) → last H L c (suc n) ≡ last H L c n
    unfolding last
    last-there c h = go (eqb (bucket_at H L n) c) refl
      where
        go : (t : Bool) → eqb (bucket_at H L n) c ≡ t → choose t (suc n) (last H L c n) ≡ last H L c n
        go false q = refl
        go true q = absurd (h (sym (eqb-true (bucket_at H L n) c q) ∙ sym is))

    heads-after : (c : ℕ) → c < H → get_or after (1 + c) 0 ≡ last H L c (suc n)
    heads-after c h = go (eqb c b) refl
      where
        go : (t : Bool) → eqb c b ≡ t → get_or after (1 + c) 0 ≡ last H L c (suc n)
        go true q =
            let k : c ≡ b = eqb-true c b q in
            let z : n + 1 ≡ suc n = omega arith in
            ap (λ (m : ℕ). get_or after (1 + m) 0) k ∙ three-second base _ (1 + b) _ _ _ (omega (arith, base-length)) (λ r. omega arith) ∙ z ∙ sym last-here ∙ ap (λ (m : ℕ). last H L m (suc n)) (sym k)
        go false q =
            let k : c ≡ b → ⊥ = eqb-false c b q in
            three-other base _ (1 + b) _ _ _ (1 + c) (λ r. omega arith) (λ r. k (omega arith)) (λ r. omega arith) ∙ base-low (1 + c) (omega arith) ∙ e.head c h ∙ sym (last-there c k)

    -- The links of the steps before stay; that of the new one is the head of its bucket, which has no mark.
    link-before : (i : ℕ) → i < n → get_or after (1 + H + i) 0 ≡ get_or x (1 + H + i) 0
    link-before i q = three-other base _ (1 + b) _ _ _ (1 + H + i) (λ r. omega arith) (λ r. omega arith) (λ r. omega arith) ∙ base-low (1 + H + i) (omega arith)

    link-new : (i : ℕ) → i ≡ n → get_or after (1 + H + i) 0 ≡ last H L (bucket_at H L i) i
    link-new i k =
        ap (λ (m : ℕ). get_or after (1 + H + m) 0) k ∙ three-first base (1 + H + n) (1 + b) _ _ _ (omega (arith, base-length)) (λ r. omega arith) (λ r. omega arith)
        ∙ base-low (1 + b) (omega arith) ∙ e.head b inside ∙ ap (λ (m : ℕ). last H L m n) is ∙ ap (λ (m : ℕ). last H L (bucket_at H L m) m) (sym k)

    links-after : (i : ℕ) → i < suc n → get_or after (1 + H + i) 0 % mark ≡ last H L (bucket_at H L i) i
    links-after i h = go (dec_lt i n)
      where
        go : Dec (i < n) → get_or after (1 + H + i) 0 % mark ≡ last H L (bucket_at H L i) i
        go (yes q) = ap (λ (v : ℕ). v % mark) (link-before i q) ∙ e.link i q
        go (no q) = let k : i ≡ n = omega arith in omega (arith, link-new i k, last-low H L (bucket_at H L i) i)

    marks-after : (i : ℕ) → i < suc n → mark ≤ get_or after (1 + H + i) 0 → Finished L i
    marks-after i h m = go (dec_lt i n)
      where
        go : Dec (i < n) → Finished L i
        go (yes q) = e.marks i q (subst (λ (v : ℕ). mark ≤ v) (link-before i q) m)
        go (no q) = let k : i ≡ n = omega arith in absurd (omega (arith, link-new i k, last-low H L (bucket_at H L i) i))

    places-after : Noted L (suc n) (drop P after)
    places-after =
        subst (Noted L (suc n)) (sym (three-drop base (1 + H + n) (1 + b) (get_or base (1 + b) 0) (n + 1) (n + 1) P (omega arith) (omega arith) ∙ base-drop)) (w.placed.notes.more L stands e.places)

    pub indexed-after : IndexedTo H P L x' (suc n)
    indexed-after =
        let z : n + 1 ≡ suc n = omega arith in
        subst (λ (y : List ℕ). IndexedTo H P L y (suc n)) (sym is-after)
        (record { count = three-last base (1 + H + n) (1 + b) (get_or base (1 + b) 0) (n + 1) (n + 1) (omega (arith, base-length)) ∙ z; head = heads-after; link = links-after; marks = marks-after; places = places-after })

-- Steps behind change nothing.
pub place-more : (L M : List Step) (i : ℕ) → i ≤ length L → place_of (L ++ M) i ≡ place_of L i
place-more L M i h = ap (λ (T : List Step). 4 + length (steps_bytes T)) (take-append-le i L M h)

pub indexed-more : {H P : ℕ} {L : List Step} {x : List ℕ} {n : ℕ} → IndexedTo H P L x n → n ≤ length L → (M : List Step) → IndexedTo H P (L ++ M) x n
indexed-more {H} {L = L} {n = n} e h M = record {
  count = e.count;
  head = λ b q. e.head b q ∙ sym (last_more H L M b n h);
  link = λ i q. e.link i q ∙ ap (λ (c : ℕ). last H L c i) (sym (bucket-more H L M i (omega arith))) ∙ sym (last_more H L M (bucket_at H (L ++ M) i) i (omega arith));
  marks = λ i q m. finished-more L M i (omega arith) (e.marks i q m);
  places = record { room = e.places.room; held = λ k q. e.places.held k q ∙ sym (place-more L M (16 * k) (omega arith)) };
}

-- No steps yet.
pub indexed-none : (H P : ℕ) (L : List Step) (x : List ℕ) → ((i : ℕ) → i < 1 + H → get_or x i 0 ≡ 0) → IndexedTo H P L x 0
unfolding last
indexed-none H P L x h = record { count = h 0 (omega arith); head = λ b q. h (1 + b) (omega arith); link = λ i q. absurd (omega arith); marks = λ i q m. absurd (omega arith); places = noted-none L (drop P x) }
