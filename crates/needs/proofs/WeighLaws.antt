-- Laws of weighing a face in a state, by the node at its place.
use Prim.Native.Nat.{ℕ, zero, suc, ◌+◌, ◌-◌, ◌≤◌, ◌<◌, min, max}
use native.Mathlib.Omega.{arith}
use native.Mathlib.Decide.{ℕ_discrete}
use mathlib.Core.Path.{◌≡◌, refl, sym, ap, ap₂, ◌∙◌, subst}
use mathlib.Core.Logic.{◌⊎◌, inl, inr}
use mathlib.Core.Bool.{Bool, true, false, false≢true, ◌||◌, and-eq-true_iff, or-true}
use mathlib.Core.List.{List, [], ◌∷◌, ◌++◌}
use lib.Dec.{leb, ltb, eqb}
use lib.ListN.{length, get_or, drop}
use borrow.Author.Tests.{ltb-true, ltb-false, leb-true, leb-false, eqb-true, eqb-false, lt-ltb, eq-eqb, ne_eqb}
use Rattle.formula.specs.Formula.{End, lo, hi, Face, ff, ft, at, fand, for, is, holds}
use Rattle.formula.specs.Bytes.{dim_width, dim_at, encode_face, bound_face}
use Rattle.formula.specs.Answers.{pick}
use Rattle.assignments.specs.Assignments.{value_of, assigned}
use Rattle.calculus.proofs.Sound.{or-iff}
use Rattle.literals.proofs.FaceLaws.{PartsAt, leaf-at, parts_at, parts_same}
use Rattle.needs.specs.declared.Weight.{Weight}
use Rattle.needs.specs.Places.{Ends}
use Rattle.needs.specs.States.{Open, any, last, Fits, chosen, undetermined, free, Within, settle, settled, occurs, Apart, bit, hits}
use Rattle.needs.specs.Weighing.{Asks, never, Weighs, Weighed, cost, leads, needed, conjoined, left_over, lighter, constant}
use Rattle.needs.specs.Marking.{Marks}
use Rattle.needs.proofs.PlaceLaws.{side_of, parts, first-stands, second-stands, leaf-ends, literal-ends, second, parts-end, literal-is}
use Rattle.needs.proofs.StateLaws.{picked, hits-sum, hits-le, hits-some, open_free, settled_at}

-- ---- literals

-- What a byte of a state costs.
data Costs (s e : ℕ) : ℕ → Type 0 where
  free_of : s < 2 → s ≡ e → Costs s e 0
  other : s < 2 → (s ≡ e → ⊥) → Costs s e never
  one : Open s e → Costs s e 1
  out : 2 ≤ s → (Open s e → ⊥) → Costs s e never

shut : {s e : ℕ} → (s ≡ 2 → ⊥) → (s + e ≡ 4 → ⊥) → Open s e → ⊥
shut p q (any h k) = p h
shut p q (last h k) = q k

costs : (s e : ℕ) → e ≤ 1 → Costs s e (cost s e)
costs s e k =
    picked (Costs s e) (ltb s 2) (pick (eqb s e) 0 never) (pick (eqb s 2) 1 (pick (eqb (s + e) 4) 1 never))
    (λ h. picked (Costs s e) (eqb s e) 0 never (λ i. free_of (ltb-true s 2 h) (eqb-true s e i)) (λ i. other (ltb-true s 2 h) (eqb-false s e i)))
    (λ h. picked (Costs s e) (eqb s 2) 1 (pick (eqb (s + e) 4) 1 never) (λ i. one (any (eqb-true s 2 i) k))
    (λ i. picked (Costs s e) (eqb (s + e) 4) 1 never (λ j. one (last k (eqb-true (s + e) 4 j))) (λ j. out (ltb-false s 2 h) (shut (eqb-false s 2 i) (eqb-false (s + e) 4 j)))))

side-small : (e : End) → side_of e ≤ 1
side-small lo = omega arith
side-small hi = omega arith

-- A byte is the side whose literal it satisfies.
is-side : (e : End) (v : ℕ) → is e (value_of v) ≡ true → v ≡ side_of e
is-side lo zero h = refl
is-side lo (suc zero) h = absurd (false≢true h)
is-side lo (suc (suc v)) h = absurd (false≢true h)
is-side hi zero h = absurd (false≢true h)
is-side hi (suc zero) h = refl
is-side hi (suc (suc v)) h = absurd (false≢true h)

side-is : (e : End) (v : ℕ) → v ≡ side_of e → is e (value_of v) ≡ true
side-is lo v h = rw h
side-is hi v h = rw h

occurs-at : (e : End) (m v : ℕ) → v ≡ side_of e → occurs (at e m) m v ≡ true
unfolding occurs
occurs-at lo m v h = rw (eq-eqb m m refl, h)
occurs-at hi m v h = rw (eq-eqb m m refl, h)

settle-side : (e : End) (s : ℕ) → settle s ≡ side_of e → s ≡ side_of e
settle-side e s = picked (λ x. x ≡ side_of e → s ≡ side_of e) (ltb s 2) s 2 (λ h k. k) (λ h k. absurd (omega (arith, k, side-small e)))

settle-chosen : (s : ℕ) → s < 2 → settle s ≡ s
settle-chosen s h = rw (lt-ltb s 2 h)

module _ (S : List ℕ) (e : End) (m j : ℕ) (low : m < length S) where
  abbrev s : ℕ
  s = get_or S m 5

  abbrev one-weight : Bool → ℕ → Weight
  one-weight t c = record { weight = c; dim = m; side = side_of e; forced = t; at = j }

  literal-lower : {c : ℕ} → Costs s (side_of e) c → (τ : List ℕ) → Within S τ → holds (at e m) (assigned τ) ≡ true → c ≤ hits (occurs (at e m)) S τ
  unfolding holds
  literal-lower {c} k τ w h = go k (w m)
    where
      v : get_or τ m 2 ≡ side_of e
      v = is-side e (get_or τ m 2) h

      go : {c : ℕ} → Costs s (side_of e) c → Fits s (get_or τ m 2) → c ≤ hits (occurs (at e m)) S τ
      go (free_of p q) f = omega arith
      go (other p q) (chosen a b) = absurd (q (omega (arith, v, b)))
      go (other p q) (undetermined a b) = absurd (omega (arith, p, a))
      go (other p q) (free o) = absurd (omega (arith, p, (open_free o).0))
      go (one o) f = hits-some (occurs (at e m)) S τ m low (open_free o).0 (omega (arith, v, side-small e)) (occurs-at e m (get_or τ m 2) v)
      go (out p q) (chosen a b) = absurd (omega (arith, p, a))
      go (out p q) (undetermined a b) = absurd (omega (arith, b, v, side-small e))
      go (out p q) (free o) = absurd (q (subst (Open s) v o))

  literal-held : {c : ℕ} → Costs s (side_of e) c → c ≡ 0 → holds (at e m) (assigned (settled S)) ≡ true
  unfolding holds
  literal-held (free_of p q) h = side-is e (get_or (settled S) m 2) (settled_at S m ∙ settle-chosen s p ∙ q)
  literal-held (other p q) h = absurd (omega (arith, h))
  literal-held (one o) h = absurd (omega (arith, h))
  literal-held (out p q) h = absurd (omega (arith, h))

  literal-zero : {c : ℕ} → Costs s (side_of e) c → holds (at e m) (assigned (settled S)) ≡ true → c ≡ 0
  unfolding holds
  literal-zero k h = go k
    where
      v : s ≡ side_of e
      v = settle-side e s (sym (settled_at S m) ∙ is-side e (get_or (settled S) m 2) h)

      go : {c : ℕ} → Costs s (side_of e) c → c ≡ 0
      go (free_of p q) = refl
      go (other p q) = absurd (q v)
      go (one o) = absurd (omega (arith, (open_free o).0, v, side-small e))
      go (out p q) = absurd (omega (arith, p, v, side-small e))

  literal-small : {c : ℕ} → Costs s (side_of e) c → c ≤ never
  literal-small (free_of p q) = omega arith
  literal-small (other p q) = omega arith
  literal-small (one o) = omega arith
  literal-small (out p q) = omega arith

  literal-picks : {c : ℕ} → Costs s (side_of e) c → 0 < c → c < never → (m < length S) × Open s (side_of e)
  literal-picks (free_of p q) h k = absurd (omega (arith, h))
  literal-picks (other p q) h k = absurd (omega (arith, k))
  literal-picks (one o) h k = (low, o)
  literal-picks (out p q) h k = absurd (omega (arith, k))

  pub literal-weighs : (t : Bool) → Weighs S (at e m) (one-weight t (cost s (side_of e)))
  literal-weighs t =
      let k = costs s (side_of e) (side-small e) in
      record { lower = literal-lower k; held = literal-held k; zero = literal-zero k; small = literal-small k; picks = literal-picks k }

-- ---- constants

module _ (S : List ℕ) (j : ℕ) where
  ff-weighs : Weighs S ff (constant 0 j)
  unfolding holds
  ff-weighs = record {
    lower = λ τ w h. absurd (false≢true h);
    held = λ h. absurd (omega (arith, h));
    zero = λ h. absurd (false≢true h);
    small = omega arith;
    picks = λ h k. absurd (omega (arith, k));
  }

  ft-weighs : (b : ℕ) → (b ≡ 0 → ⊥) → Weighs S ft (constant b j)
  unfolding holds
  ft-weighs b n = rw (ne_eqb b 0 n) (record {
    lower = λ τ w h. omega arith;
    held = λ h. refl;
    zero = λ h. refl;
    small = omega arith;
    picks = λ h k. absurd (omega (arith, h));
  })

  constant-weighs : (b : ℕ) (t : Face) → (b ≡ 0 → t ≡ ff) → ((b ≡ 0 → ⊥) → t ≡ ft) → Weighs S t (constant b j)
  constant-weighs b t p q = go (ℕ_discrete b 0)
    where
      go : Dec (b ≡ 0) → Weighs S t (constant b j)
      go (yes e) = subst (λ u. Weighs S u (constant b j)) (sym (p e)) (subst (λ c. Weighs S ff (constant c j)) (sym e) ff-weighs)
      go (no n) = subst (λ u. Weighs S u (constant b j)) (sym (q n)) (ft-weighs b n)

-- ---- two parts

pub pos : (n : ℕ) → (n ≡ 0 → ⊥) → 0 < n
pos zero h = absurd (h refl)
pos (suc n) h = omega arith

some-weight : (x y : ℕ) {n : ℕ} → (x ≡ 0 → y ≡ 0 → n ≡ 0) → 0 < n → 0 < x + y
some-weight zero zero h p = absurd (omega (arith, h refl refl, p))
some-weight zero (suc y) h p = omega arith
some-weight (suc x) y h p = omega arith

bit_or_left : (p q : Bool) → bit p ≤ bit (p || q)
bit_or_left true q = omega arith
bit_or_left false q = omega arith

bit_or_right : (p q : Bool) → bit q ≤ bit (p || q)
bit_or_right true true = omega arith
bit_or_right true false = omega arith
bit_or_right false q = omega arith

bit-or-both : (p q : Bool) → (p ≡ true → q ≡ true → ⊥) → bit p + bit q ≤ bit (p || q)
bit-or-both true true h = absurd (h refl refl)
bit-or-both true false h = omega arith
bit-or-both false q h = omega arith

module _ (S : List ℕ) (a b : Face) {x y : Weight} (A : Weighs S a x) (B : Weighs S b y) where
  -- A fand needs what either part needs, and where they share no literal what both need.
  fand-lower : (τ : List ℕ) → Within S τ → holds (fand a b) (assigned τ) ≡ true → (x.weight ≤ hits (occurs (fand a b)) S τ) × (y.weight ≤ hits (occurs (fand a b)) S τ)
  unfolding holds occurs
  fand-lower τ w h =
      let k = (and-eq-true_iff (holds a (assigned τ)) (holds b (assigned τ))).0 h in (
        omega (arith, A.lower τ w k.0, hits-le (occurs a) (occurs (fand a b)) (λ n v. bit_or_left (occurs a n v) (occurs b n v)) S τ),
        omega (arith, B.lower τ w k.1, hits-le (occurs b) (occurs (fand a b)) (λ n v. bit_or_right (occurs a n v) (occurs b n v)) S τ),
      )

  fand-sum : Apart a b → (τ : List ℕ) → Within S τ → holds (fand a b) (assigned τ) ≡ true → x.weight + y.weight ≤ hits (occurs (fand a b)) S τ
  unfolding holds occurs
  fand-sum p τ w h =
      let k = (and-eq-true_iff (holds a (assigned τ)) (holds b (assigned τ))).0 h in
      omega (arith, A.lower τ w k.0, B.lower τ w k.1, hits-sum (occurs a) (occurs b) (occurs (fand a b)) (λ n v. bit-or-both (occurs a n v) (occurs b n v) (p n v)) S τ)

  fand-held : x.weight ≡ 0 → y.weight ≡ 0 → holds (fand a b) (assigned (settled S)) ≡ true
  unfolding holds
  fand-held p q = (and-eq-true_iff (holds a (assigned (settled S))) (holds b (assigned (settled S)))).1 (A.held p, B.held q)

  fand-zero : holds (fand a b) (assigned (settled S)) ≡ true → (x.weight ≡ 0) × (y.weight ≡ 0)
  unfolding holds
  fand-zero h = let k = (and-eq-true_iff (holds a (assigned (settled S))) (holds b (assigned (settled S)))).0 h in (A.zero k.0, B.zero k.1)

  fand-needs : (m : ℕ) → (m ≡ 1 → Apart a b) → (τ : List ℕ) → Within S τ → holds (fand a b) (assigned τ) ≡ true → needed m x.weight y.weight ≤ hits (occurs (fand a b)) S τ
  fand-needs m p τ w h = picked (λ n. n ≤ hits (occurs (fand a b)) S τ) (eqb m 1) (min never (x.weight + y.weight)) (max x.weight y.weight)
      (λ e. omega (arith, fand-sum (p (eqb-true m 1 e)) τ w h))
      (λ e. let k = fand-lower τ w h in omega (arith, k.0, k.1))

  -- What is needed, between the needs of the parts.
  needed-least : (m : ℕ) → (max x.weight y.weight ≤ needed m x.weight y.weight) × (needed m x.weight y.weight ≤ never) × (x.weight ≡ 0 → y.weight ≡ 0 → needed m x.weight y.weight ≡ 0)
  needed-least m = picked (λ n. (max x.weight y.weight ≤ n) × (n ≤ never) × (x.weight ≡ 0 → y.weight ≡ 0 → n ≡ 0)) (eqb m 1) (min never (x.weight + y.weight)) (max x.weight y.weight)
      (λ e. (omega (arith, A.small, B.small), omega arith, λ p q. omega (arith, p, q)))
      (λ e. (omega arith, omega (arith, A.small, B.small), λ p q. omega (arith, p, q)))

  -- The part that is gone on with does not hold yet.
  leads-so : (t : Bool) → leads x y ≡ t → 0 < x.weight + y.weight → 0 < (pick t x.weight y.weight)
  leads-so t e h = go (eqb x.weight 0) (eqb y.weight 0) refl refl t e
    where
      rest : Bool
      rest = pick x.forced true (pick y.forced false (leb y.weight x.weight))

      go : (p q : Bool) → eqb x.weight 0 ≡ p → eqb y.weight 0 ≡ q → (t : Bool) → pick p false (pick q true rest) ≡ t → 0 < (pick t x.weight y.weight)
      go true q i j true e = absurd (false≢true e)
      go true q i j false e = omega (arith, h, eqb-true x.weight 0 i)
      go false true i j true e = pos x.weight (eqb-false x.weight 0 i)
      go false true i j false e = absurd (false≢true (sym e))
      go false false i j true e = pos x.weight (eqb-false x.weight 0 i)
      go false false i j false e = pos y.weight (eqb-false y.weight 0 j)

  fand-picks : (m : ℕ) → 0 < needed m x.weight y.weight → needed m x.weight y.weight < never → (pick (leads x y) x.dim y.dim < length S) × Open (get_or S (pick (leads x y) x.dim y.dim) 5) (pick (leads x y) x.side y.side)
  fand-picks m h k = go (leads x y) (leads-so (leads x y) refl (some-weight x.weight y.weight (needed-least m).2 h))
    where
      n : max x.weight y.weight ≤ needed m x.weight y.weight
      n = (needed-least m).0

      go : (t : Bool) → 0 < (pick t x.weight y.weight) → (pick t x.dim y.dim < length S) × Open (get_or S (pick t x.dim y.dim) 5) (pick t x.side y.side)
      go true p = A.picks p (omega (arith, n, k))
      go false p = B.picks p (omega (arith, n, k))

  pub conjoined-weighs : (m : ℕ) → (m ≡ 1 → Apart a b) → Weighs S (fand a b) (conjoined m x y)
  conjoined-weighs m p =
      let k = needed-least m in
      record {
        lower = fand-needs m p;
        held = λ e. fand-held (omega (arith, e, k.0)) (omega (arith, e, k.0));
        zero = λ h. let z = fand-zero h in k.2 z.0 z.1;
        small = k.1;
        picks = fand-picks m;
      }

  -- A for needs what the part that needs less does.
  for-lower : (c : ℕ) → c ≤ x.weight → c ≤ y.weight → (τ : List ℕ) → Within S τ → holds (for a b) (assigned τ) ≡ true → c ≤ hits (occurs (for a b)) S τ
  unfolding holds occurs
  for-lower c p q τ w h = go ((or-iff (holds a (assigned τ)) (holds b (assigned τ))).0 h)
    where
      go : (holds a (assigned τ) ≡ true) ⊎ (holds b (assigned τ) ≡ true) → c ≤ hits (occurs (for a b)) S τ
      go (inl k) = omega (arith, p, A.lower τ w k, hits-le (occurs a) (occurs (for a b)) (λ n v. bit_or_left (occurs a n v) (occurs b n v)) S τ)
      go (inr k) = omega (arith, q, B.lower τ w k, hits-le (occurs b) (occurs (for a b)) (λ n v. bit_or_right (occurs a n v) (occurs b n v)) S τ)

  for-held : (x.weight ≡ 0) ⊎ (y.weight ≡ 0) → holds (for a b) (assigned (settled S)) ≡ true
  unfolding holds
  for-held (inl e) = rw (A.held e)
  for-held (inr e) = rw (B.held e, or-true)

  for-zero : (c : ℕ) → c ≤ x.weight → c ≤ y.weight → holds (for a b) (assigned (settled S)) ≡ true → c ≡ 0
  unfolding holds
  for-zero c p q h = go ((or-iff (holds a (assigned (settled S))) (holds b (assigned (settled S)))).0 h)
    where
      go : (holds a (assigned (settled S)) ≡ true) ⊎ (holds b (assigned (settled S)) ≡ true) → c ≡ 0
      go (inl k) = omega (arith, p, A.zero k)
      go (inr k) = omega (arith, q, B.zero k)

  pub lighter-weighs : Weighs S (for a b) (lighter x y)
  lighter-weighs = picked (Weighs S (for a b)) (leb x.weight y.weight) (left_over x y.weight y.at) (left_over y x.weight y.at)
      (λ h. let k = leb-true x.weight y.weight h in record {
        lower = for-lower x.weight (omega arith) k;
        held = λ e. for-held (inl e);
        zero = for-zero x.weight (omega arith) k;
        small = A.small;
        picks = A.picks;
      })
      (λ h. let k = leb-false x.weight y.weight h in record {
        lower = for-lower y.weight (omega (arith, k)) (omega arith);
        held = λ e. for-held (inr e);
        zero = for-zero y.weight (omega (arith, k)) (omega arith);
        small = B.small;
        picks = B.picks;
      })

-- ---- at a place

module _ {f : List ℕ} {i d : ℕ} (q : Asks f i d) where
  parts_low : (h : 4 ≤ get_or f i 0) → (bound_face (parts q.stands h).left ≤ d) × (bound_face (parts q.stands h).right ≤ d)
  unfolding bound_face
  parts_low h =
      let p = parts q.stands h in
      let e = parts_same bound_face p refl refl in
      (omega (arith, e, q.low), omega (arith, e, q.low))

  pub first-asks : 4 ≤ get_or f i 0 → Asks f (i + 1) d
  first-asks h = record { stands = first-stands q.stands h; low = (parts_low h).0 }

  pub second-asks : {j : ℕ} → 4 ≤ get_or f i 0 → Ends f (i + 1) j → Asks f j d
  second-asks h e = record { stands = second-stands q.stands h e; low = (parts_low h).1 }

-- A constant, with its kind byte.
pub leaf-weighed : (f : List ℕ) (i : ℕ) (S : List ℕ) → get_or f i 0 < 2 → Weighed f i S (constant (get_or f i 0) (i + 1))
leaf-weighed f i S h = record {
  ends = leaf-ends f i h;
  weighs = λ t rest e. let s = leaf-at f i t rest e h in constant-weighs S (i + 1) (get_or f i 0) t s.empty s.full;
}

pub get_or-in : (S : List ℕ) (n a b : ℕ) → n < length S → get_or S n a ≡ get_or S n b
get_or-in [] n a b h = absurd (omega (arith, h))
get_or-in (s ∷ S) zero a b h = refl
get_or-in (s ∷ S) (suc n) a b h = get_or-in S n a b (omega (arith, h))

module _ (f : List ℕ) (i : ℕ) (h : 2 ≤ get_or f i 0) (k : get_or f i 0 < 4) where
  pub literal-dimension : {d : ℕ} → Asks f i d → dim_at f (i + 1) < d
  unfolding bound_face
  literal-dimension q = let s = literal-is f i h k q.stands.face q.stands.rest q.stands.bytes in omega (arith, q.low, ap bound_face s.1)

  pub literal-weighed : (S : List ℕ) (w n e : ℕ) (b : Bool) (j : ℕ) → Asks f i (length S) → w ≡ cost (get_or S n 0) e → n ≡ dim_at f (i + 1) → e ≡ get_or f i 0 - 2 → j ≡ i + 1 + dim_width
      → Weighed f i S (record { weight = w; dim = n; side = e; forced = b; at = j })
  literal-weighed S w n e b j q pw pn pe pj = record {
    ends = λ t rest p. pj ∙ literal-ends f i h k t rest p;
    weighs = λ t rest p.
        let s = literal-is f i h k t rest p in
        let low : n < length S = omega (arith, pn, literal-dimension q) in
        let z = literal-weighs S s.0 n j low b in
        let u : w ≡ cost (get_or S n 5) (side_of s.0) = pw ∙ ap₂ cost (get_or-in S n 0 5 low) (pe ∙ sym s.2) in
        subst (λ t. Weighs S t (record { weight = w; dim = n; side = e; forced = b; at = j })) (sym (s.1 ∙ ap (at s.0) (sym pn)))
        (subst (λ w. Weighs S (at s.0 n) (record { weight = w; dim = n; side = e; forced = b; at = j })) (sym u)
        (subst (λ e. Weighs S (at s.0 n) (record { weight = cost (get_or S n 5) (side_of s.0); dim = n; side = e; forced = b; at = j })) (s.2 ∙ sym pe) z));
  }

lighter-at : (x y : Weight) → (lighter x y).at ≡ y.at
lighter-at x y = picked (λ r. r.at ≡ y.at) (leb x.weight y.weight) (left_over x y.weight y.at) (left_over y x.weight y.at) (λ h. refl) (λ h. refl)

-- Two parts that were weighed.
module _ (f : List ℕ) (i : ℕ) (S : List ℕ) {x y : Weight} (h : 4 ≤ get_or f i 0) (A : Weighed f (i + 1) S x) (B : Weighed f x.at S y) where
  module _ (t : Face) (rest : List ℕ) (e : drop i f ≡ encode_face t ++ rest) where
    abbrev p : PartsAt f i t rest
    p = parts_at f i t rest e h

    left-weighs : Weighs S p.left x
    left-weighs = A.weighs p.left (encode_face p.right ++ rest) p.first

    right-weighs : Weighs S p.right y
    right-weighs = B.weighs p.right rest (second f i h A.ends t rest e)

  pub parts-small : {d : ℕ} → Asks f i d → (x.weight ≤ never) × (y.weight ≤ never)
  parts-small q = let s = q.stands in ((left-weighs s.face s.rest s.bytes).small, (right-weighs s.face s.rest s.bytes).small)

  pub conjoined-weighed : {marks : List ℕ} → get_or f i 0 ≡ 4 → Marks f marks → Weighed f i S (conjoined (get_or marks i 0) x y)
  conjoined-weighed {marks} k m = record {
    ends = parts-end f i h A.ends B.ends;
    weighs = λ t rest e.
        let c = (p t rest e).conjoined k in
        subst (λ u. Weighs S u (conjoined (get_or marks i 0) x y)) (sym c)
        (conjoined-weighs S (p t rest e).left (p t rest e).right (left-weighs t rest e) (right-weighs t rest e) (get_or marks i 0) (λ j. m.apart i (p t rest e).left (p t rest e).right rest j (e ∙ ap (λ u. encode_face u ++ rest) c)));
  }

  pub lighter-weighed : (get_or f i 0 ≡ 4 → ⊥) → Weighed f i S (lighter x y)
  lighter-weighed k = record {
    ends = λ t rest e. lighter-at x y ∙ parts-end f i h A.ends B.ends t rest e;
    weighs = λ t rest e.
        subst (λ u. Weighs S u (lighter x y)) (sym ((p t rest e).disjoined k)) (lighter-weighs S (p t rest e).left (p t rest e).right (left-weighs t rest e) (right-weighs t rest e));
  }
