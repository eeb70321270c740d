-- The walk down the chain of a bucket, on the bytes of a ledger and its index.
use Prim.Native.Nat.{ℕ, suc, ◌+◌, ◌-◌, ◌%◌, ◌≤◌, ◌<◌}
use native.Mathlib.Omega.{arith}
use mathlib.Core.Path.{◌≡◌, refl, sym, ap, ◌∙◌, subst}
use mathlib.Core.List.{List}
use lib.ListN.{length, get_or, take, drop}
use Rattle.calculus.specs.Rules.{step_at}
use Rattle.std.specs.Prelude.{Option, Some, None, Ok, Err}
use Rattle.formula.specs.Answers.{pick}
use Rattle.ledger.specs.Ledger.{steps_of, Led, place_of, Points}
use Rattle.ledger.specs.Noting.{Noted}
use Rattle.ledger.proofs.NotingLaws.{noted-below}
use Rattle.index.specs.Finding.{same_step, find_bytes, found_as}
use Rattle.index.specs.Index.{bucket_of, last, heads_of, places_from, mark, Indexed}
use Rattle.index.proofs.ChainLaws.{last-low, InChain, last-chain, down, down-skip, down-end, walk-absent, walk-found}
use Rattle.index.proofs.RoomLaws.{slot-low}
use Rattle.index.proofs.EnterLaws.{part-whole}
use Rattle.index.proofs.SameLaws.{found_some, find-inside}

-- What is left of the chain gives the answer.
pub record Walk (l x : List ℕ) (b p : ℕ) (o : List ℕ) (i : ℕ) (found : Option ℕ) : Type 0 where
  pub chain : InChain (heads_of x) (steps_of l) b i
  pub rest : down p o (steps_of l) i found ≡ down p o (steps_of l) (length (steps_of l)) None

-- The link of a step lies in the index.
pub slots-inside : {l x : List ℕ} → Indexed l x → (s : ℕ) → s < length (steps_of l) → 1 + heads_of x + s < length x
slots-inside e s h = omega (arith, slot-low e s h)

-- The bucket, by the number of buckets that was counted.
pub bucket-is : {l x : List ℕ} → Indexed l x → (h b p : ℕ) (o : List ℕ) → h ≡ heads_of x → (b ≡ bucket_of h p o) × (b < h) → Indexed l x × (b ≡ bucket_of (heads_of x) p o) × (b < heads_of x)
bucket-is {x} i h b p o e k = (i, (subst (λ (n : ℕ). (b ≡ bucket_of n p o) × (b < n)) e k).0, (subst (λ (n : ℕ). (b ≡ bucket_of n p o) × (b < n)) e k).1)

-- A step that was found lies in the index.
pub found-slots : {l x : List ℕ} → Indexed l x → (p i : ℕ) (o : List ℕ) → Ok i ≡ found_as (find_bytes p o (steps_of l)) (length (steps_of l)) → 1 + heads_of x + i < length x
found-slots {l} e p i o h = slots-inside e i (find-inside p o (steps_of l) i (found_some (find_bytes p o (steps_of l)) (length (steps_of l)) i h))

module _ {l x : List ℕ} (e : Indexed l x) (b p : ℕ) (o : List ℕ) (is : b ≡ bucket_of (heads_of x) p o) where
  -- The head or the link, as the chain goes on from the first m steps.
  goes_on : (m i : ℕ) (found : Option ℕ) → m ≤ length (steps_of l) → i ≡ last (heads_of x) (steps_of l) b m → down p o (steps_of l) m found ≡ down p o (steps_of l) (length (steps_of l)) None → Walk l x b p o i found
  goes_on m i found h k d =
      let L = steps_of l in
      let c : InChain (heads_of x) L b i = subst (InChain (heads_of x) L b) (sym k) (last-chain (heads_of x) L b m h) in
      record { chain = c; rest = ap (λ (n : ℕ). down p o L n found) (k ∙ ap (λ (a : ℕ). last (heads_of x) L a m) is) ∙ sym (down-skip p o (heads_of x) L m found) ∙ d }

  pub walk_start : (i : ℕ) → b < heads_of x → i ≡ get_or x (1 + b) 0 → Walk l x b p o i None
  walk_start i h k = goes_on (length (steps_of l)) i None (omega arith) (k ∙ e.steps.head b h) refl

  module _ {i : ℕ} {found : Option ℕ} (w : Walk l x b p o i found) (s : ℕ) (k : i ≡ suc s) where
    pub walk_inside : s < length (steps_of l)
    walk_inside = omega (arith, w.chain.low)

    -- The places serve to find the step.
    pub walk-noted : (q : ℕ) → q ≡ places_from x → Led l × (s < length (steps_of l)) × Noted (steps_of l) (suc s) (take (length x - q) (drop q x))
    walk-noted q h = (e.led, walk_inside, subst (Noted (steps_of l) (suc s)) (ap (λ (m : ℕ). drop m x) (sym h) ∙ sym (part-whole x q)) (noted-below walk_inside e.steps.places))

    pub walk-points : {i' at : ℕ} → (i' ≡ s) × (at ≡ place_of (steps_of l) s) → Points l i' at
    walk-points {i'} {at} h = record { led = e.led; inside = omega (arith, walk_inside, h.0); place = h.1 ∙ ap (place_of (steps_of l)) (sym h.0) }

    link-is : {i' : ℕ} → i' ≡ get_or x (1 + heads_of x + s) 0 % mark → i' ≡ last (heads_of x) (steps_of l) b s
    link-is g = g ∙ e.steps.link s walk_inside ∙ ap (λ (a : ℕ). last (heads_of x) (steps_of l) a s) (w.chain.among s k)

    pub walk-less : {i' : ℕ} → i' ≡ get_or x (1 + heads_of x + s) 0 % mark → i' < i
    walk-less g = omega (arith, link-is g, last-low (heads_of x) (steps_of l) b s)

    pub walk_turn : {i' : ℕ} {found' : Option ℕ} (c : ℕ) → c ≡ s → found' ≡ pick (same_step p o (step_at (steps_of l) c)) (Some c) found → i' ≡ get_or x (1 + heads_of x + s) 0 % mark → Walk l x b p o i' found'
    unfolding down
    walk_turn {i'} {found'} c q f₀ g =
        let f : found' ≡ pick (same_step p o (step_at (steps_of l) s)) (Some s) found = f₀ ∙ ap (λ (n : ℕ). pick (same_step p o (step_at (steps_of l) n)) (Some n) found) q in
        let d : down p o (steps_of l) i found ≡ down p o (steps_of l) s found' = ap (λ (n : ℕ). down p o (steps_of l) n found) k ∙ ap (down p o (steps_of l) s) (sym f) in
        goes_on s i' found' (omega (arith, walk_inside)) (link-is g) (sym d ∙ w.rest)

  module _ {i : ℕ} {found : Option ℕ} (w : Walk l x b p o i found) (k : i ≡ 0) where
    ended : down p o (steps_of l) (length (steps_of l)) None ≡ found
    ended = sym w.rest ∙ ap (λ (n : ℕ). down p o (steps_of l) n found) k ∙ down-end p o (steps_of l) found

    pub none_found : {n : ℕ} → found ≡ None → n ≡ get_or x 0 0 → Err n ≡ found_as (find_bytes p o (steps_of l)) (length (steps_of l))
    none_found f g = ap Err (g ∙ e.steps.count) ∙ sym (walk-absent p o (steps_of l) (length (steps_of l)) (ended ∙ f))

    pub one_found : {n : ℕ} → found ≡ Some n → Ok n ≡ found_as (find_bytes p o (steps_of l)) (length (steps_of l))
    one_found {n} f = sym (walk-found p o (steps_of l) (length (steps_of l)) n (ended ∙ f))
