-- The pass that makes an index.
use Prim.Native.Nat.{ℕ, suc, ◌+◌, ◌*◌, ◌-◌, ◌/◌, ◌≤◌, ◌<◌}
use native.Mathlib.Omega.{arith}
use mathlib.Core.Path.{◌≡◌, refl, sym, ap, ◌∙◌, subst₂}
use mathlib.Core.List.{List, ◌++◌}
use lib.ListN.{length, get_or, take, drop, replicate, length-replicate, length-append, length-drop, take-append-drop, get_or-replicate, get_or-append}
use lib.Seq.{length-take-le}
use Rattle.calculus.specs.Judgement.{Step}
use Rattle.calculus.specs.Record.{size, Holds}
use Rattle.ledger.specs.Ledger.{steps_of, Led, place_of, Points}
use Rattle.ledger.proofs.PointLaws.{Walks, walks-start, walks_next, walks-end}
use Rattle.index.specs.Index.{bucket_at, heads_of, places_from, IndexedTo, Roomy, Indexed, Entered, Enterable, Enters}
use Rattle.index.proofs.EnterLaws.{entered-length, indexed-after, indexed-none}
use Rattle.index.proofs.RoomLaws.{holds-eight}

-- Zeros in front are an index of no steps.
cleared : (x : List ℕ) (n i : ℕ) → i < n → get_or (replicate n 0 ++ drop n x) i 0 ≡ 0
cleared x n i b = get_or-append (replicate n 0) (drop n x) 0 i (omega (arith, length-replicate {A = ℕ} n 0)) ∙ get_or-replicate n i 0 0 b

-- Where the pass stands: the steps so far are indexed.
pub record Building (l : List ℕ) (h n : ℕ) (x : List ℕ) (step at : ℕ) : Type 0 where
  pub walks : Walks l step at
  pub heads : h ≡ heads_of x
  pub room : Roomy l x
  pub long : length x ≡ n
  pub steps : IndexedTo h (places_from x) (steps_of l) x step

-- Step n of a ledger has room in the index.
pub enterable : (l : List ℕ) (L : List Step) (x : List ℕ) (n : ℕ) → Holds l L → Roomy l x → n < length L → get_or x 0 0 ≡ n → Enterable x
enterable l L x n h r b e = (omega (arith, holds-eight h, h.small), omega (arith, holds-eight h))

pub build-start : {l : List ℕ} → Led l → (h : ℕ) (x z : List ℕ) → h ≡ heads_of x → Roomy l x → z ≡ replicate (length (take (1 + h) x)) 0
    → {step at : ℕ} → (step ≡ 0) × (at ≡ 4) → Building l h (length (z ++ drop (1 + h) x)) (z ++ drop (1 + h) x) step at
build-start {l} d h x z e r k {step} {at} s =
    let y : List ℕ = replicate (1 + h) 0 ++ drop (1 + h) x in
    let a : length (take (1 + h) x) ≡ 1 + h = length-take-le (1 + h) x (omega (arith, holds-eight d)) in
    let f : z ++ drop (1 + h) x ≡ y = ap (λ (v : List ℕ). v ++ drop (1 + h) x) (k ∙ ap (λ (n : ℕ). replicate {A = ℕ} n 0) a) in
    let n : length y ≡ length x = omega (arith, length-append (replicate (1 + h) 0) (drop (1 + h) x), length-replicate {A = ℕ} (1 + h) 0, length-drop (1 + h) x, holds-eight d) in
    rw (f, s.0, s.1) (record {
      walks = walks-start d;
      heads = e ∙ ap (λ (m : ℕ). 4 * ((m - 2) / 21) + 1) (sym n);
      room = omega (arith, n);
      long = refl;
      steps = indexed-none h (places_from y) (steps_of l) y (λ i b. cleared x (1 + h) i b);
    })

-- Every store keeps the length.
pub zeroed-length : (x z : List ℕ) (n : ℕ) → length z ≡ length (take n x) → length (z ++ drop n x) ≡ length x
zeroed-length x z n e = omega (arith, length-append z (drop n x), e, ap length (take-append-drop n x), length-append (take n x) (drop n x))

-- One step more.
pub build-turn : {l : List ℕ} {h n : ℕ} {x : List ℕ} {step at : ℕ} → Building l h n x step at → Points l step at → {b : ℕ} → (b ≡ bucket_at h (steps_of l) step) × (b < h)
    → {x' : List ℕ} → Enters x b at x' → {step' at' : ℕ} → (step' ≡ suc step) × (at' ≡ place_of (steps_of l) (suc step)) → Building l h n x' step' at'
build-turn {l} {h} {n} {x} {step} {at} w p {b} is {x'} e {step'} {at'} next =
    let f = enterable l (steps_of l) x step p.led w.room p.inside w.steps.count in
    let k : Entered h (places_from x) step x b at x' = subst₂ (λ (a m : ℕ). Entered a (places_from x) m x b at x') (sym w.heads) w.steps.count (e f) in
    let q : places_from x ≤ length x = omega arith in
    let m : length x' ≡ length x = entered-length k q in
    let i : IndexedTo h (places_from x) (steps_of l) x' (suc step) = indexed-after k q w.steps is.1 is.0 p.place (omega (arith, f.1, w.heads, w.steps.count)) (omega (arith, f.0, w.steps.count)) in
    record {
      walks = walks_next p next;
      heads = w.heads ∙ ap (λ (j : ℕ). 4 * ((j - 2) / 21) + 1) (sym m);
      room = omega (arith, w.room, m);
      long = m ∙ w.long;
      steps = subst₂ (λ (a s : ℕ). IndexedTo h a (steps_of l) x' s) (ap (λ (j : ℕ). j - (j - 2) / 21) (sym m)) (sym next.0) i;
    }

pub built : {l : List ℕ} {h n : ℕ} {x : List ℕ} {step at : ℕ} → Building l h n x step at → size (steps_of l) ≤ at → Indexed l x
built {l} {x = x} w b = record {
  led = w.walks.led;
  room = w.room;
  steps = subst₂ (λ (k s : ℕ). IndexedTo k (places_from x) (steps_of l) x s) w.heads (walks-end w.walks b) w.steps;
}
