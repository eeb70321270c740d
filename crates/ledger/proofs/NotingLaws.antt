-- Places: how many steps a ledger can have, a place more, and where a walk from one starts.
use mathlib.Core.Path.{◌≡◌, refl, ap, ◌∙◌}
use mathlib.Core.List.{List}
use Prim.Native.Nat.{ℕ, zero, suc, ◌+◌, ◌*◌, ◌/◌, ◌%◌, ◌≤◌, ◌<◌}
use native.Mathlib.Omega.{arith}
use native.Mathlib.Decide.{ℕ_discrete}
use lib.ListN.{length, get_or, set, length-set}
use lib.Seq.{get_or-set_same, get_or-set_other}
use Rattle.calculus.specs.Judgement.{Step}
use Rattle.calculus.specs.Record.{Holds}
use Rattle.ledger.specs.Ledger.{steps_of, place_of, Led, Points}
use Rattle.ledger.specs.Noting.{Noted, Notes}
use Rattle.ledger.proofs.LedgerLaws.{place_inside}
use Rattle.ledger.proofs.PointLaws.{inside}

-- A record takes six bytes or more.
six-bytes : {l : List ℕ} {L : List Step} → Holds l L → (i : ℕ) → i ≤ length L → 4 + 6 * i ≤ place_of L i
six-bytes h zero b = omega arith
six-bytes h (suc i) b = omega (arith, six-bytes h i (omega arith), (place_inside h i (omega arith)).0)

-- So 10,923 places serve every ledger.
pub few-steps : {l : List ℕ} {step at : ℕ} → Points l step at → step < 16 * 10923
few-steps {l} {step} p = let i = inside p in omega (arith, six-bytes p.led step (omega (arith, p.inside)), p.place, i.operands, i.whole, i.small)

-- A place has 32 bits or fewer.
pub low-place : {l : List ℕ} {step at : ℕ} → Points l step at → at < 4294967296
low-place p = let i = inside p in omega (arith, i.operands, i.whole, i.small)

-- Of no step, nothing is to be kept.
pub noted-none : (L : List Step) (places : List ℕ) → Noted L 0 places
noted-none L places = record { room = omega arith; held = λ k p. absurd (omega arith) }

-- Places for fewer steps.
pub noted-below : {L : List Step} {n m : ℕ} {places : List ℕ} → m ≤ n → Noted L n places → Noted L m places
noted-below b x = record { room = omega (arith, x.room); held = λ k p. x.held k (omega arith) }

module _ (step at : ℕ) (places : List ℕ) (b : step < 16 * length places) where
  -- No 16th step, nothing to keep.
  pub note-none : (step % 16 ≡ 0 → ⊥) → Notes step at places places
  note-none d = record { long = refl; more = λ L e x. record { room = omega arith; held = λ k p. x.held k (omega arith) } }

  pub note-place : step % 16 ≡ 0 → Notes step at places (set places (step / 16) at)
  note-place z = record { long = length-set places (step / 16) at; more = λ L e x. record { room = omega (arith, length-set places (step / 16) at); held = λ k p. go L e x k p (ℕ_discrete k (step / 16)) } }
    where
      go : (L : List Step) → at ≡ place_of L step → Noted L step places → (k : ℕ) → 16 * k < suc step → Dec (k ≡ step / 16) → get_or (set places (step / 16) at) k 0 ≡ place_of L (16 * k)
      go L e x k p (yes q) =
          let f : step ≡ 16 * k = omega arith in
          ap (λ (n : ℕ). get_or (set places (step / 16) at) n 0) q ∙ get_or-set_same places (step / 16) at 0 (omega arith) ∙ e ∙ ap (place_of L) f
      go L e x k p (no q) = get_or-set_other places (step / 16) k at 0 q ∙ x.held k (omega arith)

-- The walk to step i starts at the 16th step at or before it.
pub walk_start : (l places : List ℕ) (i at : ℕ) → Led l × (i < length (steps_of l)) × Noted (steps_of l) (suc i) places → at ≡ get_or places (i / 16) 0
    → Led l × (i < length (steps_of l)) × (16 * (i / 16) ≤ i) × (at ≡ place_of (steps_of l) (16 * (i / 16)))
walk_start l places i at h e = (h.0, h.1, omega arith, e ∙ h.2.held (i / 16) (omega arith))
