-- What stands at the place of a step that a cursor points at, and where the cursor goes.
use Prim.Native.Nat.{ℕ, suc, ◌+◌, ◌-◌, ◌*◌, ◌≤◌, ◌<◌}
use native.Mathlib.Omega.{arith}
use mathlib.Core.Path.{◌≡◌, refl, sym, ap, ap₂, ◌∙◌}
use native.Mathlib.Decide.{dec_lt}
use mathlib.Core.List.{List}
use lib.ListN.{length, get_or, take, drop}
use Rattle.calculus.specs.Table.{predicate, entry_of}
use Rattle.calculus.specs.Rules.{step_at, judgement_at}
use Rattle.calculus.specs.Record.{operand_bytes, steps_bytes, size, max_ledger}
use Rattle.kinds.specs.Kinds.{number_of, entry_as}
use Rattle.records.specs.Places.{little_at}
use Rattle.std.specs.Prelude.{Some}
use Rattle.ledger.specs.Ledger.{steps_of, Led, place_of, Points}
use Rattle.ledger.proofs.LedgerLaws.{place-next, place-last, place_end, many, place-length, place-kind, place-reference, place-operands, place_inside, place-entry}

module _ {l : List ℕ} {step at : ℕ} (p : Points l step at) where
  -- The record lies in the ledger, with the kind, the references and the operands inside it.
  pub record Inside : Type 0 where
    pub operands : at + 6 + 4 * length (step_at (steps_of l) step).references ≤ place_of (steps_of l) (suc step)
    pub whole : place_of (steps_of l) (suc step) ≤ length l
    pub small : length l ≤ max_ledger
    pub low : step ≤ at

  pub inside : Inside
  inside =
      let i = place_inside p.led step p.inside in
      record { operands = omega (arith, p.place, i.0); whole = i.1; small = p.led.small; low = omega (arith, p.place, many (steps_of l) step p.inside) }

  pub points-next : at + 4 + little_at 4 l at ≡ place_of (steps_of l) (suc step)
  points-next = ap (λ (a : ℕ). a + 4 + little_at 4 l a) p.place ∙ place-length p.led step p.inside

  pub points-kind : little_at 2 l (at + 4) ≡ (step_at (steps_of l) step).kind
  points-kind = ap (λ (a : ℕ). little_at 2 l (a + 4)) p.place ∙ place-kind p.led step p.inside

  pub points-reference : (j : ℕ) → j < length (step_at (steps_of l) step).references → little_at 4 l (at + 6 + 4 * j) ≡ get_or (step_at (steps_of l) step).references j 0
  points-reference j q = ap (λ (a : ℕ). little_at 4 l (a + 6 + 4 * j)) p.place ∙ place-reference p.led step p.inside j q

  pub points-entry : entry_as (entry_of (step_at (steps_of l) step).kind) ≡ Some (record { references = length (step_at (steps_of l) step).references; predicate = number_of (predicate (judgement_at (steps_of l) step)) })
  points-entry = place-entry p.led step p.inside

  pub points-operands : (from to : ℕ) → from ≡ at + 6 + 4 * length (step_at (steps_of l) step).references → to ≡ place_of (steps_of l) (suc step)
      → take (to - from) (drop from l) ≡ operand_bytes (judgement_at (steps_of l) step)
  points-operands from to e f =
      let g : from ≡ place_of (steps_of l) step + 6 + 4 * length (step_at (steps_of l) step).references = e ∙ ap (λ (a : ℕ). a + 6 + 4 * length (step_at (steps_of l) step).references) p.place in
      ap₂ (λ (a b : ℕ). take (b - a) (drop a l)) g f ∙ place-operands p.led step p.inside

-- Where a walk over the steps stands: at a step or at the end.
pub record Walks (l : List ℕ) (step at : ℕ) : Type 0 where
  pub led : Led l
  pub among : step ≤ length (steps_of l)
  pub place : at ≡ place_of (steps_of l) step

pub walks-start : {l : List ℕ} → Led l → Walks l 0 4
unfolding steps_bytes
walks-start h = record { led = h; among = omega arith; place = refl }

-- Before the end of the records there is a step.
pub walks-points : {l : List ℕ} {step at : ℕ} → Walks l step at → at < size (steps_of l) → Points l step at
walks-points {l} {step} {at} w b = record { led = w.led; inside = go (dec_lt step (length (steps_of l))); place = w.place }
  where
    go : Dec (step < length (steps_of l)) → step < length (steps_of l)
    go (yes q) = q
    go (no q) =
        let e : step ≡ length (steps_of l) = omega (arith, w.among) in
        absurd (omega (arith, w.place ∙ ap (place_of (steps_of l)) e ∙ place-last (steps_of l)))

pub walks-end : {l : List ℕ} {step at : ℕ} → Walks l step at → size (steps_of l) ≤ at → step ≡ length (steps_of l)
walks-end {l} {step} {at} w b = go (dec_lt step (length (steps_of l)))
  where
    go : Dec (step < length (steps_of l)) → step ≡ length (steps_of l)
    go (yes q) = absurd (omega (arith, w.place, place-next (steps_of l) step q, place_end (steps_of l) step q))
    go (no q) = omega (arith, w.among)

pub walks_next : {l : List ℕ} {step at step' at' : ℕ} → Points l step at → (step' ≡ suc step) × (at' ≡ place_of (steps_of l) (suc step)) → Walks l step' at'
walks_next {l} p e = record { led = p.led; among = omega (arith, p.inside, e.0); place = e.1 ∙ ap (place_of (steps_of l)) (sym e.0) }

pub walks-forward : {l : List ℕ} {step at at' : ℕ} → Points l step at → at' ≡ place_of (steps_of l) (suc step) → (at < at') × (at' ≤ length l)
walks-forward {l} {step} p e = let i = inside p in (omega (arith, e, p.place, place-next (steps_of l) step p.inside), omega (arith, e, i.whole))

-- `Cursor::entry` names `points-entry` by this: a path in an attribute takes no dash.
pub ruleset entries = (points-entry)
