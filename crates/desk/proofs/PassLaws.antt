-- The pass over the steps of a ledger: what is known before each of them, and what the verdict is.
use mathlib.Core.Path.{◌≡◌, refl, ap, ◌∙◌, subst}
use mathlib.Core.Bool.{Bool, false}
use mathlib.Core.Option.{Option, none, some}
use mathlib.Core.List.{List}
use Prim.Native.Nat.{ℕ, ◌*◌, ◌≤◌, ◌<◌}
use native.Mathlib.Omega.{arith}
use lib.ListN.{length}
use Rattle.calculus.specs.Judgement.{Step}
use Rattle.calculus.specs.Rules.{step_at, Follows, pass, fail, passes, fails}
use Rattle.calculus.specs.Parse.{read_ledger}
use Rattle.calculus.specs.Desk.{DeskAnswer, unreadable, judged, no-ledger, on-steps, DeskGives}
use Rattle.calculus.proofs.Records.{read-ledger}
use Rattle.calculus.proofs.Desk.{Up}
use Rattle.refusals.specs.declared.Refusal.{Refusal}
use Rattle.std.specs.Prelude.{Err}
use Rattle.ledger.specs.Checks.{step_count}
use Rattle.ledger.specs.Ledger.{steps_of, Led, Points}
use Rattle.ledger.specs.Noting.{Noted}
use Rattle.ledger.proofs.PointLaws.{Walks, walks-start}
use Rattle.ledger.proofs.NotingLaws.{noted-none, few-steps, low-place}
use Rattle.rules.specs.Standing.{Decides}
use Rattle.desk.specs.Verdicts.{answer_as, in_document, said, Answers}
use Rattle.desk.specs.declared.Verdict.{Verdict as DeskVerdict}
use Rattle.desk.specs.declared.Verdict.TheVariants.{Ill, Fails, Passes}

-- Before a step: where the pass stands, the places that are noted, and that all steps before it follow.
pub record Passing (l : List ℕ) (step at : ℕ) (places : List ℕ) : Type 0 where
  pub walks : Walks l step at
  pub size : length places ≡ 10923
  pub noted : Noted (steps_of l) step places
  pub up : Up (steps_of l) step

pub passing-start : {l : List ℕ} {step at : ℕ} → Led l → (places : List ℕ) → length places ≡ 10923 → step ≡ 0 → at ≡ 4 → Passing l step at places
passing-start {l} h places e p q = rw (p, q) (record { walks = walks-start h; size = e; noted = noted-none (steps_of l) places; up = λ j b. absurd (omega arith) })

module _ {l : List ℕ} {step at : ℕ} {places : List ℕ} (g : Passing l step at places) where
  pub passing-points : step < length (steps_of l) → Points l step at
  passing-points b = record { led = g.walks.led; inside = b; place = g.walks.place }

  pub passing-room : step < length (steps_of l) → (step < 16 * length places) × (at < 4294967296)
  passing-room b = (omega (arith, few-steps (passing-points b), g.size), low-place (passing-points b))

  pub passing-fails : (r : Bool) → step < length (steps_of l) → r ≡ false → Decides r (Follows (steps_of l) step (step_at (steps_of l) step)) → DeskGives answer_as l (Fails step)
  passing-fails r b e d =
      let f : Follows (steps_of l) step (step_at (steps_of l) step) → ⊥ = subst (λ (t : Bool). Decides t (Follows (steps_of l) step (step_at (steps_of l) step))) e d in
      record { answer = judged (fail step); says = on-steps (steps_of l) (read-ledger g.walks.led) (fails b g.up f); given = refl }

  pub passing-all : length (steps_of l) ≤ step → DeskGives answer_as l (Passes step)
  passing-all b =
      let e : step ≡ length (steps_of l) = omega (arith, g.walks.among) in
      record { answer = judged (pass (length (steps_of l))); says = on-steps (steps_of l) (read-ledger g.walks.led) (passes (λ i q. g.up i (omega arith))); given = ap Passes e }

-- On bytes -------------------------------------------------------------------------------------------

pub ill-answer : (l : List ℕ) (x : Refusal) → step_count (read_ledger l) ≡ Err x → DeskGives answer_as l Ill
ill-answer l x h = go (read_ledger l) refl h
  where
    go : (o : Option (List Step)) → read_ledger l ≡ o → step_count o ≡ Err x → DeskGives answer_as l Ill
    go none e h = record { answer = unreadable; says = no-ledger e; given = refl }
    go (some L) e h = absurd (let z : ◌≡◌ {A = ℕ} 0 1 = cc in omega arith)

-- An answer of the calculus says the same in document 01's terms.
same-said : (a : DeskAnswer) → in_document (answer_as a) ≡ said a
same-said unreadable = refl
same-said (judged (pass n)) = refl
same-said (judged (fail n)) = refl

pub answers : {l : List ℕ} {r : DeskVerdict} → DeskGives answer_as l r → Answers l r
answers h = record { gives = h; says = record { answer = h.answer; says = h.says; given = ap in_document h.given ∙ same-said h.answer } }
