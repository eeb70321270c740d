-- The repeat test on bytes: decisions, the last step, and the answer by what was read.
use mathlib.Core.Path.{◌≡◌, refl, sym, ap, ap₂, ◌∙◌}
use mathlib.Core.Bool.{Bool, true, false, decide, decide_iff}
use mathlib.Core.Option.{Option, none, some}
use mathlib.Core.List.{List, [], ◌∷◌}
use Prim.Native.Nat.{ℕ, zero, suc}
use native.Mathlib.Omega.{arith}
use lib.ListN.{length}
use Rattle.formula.specs.Answers.{same_bytes}
use Rattle.formula.proofs.ByteLaws.{same_refl, same_true}
use Rattle.calculus.specs.Judgement.{Judgement, Step}
use Rattle.calculus.specs.Table.{Pred, p_entails, predicate}
use Rattle.calculus.specs.Rules.{step_at, judgement_at}
use Rattle.calculus.specs.Record.{operand_bytes}
use Rattle.calculus.specs.Parse.{read_ledger}
use Rattle.std.specs.Prelude.{Result, Ok, Err}
use Rattle.refusals.specs.declared.Refusal.{Refusal}
use Rattle.kinds.specs.Kinds.{number_of, predicate_of}
use Rattle.kinds.proofs.KindLaws.{numbered}
use Rattle.ledger.specs.Checks.{step_count}
use Rattle.ledger.specs.Ledger.{steps_in, steps_of}
use Rattle.ledger.proofs.CheckLaws.{counted-steps}
use Rattle.repeat_test.specs.Repeats.{SameClaim, same_claim?, last_step, end_alike, repeat_test}

pub unlike : true ≡ false → ⊥
unlike x = let z : ◌≡◌ {A = ℕ} 0 1 = cc in omega arith

pub decide-no : {A : Type 0} (d : Dec A) → (A → ⊥) → decide d ≡ false
unfolding decide
decide-no (yes a) x = absurd (x a)
decide-no (no a) x = refl

-- Decisions of what is the same are the same.
pub decide-same : {A B : Type 0} (d : Dec A) (e : Dec B) → (A → B) → (B → A) → decide d ≡ decide e
unfolding decide
decide-same (yes a) e f g = sym ((decide_iff e).1 (f a))
decide-same (no a) e f g = sym (decide-no e (λ b. a (g b)))

-- Claims --------------------------------------------------------------------------------------

pub entails-number : (p : Pred) → number_of p ≡ 7 → p ≡ p_entails
entails-number p e = sym (numbered p).0 ∙ ap predicate_of e

module _ (j k : Judgement) where
  pub other-left : {n : ℕ} → n ≡ number_of (predicate j) → (n ≡ 7 → ⊥) → false ≡ decide (same_claim? j k)
  other-left e h = sym (decide-no (same_claim? j k) (λ s. h (e ∙ ap number_of s.left)))

  pub other-right : {n : ℕ} → n ≡ number_of (predicate k) → (n ≡ 7 → ⊥) → false ≡ decide (same_claim? j k)
  other-right e h = sym (decide-no (same_claim? j k) (λ s. h (e ∙ ap number_of s.right)))

  -- Of two entails judgements the bytes decide.
  pub by_bytes : number_of (predicate j) ≡ 7 → number_of (predicate k) ≡ 7 → same_bytes (operand_bytes j) (operand_bytes k) ≡ decide (same_claim? j k)
  by_bytes p q = go (same_bytes (operand_bytes j) (operand_bytes k)) refl
    where
      go : (t : Bool) → same_bytes (operand_bytes j) (operand_bytes k) ≡ t → t ≡ decide (same_claim? j k)
      go true e =
          let s : SameClaim j k = record { left = entails-number (predicate j) p; right = entails-number (predicate k) q; operands = same_true (operand_bytes j) (operand_bytes k) e } in
          sym ((decide_iff (same_claim? j k)).1 s)
      go false e = sym (decide-no (same_claim? j k) (λ s. unlike (sym (ap (λ (x : List ℕ). same_bytes x (operand_bytes k)) s.operands ∙ same_refl (operand_bytes k)) ∙ e)))

-- The last step -------------------------------------------------------------------------------

pub last_none : (L : List Step) → length L ≡ 0 → last_step L ≡ none
unfolding last_step
last_none [] h = refl
last_none (s ∷ L) h = absurd (omega arith)

pub last-at : (L : List Step) (i : ℕ) → suc i ≡ length L → last_step L ≡ some (step_at L i)
unfolding last_step
last-at [] i h = absurd (omega arith)
last-at (s ∷ []) zero h = refl
last-at (s ∷ []) (suc i) h = absurd (omega arith)
last-at (s ∷ (t ∷ L)) zero h = absurd (omega arith)
last-at (s ∷ (t ∷ L)) (suc i) h = last-at (t ∷ L) i (omega arith)

fresh-right : (o : Option Step) → false ≡ end_alike o none
fresh-right none = refl
fresh-right (some s) = refl

module _ (l m : List ℕ) {n k : ℕ} (a : step_count (read_ledger l) ≡ Ok n) (b : step_count (read_ledger m) ≡ Ok k) where
  pub empty_left : n ≡ 0 → false ≡ end_alike (last_step (steps_of l)) (last_step (steps_of m))
  empty_left h = sym (ap (λ (o : Option Step). end_alike o (last_step (steps_of m))) (last_none (steps_of l) (counted-steps l a ∙ h)))

  pub empty_right : k ≡ 0 → false ≡ end_alike (last_step (steps_of l)) (last_step (steps_of m))
  empty_right h = fresh-right (last_step (steps_of l)) ∙ sym (ap (end_alike (last_step (steps_of l))) (last_none (steps_of m) (counted-steps m b ∙ h)))

  pub by_last : {i j : ℕ} {r : Bool} → suc i ≡ n → suc j ≡ k → r ≡ decide (same_claim? (judgement_at (steps_of l) i) (judgement_at (steps_of m) j)) → r ≡ end_alike (last_step (steps_of l)) (last_step (steps_of m))
  by_last {i} {j} p q e = e ∙ sym (ap₂ end_alike (last-at (steps_of l) i (p ∙ sym (counted-steps l a))) (last-at (steps_of m) j (q ∙ sym (counted-steps m b))))

  -- Two ledgers that were read are answered by how they end.
  pub both_read : repeat_test (read_ledger l) (read_ledger m) ≡ Ok (end_alike (last_step (steps_of l)) (last_step (steps_of m)))
  unfolding steps_of
  both_read = go (read_ledger l) (read_ledger m) a b
    where
      go : (o p : Option (List Step)) → step_count o ≡ Ok n → step_count p ≡ Ok k → repeat_test o p ≡ Ok (end_alike (last_step (steps_in o)) (last_step (steps_in p)))
      go none p x y = absurd (let z : ◌≡◌ {A = ℕ} 0 1 = cc in omega arith)
      go (some L) none x y = absurd (let z : ◌≡◌ {A = ℕ} 0 1 = cc in omega arith)
      go (some L) (some M) x y = refl

-- A refusal of a count, as one of an answer.
abbrev again : Result ℕ Refusal → Result Bool Refusal
again (Err e) = Err e
again (Ok n) = Ok true

-- Bytes that are no ledger are refused, whatever the others are.
module _ (l m : List ℕ) {e : Refusal} where
  pub ill-left : step_count (read_ledger l) ≡ Err e → Err e ≡ repeat_test (read_ledger l) (read_ledger m)
  ill-left h = go (read_ledger l) h
    where
      go : (o : Option (List Step)) → step_count o ≡ Err e → Err e ≡ repeat_test o (read_ledger m)
      go none h = sym (ap (λ (r : Result ℕ Refusal). again r) h)
      go (some L) h = absurd (let z : ◌≡◌ {A = ℕ} 0 1 = cc in omega arith)

  pub ill-right : step_count (read_ledger m) ≡ Err e → Err e ≡ repeat_test (read_ledger l) (read_ledger m)
  ill-right h = go (read_ledger l) (read_ledger m) h
    where
      go : (o p : Option (List Step)) → step_count p ≡ Err e → Err e ≡ repeat_test o p
      go none none h = sym (ap (λ (r : Result ℕ Refusal). again r) h)
      go (some L) none h = sym (ap (λ (r : Result ℕ Refusal). again r) h)
      go o (some M) h = absurd (let z : ◌≡◌ {A = ℕ} 0 1 = cc in omega arith)
