-- Equal steps: what the test of bytes passes over, and that it tells judgements apart.
use Prim.Native.Nat.{ℕ, suc, ◌+◌, ◌-◌, ◌*◌, ◌<◌}
use native.Mathlib.Omega.{arith}
use mathlib.Core.Path.{◌≡◌, refl, sym, ap, ap₂, ◌∙◌}
use mathlib.Core.Bool.{Bool, true, false, ◌&&◌, and-false, and-eq-true_iff}
use mathlib.Core.Option.{Option, none, some, map, none-ne-some}
use mathlib.Core.List.{List, [], ◌∷◌}
use lib.ListN.{length, take, drop, length-drop}
use lib.Dec.{eqb}
use borrow.Author.Tests.{eqb-true, eq-eqb, ne_eqb}
use lib.Seq.{length-take-le}
use Rattle.formula.specs.Answers.{same_bytes}
use Rattle.formula.proofs.ByteLaws.{same_refl, same_true, same-lengths}
use Rattle.calculus.specs.Judgement.{Judgement, Step, same_judgement}
use Rattle.calculus.specs.Table.{Pred, predicate}
use Rattle.calculus.specs.Rules.{step_at, judgement_at}
use Rattle.calculus.specs.Record.{operand_bytes, FormedFrom}
use Rattle.calculus.specs.Emit.{here, find}
use Rattle.calculus.proofs.Fields.{Allowed, operands-injective}
use Rattle.kinds.specs.Kinds.{number_of, predicate_of}
use Rattle.kinds.proofs.KindLaws.{numbered}
use Rattle.ledger.specs.Ledger.{steps_of, place_of, Points}
use Rattle.ledger.proofs.PointLaws.{inside, points-operands}
use Rattle.std.specs.Prelude.{Ok, Err}
use Rattle.index.specs.Finding.{same_step, first, find_bytes, found_as}

-- Whether a step has the predicate and the operands.
module _ (q : ℕ) (x : List ℕ) (s : Step) where
  pub other-predicate : (number_of (predicate s.judgement) ≡ q → ⊥) → same_step q x s ≡ false
  other-predicate h = ap (λ (t : Bool). t && same_bytes (operand_bytes s.judgement) x) (ne_eqb _ _ h)

  pub same-predicate : number_of (predicate s.judgement) ≡ q → same_step q x s ≡ same_bytes (operand_bytes s.judgement) x
  same-predicate h = ap (λ (t : Bool). t && same_bytes (operand_bytes s.judgement) x) (eq-eqb _ _ h)

-- A step whose record does not end with the bytes has other operands.
module _ {l : List ℕ} {step at : ℕ} (p : Points l step at) {end : ℕ} (e : end ≡ place_of (steps_of l) (suc step)) (x : List ℕ) where
  other-operands : same_bytes (operand_bytes (judgement_at (steps_of l) step)) x ≡ false → (q : ℕ) → same_step q x (step_at (steps_of l) step) ≡ false
  other-operands h q = ap (λ (b : Bool). eqb (number_of (predicate (judgement_at (steps_of l) step))) q && b) h ∙ and-false (eqb (number_of (predicate (judgement_at (steps_of l) step))) q)

  -- Where the operands begin.
  start : ℕ
  start = at + 6 + 4 * length (step_at (steps_of l) step).references

  operands-are : take (end - start) (drop start l) ≡ operand_bytes (judgement_at (steps_of l) step)
  unfolding start
  operands-are = points-operands p start end refl e

  operands-long : start + length (operand_bytes (judgement_at (steps_of l) step)) ≡ end
  unfolding start
  operands-long =
      let i = inside p in
      let n : length (take (end - start) (drop start l)) ≡ end - start = length-take-le (end - start) (drop start l) (omega (arith, length-drop start l, i.operands, i.whole, e)) in
      omega (arith, ap length operands-are, n, i.operands, e)

  pub ends-early : end - at < length x → (q : ℕ) → same_step q x (step_at (steps_of l) step) ≡ false
  unfolding start
  ends-early h = other-operands (same-lengths (operand_bytes (judgement_at (steps_of l) step)) x (λ i. omega (arith, operands-long, i, h)))

  pub ends-unlike : (m : ℕ) → m ≡ length x → same_bytes (take (end - (end - m)) (drop (end - m) l)) x ≡ false → (q : ℕ) → same_step q x (step_at (steps_of l) step) ≡ false
  ends-unlike m n h = other-operands (go (same_bytes (operand_bytes (judgement_at (steps_of l) step)) x) refl)
    where
      go : (b : Bool) → same_bytes (operand_bytes (judgement_at (steps_of l) step)) x ≡ b → b ≡ false
      go false i = refl
      go true i =
          let y : operand_bytes (judgement_at (steps_of l) step) ≡ x = same_true (operand_bytes (judgement_at (steps_of l) step)) x i in
          let k : end - m ≡ start = omega (arith, operands-long, n, ap length y) in
          let z : take (end - (end - m)) (drop (end - m) l) ≡ x = ap (λ (a : ℕ). take (end - a) (drop a l)) k ∙ operands-are ∙ y in
          sym (same_refl x) ∙ ap (λ (w : List ℕ). same_bytes w x) (sym z) ∙ h

-- A number tells its predicate.
number-injective : (p q : Pred) → number_of p ≡ number_of q → p ≡ q
number-injective p q e = sym (numbered p).0 ∙ ap predicate_of e ∙ (numbered q).0

-- Equal predicate and operands are an equal judgement, of those that a ledger may hold.
same_step-by : (j : Judgement) (s : Step) → Allowed j → Allowed s.judgement → (d : Dec (s.judgement ≡ j)) (o p : Option ℕ) → o ≡ p
    → first (same_step (number_of (predicate j)) (operand_bytes j) s) o ≡ here d p
same_step-by j s a b (yes e) o p h =
    let n : number_of (predicate s.judgement) ≡ number_of (predicate j) = ap (λ (x : Judgement). number_of (predicate x)) e in
    let m : same_bytes (operand_bytes s.judgement) (operand_bytes j) ≡ true = ap (λ (x : Judgement). same_bytes (operand_bytes x) (operand_bytes j)) e ∙ same_refl (operand_bytes j) in
    ap₂ (λ (x y : Bool). first (x && y) o) (eq-eqb (number_of (predicate s.judgement)) (number_of (predicate j)) n) m
same_step-by j s a b (no e) o p h = go (same_step (number_of (predicate j)) (operand_bytes j) s) refl
  where
    go : (t : Bool) → same_step (number_of (predicate j)) (operand_bytes j) s ≡ t → first t o ≡ map (λ n. suc n) p
    go true i =
        let k = (and-eq-true_iff (eqb (number_of (predicate s.judgement)) (number_of (predicate j))) (same_bytes (operand_bytes s.judgement) (operand_bytes j))).0 i in
        absurd (e (operands-injective s.judgement j b a (number-injective (predicate s.judgement) (predicate j) (eqb-true _ _ k.0)) (same_true (operand_bytes s.judgement) (operand_bytes j) k.1)))
    go false i = ap (map (λ n. suc n)) h

pub find-same : (j : Judgement) → Allowed j → (k : ℕ) (L : List Step) → FormedFrom k L → find_bytes (number_of (predicate j)) (operand_bytes j) L ≡ find j L
unfolding find_bytes find
find-same j a k [] f = refl
find-same j a k (s ∷ L) f = same_step-by j s a f.0.limits (same_judgement s.judgement j) _ _ (find-same j a (suc k) L f.1)

-- What was found, as it is answered.
pub found_some : (o : Option ℕ) (n i : ℕ) → Ok i ≡ found_as o n → o ≡ some i
found_some none n i e = absurd (let z : ◌≡◌ {A = ℕ} 0 1 = cc in omega arith)
found_some (some k) n i e = let z : k ≡ i = cc in ap some z

pub found_none : (o : Option ℕ) (n i : ℕ) → Err i ≡ found_as o n → (o ≡ none) × (i ≡ n)
found_none none n i e = (refl, cc)
found_none (some k) n i e = absurd (let z : ◌≡◌ {A = ℕ} 0 1 = cc in omega arith)

-- What was found is one of the steps.
pub find-inside : (p : ℕ) (o : List ℕ) (L : List Step) (i : ℕ) → find_bytes p o L ≡ some i → i < length L
unfolding find_bytes
find-inside p o [] i e = absurd (none-ne-some i e)
find-inside p o (s ∷ L) i e = go (find-inside p o L) (same_step p o s) (find_bytes p o L) refl e
  where
    go : ((m : ℕ) → find_bytes p o L ≡ some m → m < length L) → (t : Bool) (r : Option ℕ) → find_bytes p o L ≡ r → first t r ≡ some i → i < length (s ∷ L)
    go f true r h k = let z : 0 ≡ i = cc in omega arith
    go f false none h k = absurd (none-ne-some i k)
    go f false (some m) h k = let z : suc m ≡ i = cc in omega (arith, f m h)
