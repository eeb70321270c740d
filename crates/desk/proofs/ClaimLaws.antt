-- The claims of a step and of its references, and that the rule on them says whether the step follows.
use mathlib.Core.Path.{◌≡◌, refl, sym, ap, ◌∙◌, subst}
use mathlib.Core.Bool.{Bool, true, false}
use mathlib.Core.List.{List, [], ◌∷◌, map}
use Prim.Native.Nat.{ℕ, zero, suc, ◌+◌, ◌-◌, ◌*◌, ◌≤◌, ◌<◌}
use native.Mathlib.Omega.{arith}
use native.Mathlib.Decide.{ℕ_discrete}
use lib.ListN.{length, get_or, set, take, replicate, length-replicate}
use lib.Seq.{length-take-le, get_or-set_same, get_or-set_other}
use Rattle.calculus.specs.Table.{predicate}
use Rattle.calculus.specs.Rules.{Rule, step_at, judgement_at, Follows}
use Rattle.kinds.specs.Kinds.{number_of}
use Rattle.kinds.proofs.KindLaws.{few-references}
use Rattle.ledger.specs.Ledger.{steps_of, place_of, Led, Points}
use Rattle.ledger.specs.Noting.{Noted}
use Rattle.ledger.proofs.LedgerLaws.{formed-at-0, below_one}
use Rattle.ledger.proofs.PointLaws.{inside, points-entry, points-operands}
use Rattle.ledger.proofs.NotingLaws.{noted-below}
use Rattle.rules.specs.declared.Claim.{Claim}
use Rattle.rules.specs.Standing.{Lies, AllStand, Decides, Ruled}
use Rattle.desk.specs.Walking.{Claimed, Filled, cited}

-- A step has at most three references.
pub few : {l : List ℕ} {step at : ℕ} → Points l step at → length (step_at (steps_of l) step).references < 4
few p = omega (arith, few-references _ _ (sym (points-entry p)))

-- Claims --------------------------------------------------------------------------------------------

pub claimed : {l : List ℕ} {step at : ℕ} → Points l step at → (c : Claim) → c.predicate ≡ number_of (predicate (judgement_at (steps_of l) step))
    → c.from ≡ at + 6 + 4 * length (step_at (steps_of l) step).references → c.to ≡ place_of (steps_of l) (suc step) → Claimed l c step
claimed {l} {step} q c e f g =
    let i = inside q in
    record {
      ordered = omega (arith, i.operands);
      within = omega (arith, i.whole);
      stands = record { named = e; bytes = points-operands q c.from c.to f g; limits = (formed-at-0 q.led step q.inside).limits };
    }

pub filled_one : {l : List ℕ} {i : ℕ} (numbers : List ℕ) (cs : List Claim) (c : Claim) → get_or numbers 0 0 ≡ i → ((d : Claim) → get_or cs 0 d ≡ c) → Claimed l c i → Filled l numbers 1 cs
filled_one {l} {i} numbers cs c e f h zero d b = subst (λ (k : ℕ). Claimed l (get_or cs 0 d) k) (sym e) (subst (λ (x : Claim). Claimed l x i) (sym (f d)) h)
filled_one numbers cs c e f h (suc j) d b = absurd (omega arith)

pub filled_more : {l : List ℕ} {i m : ℕ} (numbers : List ℕ) (cs : List Claim) (c : Claim) → m < length cs → get_or numbers m 0 ≡ i → Claimed l c i → Filled l numbers m cs → Filled l numbers (m + 1) (set cs m c)
filled_more {l} {i} {m} numbers cs c b e h f j d q = go (ℕ_discrete j m)
  where
    go : Dec (j ≡ m) → Claimed l (get_or (set cs m c) j d) (get_or numbers j 0)
    go (yes r) = rw (r, get_or-set_same cs m c d b, e) h
    go (no r) = rw (get_or-set_other cs m j c d r) (f j d (omega arith))

-- A reference, and the places up to it -----------------------------------------------------------------

module _ {l : List ℕ} {step at : ℕ} (p : Points l step at) (j i : ℕ) (q : j < length (step_at (steps_of l) step).references) (e : i ≡ get_or (step_at (steps_of l) step).references j 0) where
  earlier : i < step
  earlier = omega (arith, below_one step (step_at (steps_of l) step).references j (formed-at-0 p.led step p.inside).earlier q)

  pub reference-sought : {places : List ℕ} → Noted (steps_of l) step places → Led l × (i < length (steps_of l)) × Noted (steps_of l) (suc i) places
  reference-sought x = (p.led, omega (arith, earlier, p.inside), noted-below earlier x)

  pub reference-points : {s a : ℕ} → (s ≡ i) × (a ≡ place_of (steps_of l) i) → Points l s a
  reference-points f = record { led = p.led; inside = omega (arith, earlier, p.inside, f.0); place = f.1 ∙ ap (place_of (steps_of l)) (sym f.0) }

-- The reference j - 1 is number j of those that are cited.
pub cited-at : (l : List ℕ) (step j s i : ℕ) → 1 ≤ j → s ≡ i → i ≡ get_or (step_at (steps_of l) step).references (j - 1) 0 → get_or (cited (steps_of l) step) j 0 ≡ s
cited-at l step zero s i b e f = absurd (omega arith)
cited-at l step (suc j) s i b e f = let z : suc j - 1 ≡ j = omega arith in sym (e ∙ f ∙ ap (λ (k : ℕ). get_or (step_at (steps_of l) step).references k 0) z)

-- The rule decides -------------------------------------------------------------------------------------

pub claims-lie : (l numbers : List ℕ) (cs : List Claim) → Filled l numbers (length cs) cs → Lies l cs
claims-lie l numbers cs f i d b = ((f i d b).ordered, (f i d b).within)

module _ (l : List ℕ) where
  all-stand : (is : List ℕ) (cs : List Claim) → length cs ≡ length is → Filled l is (length cs) cs → AllStand l cs (map (judgement_at (steps_of l)) is)
  all-stand [] [] e f = tt
  all-stand [] (c ∷ cs) e f = absurd (omega arith)
  all-stand (i ∷ is) [] e f = absurd (omega arith)
  all-stand (i ∷ is) (c ∷ cs) e f = ((f 0 c (omega arith)).stands, all-stand is cs (omega arith) (λ j d b. f (suc j) d (omega arith)))

  decides-as : {A B : Type 0} → (A → B) → (B → A) → (r : Bool) → Decides r A → Decides r B
  decides-as g h true d = g d
  decides-as g h false d = λ b. d (h b)

  pub follows-decided : {step at : ℕ} (p : Points l step at) (cs : List Claim) → length cs ≡ suc (length (step_at (steps_of l) step).references) → Filled l (cited (steps_of l) step) (length cs) cs
      → (kind : ℕ) → kind ≡ (step_at (steps_of l) step).kind → (r : Bool) → Ruled l kind cs r → Decides r (Follows (steps_of l) step (step_at (steps_of l) step))
  follows-decided {step} p cs n f kind e r h =
      let s = step_at (steps_of l) step in
      let js = map (judgement_at (steps_of l)) s.references in
      let d : Decides r (Rule kind js s.judgement) = h s.judgement js (all-stand (cited (steps_of l) step) cs n f) in
      decides-as (λ u. record { earlier = (formed-at-0 p.led step p.inside).earlier; rule = subst (λ (k : ℕ). Rule k js s.judgement) e u }) (λ u. subst (λ (k : ℕ). Rule k js s.judgement) (sym e) u.rule) r d

-- The first n of four claims, which are all that of the step.
pub four-length : (c : Claim) (n : ℕ) → n ≤ 4 → length (take n (replicate 4 c)) ≡ n
four-length c n h = length-take-le n (replicate 4 c) (omega (arith, length-replicate 4 c))

pub four-first : (c : Claim) (n : ℕ) (d : Claim) → 1 ≤ n → get_or (take n (replicate 4 c)) 0 d ≡ c
four-first c zero d h = absurd (omega arith)
four-first c (suc n) d h = refl
