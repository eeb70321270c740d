-- Demand 3, of both ways of answering.
use mathlib.Core.Path.{◌≡◌, refl, sym, ap, ◌∙◌, subst}
use mathlib.Core.Bool.{Bool, true, false}
use mathlib.Core.Option.{some}
use mathlib.Core.List.{List, Memᴰ}
use Prim.Native.Nat.{ℕ, zero, suc, ◌≤◌, ◌<◌}
use native.Mathlib.Omega.{arith}
use lib.Dec.{leb}
use lib.ListN.{length}
use borrow.Author.Tests.{leb-true, leb-false}
use Rattle.formula.specs.declared.Sort.TheVariants.{Faces}
use Rattle.formula.specs.Formula.{Face}
use Rattle.formula.specs.Bytes.{read_all}
use Rattle.calculus.specs.Judgement
use Rattle.calculus.specs.Judgement.{Step}
use Rattle.calculus.specs.Rules.{AllBelow, Valid, passes, fails}
use Rattle.calculus.specs.Record.{max_ledger, Holds}
use Rattle.calculus.specs.Parse.{read_ledger}
use Rattle.refusals.specs.declared.Refusal.TheVariants.{NotBelow, NotImplied}
use Rattle.refusals.specs.Refusals.{number}
use Rattle.calculus.specs.Door
use Rattle.calculus.specs.Door.{entails, reply}
use Rattle.calculus.specs.Demand.{empty, Lowest}
use Rattle.calculus.specs.Desk.{DeskAnswer, DeskSays, no-ledger, on-steps, DeskGives}
use Rattle.calculus.proofs.Sound.{valid-true}
use Rattle.calculus.proofs.Records.{read-ledger, ledger-read}
use Rattle.calculus.proofs.Doors
use Rattle.calculus.proofs.Demands.{Decided, yes-so, 8-so, 9-so, entails-decided, Fine, empty-fine, call-fine}
use Rattle.refusals.proofs.Numbers.{number-range}
use Rattle.exports.proofs.FitLaws.{step-low}
use Rattle.demand.specs.Answering.{Answering, c-numbers, enums}
use Rattle.demand.specs.Demand
use Rattle.demand.specs.Demand.{Called, Says, Trace, TrueSteps, Right, NotRefusedTo7, OfCalls, Demand3}
use mathlib.Core.List.Memᴰ
use Rattle.demand.proofs.Telling.{Tells, c-numbers-tell, enums-tell}

steps-few : {l : List ℕ} {L : List Step} → Holds l L → length L ≤ max_ledger
steps-few {L} h = go (length L) refl
  where
    go : (n : ℕ) → length L ≡ n → n ≤ max_ledger
    go zero e = omega arith
    go (suc n) e = omega (arith, step-low h {n = n} (omega (arith, e)))

-- A number above 7.
late : (m : ℕ) → (m ≤ 7 → ⊥) → 7 < m
late m h = go (leb m 7) refl
  where
    go : (b : Bool) → leb m 7 ≡ b → 7 < m
    go true e = absurd (h (leb-true m 7 e))
    go false e = leb-false m 7 e

module _ {w : Answering} (tells : Tells w) where
  -- The desk --------------------------------------------------------------------------------------

  true-steps : {l : List ℕ} (L : List Step) {n : ℕ} → read_ledger l ≡ some L → length L ≡ n → Valid L → TrueSteps l n
  true-steps L e c v = record { steps = L; reads = e; count = c; truth = λ i b. valid-true v i (omega (arith, b, c)) }

  passed-true : (l : List ℕ) → AllBelow 256 l → (v : w.Verdict) (n : ℕ) → DeskGives w.verdict l v → w.Passed n v → TrueSteps l n
  passed-true l b v n g p = go g.says (subst (w.Passed n) g.given p)
    where
      go : {a : DeskAnswer} → DeskSays l a → w.Passed n (w.verdict a) → TrueSteps l n
      go (no-ledger e) p = absurd (tells.passed-ill n p)
      go (on-steps L e (passes y)) p = true-steps L e (sym (tells.passed-one (length L) n p)) y
      go (on-steps L e (fails {i} c h f)) p = absurd (tells.passed-fail i n (step-low (ledger-read l L b e) c) p)

  desk-passes : {l : List ℕ} → Fine l → (v : w.Verdict) → DeskGives w.verdict l v → (n : ℕ) × w.Passed n v × TrueSteps l n
  desk-passes {l} f v g = go g.says g.given
    where
      go : {a : DeskAnswer} → DeskSays l a → v ≡ w.verdict a → (n : ℕ) × w.Passed n v × TrueSteps l n
      go (no-ledger e) p = absurd (let r = read-ledger f.holds in let z : ◌≡◌ {A = ℕ} 0 1 = cc in omega arith)
      go (on-steps L e (passes y)) p =
          let s : f.steps ≡ L = let r = read-ledger f.holds in cc in
          let few = subst (λ (K : List Step). length K ≤ max_ledger) s (steps-few f.holds) in
          (length L, subst (w.Passed (length L)) (sym p) (tells.passed (length L) few), true-steps L e refl y)
      go (on-steps L e (fails {i} c h x)) p =
          let s : f.steps ≡ L = let r = read-ledger f.holds in cc in
          absurd (x (subst Valid s f.valid i c))

  -- Entails ---------------------------------------------------------------------------------------

  -- An answer by what is the case is right.
  right_so : {d : ℕ} {a b : List ℕ} {α β : Face} {l : List ℕ} {L : List Step} {x : Door.Answer} → read_all Faces a ≡ some α → read_all Faces b ≡ some β → Holds l L → Decided d α β L x → Right w d a b (w.answer x) l
  right_so {d} {α = α} {β} {L = L} p q h (yes-so {n} t o) =
      let m = step-low h o.inside in
      record {
        left = α;
        goal = β;
        reads-left = p;
        reads-goal = q;
        steps = L;
        reads-steps = read-ledger h;
        yes_iff = (λ s. t, λ s. (n, tells.yes n m));
        lowest = λ k y. subst (Lowest (Judgement.entails d α β) L) (sym (tells.yes-one n k y)) o;
        8-iff = (λ y. absurd (tells.no-yes n 8 m (omega arith) y), λ s. absurd (s t.left t.right));
        else-9 = λ s. absurd (s t);
      }
  right_so {α} {β} {L} p q h (8-so s) = record {
    left = α;
    goal = β;
    reads-left = p;
    reads-goal = q;
    steps = L;
    reads-steps = read-ledger h;
    yes_iff = (λ y. absurd (tells.yes-no NotBelow y.0 y.1), λ t. absurd (s t.left t.right));
    lowest = λ k y. absurd (tells.yes-no NotBelow k y);
    8-iff = (λ y. s, λ y. tells.no NotBelow);
    else-9 = λ y z. absurd (z (tells.no NotBelow));
  }
  right_so {α} {β} {L} p q h (9-so i j s) = record {
    left = α;
    goal = β;
    reads-left = p;
    reads-goal = q;
    steps = L;
    reads-steps = read-ledger h;
    yes_iff = (λ y. absurd (tells.yes-no NotImplied y.0 y.1), λ t. absurd (s t.implied));
    lowest = λ k y. absurd (tells.yes-no NotImplied k y);
    8-iff = (λ y. absurd (let z = tells.no_one NotImplied 8 (omega arith) y in omega (arith, z)), λ y. absurd (y i j));
    else-9 = λ y z. tells.no NotImplied;
  }

  -- None of the refusals 1 to 7 as answered, so none of the calculus'.
  not-refused : (x : Door.Answer) → NotRefusedTo7 w (w.answer x) → Doors.NotRefusedTo7 x
  not-refused x u q e = late (number q) (λ p. u (number q) (number-range q).0 p (subst (λ (y : Door.Answer). w.Refused (number q) (w.answer y)) (sym e) (tells.no q)))

  -- What is demanded of a call.
  RightCall : Called w → Type 0
  RightCall c = (d : ℕ) (a b : List ℕ) → c.call ≡ entails d a b → NotRefusedTo7 w c.answer → Right w d a b c.answer c.ledger

  call-right : {l : List ℕ} {c : Called w} → Fine l → Says w l c → RightCall c
  unfolding RightCall
  call-right {l} {c} f h d a b e u =
      let x : c.answer ≡ w.answer (reply (entails d a b) l).answer = h.answer ∙ ap (λ (k : Door.Call). w.answer (reply k l).answer) e in
      let m : c.ledger ≡ (reply (entails d a b) l).ledger = h.ledger ∙ ap (λ (k : Door.Call). (reply k l).ledger) e in
      let r = entails-decided d a b l f.steps f.holds (not-refused (reply (entails d a b) l).answer (subst (NotRefusedTo7 w) x u)) in
      subst (λ (y : w.Answer). Right w d a b y c.ledger) (sym x) (subst (Right w d a b (w.answer (reply (entails d a b) l).answer)) (sym m) (right_so r.reads-left r.reads-goal r.holds r.decided))

  -- Lists of calls --------------------------------------------------------------------------------

  says-fine : {l : List ℕ} {c : Called w} → Says w l c → Fine l → Fine c.ledger
  says-fine {c} h f = subst Fine (sym h.ledger) (call-fine c.call f)

  trace-fine : {l l' : List ℕ} {cs : List (Called w)} → Trace w l cs l' → Fine l → Fine l'
  trace-fine Demand.none f = f
  trace-fine (Demand.then h t) f = trace-fine t (says-fine h f)

  trace-right : {l l' : List ℕ} {cs : List (Called w)} → Trace w l cs l' → Fine l → (c : Called w) → Memᴰ c cs → RightCall c
  trace-right Demand.none f c m = absurd (Memᴰ.not-nil m)
  trace-right (Demand.then h t) f c (Memᴰ.head e) = subst RightCall (sym e) (call-right f h)
  trace-right (Demand.then h t) f c (Memᴰ.tail m) = trace-right t (says-fine h f) c m

  of_calls : (n : ℕ) → 4 ≤ n → n ≤ max_ledger → (cs : List (Called w)) (l : List ℕ) → Trace w (empty n) cs l → OfCalls w cs l
  unfolding RightCall
  of_calls n p q cs l t =
      let f = empty-fine n p q in
      record { desk = desk-passes (trace-fine t f); entailments = trace-right t f }

  demanded : Demand3 w
  demanded = record { passed-true = passed-true; of_calls = of_calls }

-- Theorem 7: demand 3 of the C functions, and of the calls of `engine`.
pub demand-3 : Demand3 c-numbers
demand-3 = demanded c-numbers-tell

pub demand-3-engine : Demand3 enums
demand-3-engine = demanded enums-tell
