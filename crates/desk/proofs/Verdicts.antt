-- What an answer of the step desk says of the bytes. Each theorem is about any r that the contract of `step_desk` allows.
use mathlib.Core.Path.{◌≡◌, refl, sym, ap, ◌∙◌, subst}
use mathlib.Core.Option.{none, some}
use mathlib.Core.List.{List}
use Prim.Native.Nat.{ℕ, ◌<◌}
use native.Mathlib.Omega.{arith}
use lib.ListN.{length}
use Rattle.calculus.specs.Judgement.{Step}
use Rattle.calculus.specs.Rules.{step_at, judgement_at, Follows, Valid, passes, fails}
use Rattle.calculus.specs.Truth.{True}
use Rattle.calculus.specs.Parse.{read_ledger}
use Rattle.calculus.specs.Desk.{DeskAnswer, DeskSays, no-ledger, on-steps, DeskGives}
use Rattle.calculus.proofs.Sound.{valid-true}
use Rattle.calculus.proofs.Desk.{Up}
use Rattle.desk.specs.Verdicts.{answer_as, in_document}
use Rattle.desk.specs.declared.Verdict.{Verdict as DeskVerdict}
use Rattle.desk.specs.declared.Verdict.TheVariants.{Ill, Fails, Passes}

-- The three cases.
data Seen (l : List ℕ) : DeskVerdict → Type 0 where
  ill : read_ledger l ≡ none → Seen l Ill
  failed : {n : ℕ} (L : List Step) → read_ledger l ≡ some L → n < length L → Up L n → (Follows L n (step_at L n) → ⊥) → Seen l (Fails n)
  passed : {n : ℕ} (L : List Step) → read_ledger l ≡ some L → length L ≡ n → Valid L → Seen l (Passes n)

seen : {l : List ℕ} {a : DeskAnswer} → DeskSays l a → Seen l (answer_as a)
seen (no-ledger e) = ill e
seen (on-steps L e (passes v)) = passed L e refl v
seen (on-steps L e (fails b h f)) = failed L e b h f

-- The bytes read as n steps, and every judgement is true.
pub record AllTrue (l : List ℕ) (n : ℕ) : Type 0 where
  pub steps : List Step
  pub reads : read_ledger l ≡ some steps
  pub count : length steps ≡ n
  pub truth : (i : ℕ) → i < n → True (judgement_at steps i)

-- The bytes read as steps of which n is the lowest that does not follow.
pub record LowestFailing (l : List ℕ) (n : ℕ) : Type 0 where
  pub steps : List Step
  pub reads : read_ledger l ≡ some steps
  pub inside : n < length steps
  pub lower : (j : ℕ) → j < n → Follows steps j (step_at steps j)
  pub here : Follows steps n (step_at steps n) → ⊥

module _ (l : List ℕ) {r : DeskVerdict} (g : DeskGives answer_as l r) where
  which : Seen l r
  which = subst (Seen l) (sym g.given) (seen g.says)

  -- Where the desk passes n steps, there are n and each judgement is true, whoever wrote them.
  pub passes-true : {n : ℕ} → r ≡ Passes n → AllTrue l n
  passes-true {n} h = go which h
    where
      go : {q : DeskVerdict} → Seen l q → q ≡ Passes n → AllTrue l n
      go (ill z) h = absurd (let z : ◌≡◌ {A = ℕ} 0 1 = cc in omega arith)
      go (failed L z b up f) h = absurd (let z : ◌≡◌ {A = ℕ} 0 1 = cc in omega arith)
      go (passed {n = m} L z c v) h = let d : m ≡ n = cc in record { steps = L; reads = z; count = c ∙ d; truth = λ i b. valid-true v i (omega arith) }

  -- Where it answers refusal 10 with n, all steps below n follow and n does not.
  pub fails-lowest : {n : ℕ} → r ≡ Fails n → LowestFailing l n
  fails-lowest {n} h = go which h
    where
      go : {q : DeskVerdict} → Seen l q → q ≡ Fails n → LowestFailing l n
      go (ill z) h = absurd (let z : ◌≡◌ {A = ℕ} 0 1 = cc in omega arith)
      go (failed {n = m} L z b up f) h =
          let d : m ≡ n = cc in
          subst (LowestFailing l) d (record { steps = L; reads = z; inside = b; lower = up; here = f })
      go (passed L z c v) h = absurd (let z : ◌≡◌ {A = ℕ} 0 1 = cc in omega arith)

  -- It answers refusal 1 exactly where the bytes are no ledger.
  pub ill-unread : r ≡ Ill → read_ledger l ≡ none
  ill-unread h = go which h
    where
      go : {q : DeskVerdict} → Seen l q → q ≡ Ill → read_ledger l ≡ none
      go (ill z) h = z
      go (failed L z b up f) h = absurd (let z : ◌≡◌ {A = ℕ} 0 1 = cc in omega arith)
      go (passed L z c v) h = absurd (let z : ◌≡◌ {A = ℕ} 0 1 = cc in omega arith)

  pub unread-ill : read_ledger l ≡ none → r ≡ Ill
  unread-ill h = go which
    where
      go : {q : DeskVerdict} → Seen l q → q ≡ Ill
      go (ill z) = refl
      go (failed L z b up f) = absurd (let z : ◌≡◌ {A = ℕ} 0 1 = cc in omega arith)
      go (passed L z c v) = absurd (let z : ◌≡◌ {A = ℕ} 0 1 = cc in omega arith)

  -- It passes every ledger whose steps all follow, with the number of its steps.
  pub valid-passes : (L : List Step) → read_ledger l ≡ some L → Valid L → r ≡ Passes (length L)
  valid-passes L h v = go which
    where
      go : {q : DeskVerdict} → Seen l q → q ≡ Passes (length L)
      go (ill z) = absurd (let z : ◌≡◌ {A = ℕ} 0 1 = cc in omega arith)
      go (failed {n} M z b up f) = let d : M ≡ L = cc in absurd (subst (λ (K : List Step). n < length K → (Follows K n (step_at K n) → ⊥) → ⊥) (sym d) (λ c g. g (v n c)) b f)
      go (passed M z c w) = let d : M ≡ L = cc in ap Passes (sym c ∙ ap length d)

-- Document 01's number and values tell the answers apart.
pub said-one : (r q : DeskVerdict) → in_document r ≡ in_document q → r ≡ q
said-one Ill Ill h = refl
said-one Ill (Fails n) h = absurd (let z : ◌≡◌ {A = ℕ} 0 1 = cc in omega arith)
said-one Ill (Passes n) h = absurd (let z : ◌≡◌ {A = ℕ} 0 1 = cc in omega arith)
said-one (Fails m) Ill h = absurd (let z : ◌≡◌ {A = ℕ} 0 1 = cc in omega arith)
said-one (Fails m) (Fails n) h = cc
said-one (Fails m) (Passes n) h = absurd (let z : ◌≡◌ {A = ℕ} 0 1 = cc in omega arith)
said-one (Passes m) Ill h = absurd (let z : ◌≡◌ {A = ℕ} 0 1 = cc in omega arith)
said-one (Passes m) (Fails n) h = absurd (let z : ◌≡◌ {A = ℕ} 0 1 = cc in omega arith)
said-one (Passes m) (Passes n) h = cc
