-- Both ways of answering tell apart what calls and desk can answer.
use mathlib.Core.Path.{◌≡◌, refl, sym, ap, ◌∙◌}
use mathlib.Core.List.{[]}
use Prim.Native.Nat.{ℕ, ◌≤◌, ◌<◌}
use native.Mathlib.Omega.{arith}
use Rattle.calculus.specs.Rules.{pass, fail}
use Rattle.calculus.specs.Record.{max_ledger}
use Rattle.refusals.specs.declared.Refusal.{Refusal}
use Rattle.refusals.specs.Refusals.{number}
use Rattle.calculus.specs.Door.{answered, refused}
use Rattle.calculus.specs.Desk.{unreadable, judged}
use Rattle.calculus.proofs.Doors.{answer-no-refusal}
use Rattle.refusals.proofs.Numbers.{number-range}
use Rattle.demand.specs.Answering.{Answering, c-numbers, enums}

pub record Tells (w : Answering) : Type 0 where
  -- A yes is yes with its number alone, and a refusal is none.
  pub yes : (n : ℕ) → n < max_ledger → w.Yes n (w.answer (answered n []))
  pub yes-one : (n m : ℕ) → w.Yes m (w.answer (answered n [])) → m ≡ n
  pub yes-no : (e : Refusal) (m : ℕ) → w.Yes m (w.answer (refused e)) → ⊥
  -- A refusal is that with its number alone, and a yes is none.
  pub no : (e : Refusal) → w.Refused (number e) (w.answer (refused e))
  pub no_one : (e : Refusal) (q : ℕ) → q ≤ 9 → w.Refused q (w.answer (refused e)) → number e ≡ q
  pub no-yes : (n q : ℕ) → n < max_ledger → q ≤ 9 → w.Refused q (w.answer (answered n [])) → ⊥
  -- n steps passed are n alone; refusals 1 and 10 are none.
  pub passed : (n : ℕ) → n ≤ max_ledger → w.Passed n (w.verdict (judged (pass n)))
  pub passed-one : (n m : ℕ) → w.Passed m (w.verdict (judged (pass n))) → m ≡ n
  pub passed-ill : (m : ℕ) → w.Passed m (w.verdict unreadable) → ⊥
  pub passed-fail : (n m : ℕ) → n < max_ledger → w.Passed m (w.verdict (judged (fail n))) → ⊥

pub c-numbers-tell : Tells c-numbers
c-numbers-tell = record {
  yes = λ n b. (omega (arith, b), refl);
  yes-one = λ n m h. sym h.1;
  yes-no = λ e m h. omega (arith, h.0, number-range e);
  no = λ e. refl;
  no_one = λ e q b h. omega (arith, b, h, number-range e);
  no-yes = λ n q a b h. omega (arith, a, b, h);
  passed = λ n b. (omega (arith, b), refl);
  passed-one = λ n m h. sym h.1;
  passed-ill = λ m h. omega (arith, h.0);
  passed-fail = λ n m b h. omega (arith, b, h.0);
}

pub enums-tell : Tells enums
enums-tell = record {
  yes = λ n b. refl;
  yes-one = λ n m h. cc;
  yes-no = λ e m h. answer-no-refusal (sym h);
  no = λ e. (e, refl, refl);
  no_one = λ e q b h. let x : e ≡ h.0 = cc in ap number x ∙ h.1;
  no-yes = λ n q a b h. answer-no-refusal h.2;
  passed = λ n b. refl;
  passed-one = λ n m h. cc;
  passed-ill = λ m h. let z : ◌≡◌ {A = ℕ} 0 1 = cc in omega arith;
  passed-fail = λ n m b h. let z : ◌≡◌ {A = ℕ} 0 1 = cc in omega arith;
}
