-- How calls and desk answer: what differs between the C functions and the calls of `engine`.
use Rattle.std.specs.Prelude.{◌≡◌, [], ℕ, ◌<◌}
use Rattle.refusals.specs.declared.Refusal.{Refusal}
use Rattle.refusals.specs.Refusals.{number}
use Rattle.calculus.specs.Door
use Rattle.calculus.specs.Door.{answered}
use Rattle.calculus.specs.Desk.{DeskAnswer}
use Rattle.desk.specs.Verdicts.{answer_as}
use Rattle.desk.specs.declared.Verdict.{Verdict}
use Rattle.desk.specs.declared.Verdict.TheVariants.{Passes}
use Rattle.numbers.specs.Answers.{refused, desk_number, reply_number}

-- The answers of calls and of the desk, how each stands for the calculus' answer, and which of them are yes with step n, refusal q, and n steps passed.
pub record Answering : Type 1 where
  pub Answer : Type 0
  pub Verdict : Type 0
  pub answer : Door.Answer → Answer
  pub verdict : DeskAnswer → Verdict
  pub Yes : ℕ → Answer → Type 0
  pub Refused : ℕ → Answer → Type 0
  pub Passed : ℕ → Verdict → Type 0

-- As a signed 64-bit number it is n, and not negative.
abbrev pub Is : ℕ → ℕ → Type 0
Is n r = (r < 9223372036854775808) × (r ≡ n)

-- The C functions answer 64-bit numbers: a number that is not negative is a yes or how many steps passed, and refusal q is the bits of -q.
abbrev pub c-numbers : Answering
c-numbers = record {
  Answer = ℕ;
  Verdict = ℕ;
  answer = reply_number;
  verdict = desk_number;
  Yes = Is;
  Refused = λ q r. r ≡ refused q;
  Passed = Is;
}

-- The calls of `engine` answer enums, which are the calculus' answers by `said`, `said_one` and `said_both`; its desk answers `Verdict`.
abbrev pub enums : Answering
enums = record {
  Answer = Door.Answer;
  Verdict = Verdict;
  answer = λ x. x;
  verdict = answer_as;
  Yes = λ n x. x ≡ answered n [];
  Refused = λ q x. (e : Refusal) × (number e ≡ q) × (x ≡ Door.refused e);
  Passed = λ n v. v ≡ Passes n;
}
