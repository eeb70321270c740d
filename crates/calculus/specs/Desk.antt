-- The step desk on a ledger's bytes (document 01, "Step desk").
use Rattle.std.specs.Prelude.{◌≡◌, List, ℕ}
use Rattle.std.proofs.Math.Option.{none, some}
use Rattle.calculus.specs.Judgement.{Step}
use Rattle.calculus.specs.Rules.{Verdict, Judges}
use Rattle.calculus.specs.Parse.{read_ledger}

-- The desk's answer: refusal 1, or its verdict on the steps: how many passed, or refusal 10 with the lowest that does not follow.
pub data DeskAnswer : Type 0 where
  unreadable : DeskAnswer
  judged : Verdict → DeskAnswer

-- What the desk answers of bytes: refusal 1 where they are no ledger, else the verdict that is right for their steps. There is exactly one (`desk-exists`, `desk-unique` in proofs/Desk).
pub data DeskSays (l : List ℕ) : DeskAnswer → Type 0 where
  no-ledger : read_ledger l ≡ none → DeskSays l unreadable
  on-steps : (L : List Step) {v : Verdict} → read_ledger l ≡ some L → Judges L v → DeskSays l (judged v)

-- r is the desk's answer in the terms of f.
pub record DeskGives {A : Type 0} (f : DeskAnswer → A) (l : List ℕ) (r : A) : Type 0 where
  pub answer : DeskAnswer
  pub says : DeskSays l answer
  pub given : r ≡ f answer
