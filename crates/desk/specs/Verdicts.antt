-- What the step desk answers, and document 01's numbers for it.
use Rattle.std.specs.Prelude.{List, [], ◌∷◌, ℕ}
use Rattle.calculus.specs.Rules.{pass, fail}
use Rattle.refusals.specs.declared.Refusal.TheVariants.{IllFormedLedger, DoesNotFollow}
use Rattle.refusals.specs.Refusals.{number}
use Rattle.calculus.specs.Desk.{DeskAnswer, unreadable, judged, DeskGives}
use Rattle.desk.specs.declared.Verdict.{Verdict}
use Rattle.desk.specs.declared.Verdict.TheVariants.{Ill, Fails, Passes}

-- The calculus' answer as the code gives it.
abbrev pub answer_as : DeskAnswer → Verdict
answer_as unreadable = Ill
answer_as (judged (pass n)) = Passes n
answer_as (judged (fail n)) = Fails n

-- An answer in document 01's terms: values, or the number of a refusal and the values that come with it.
pub data Said : Type 0 where
  answered : List ℕ → Said
  refused : ℕ → List ℕ → Said

-- Document 01's number and values for each answer.
abbrev pub in_document : Verdict → Said
in_document Ill = refused (number IllFormedLedger) []
in_document (Fails n) = refused (number DoesNotFollow) (n ∷ [])
in_document (Passes n) = answered (n ∷ [])

-- The calculus' answer in document 01's terms.
abbrev pub said : DeskAnswer → Said
said unreadable = refused (number IllFormedLedger) []
said (judged (pass n)) = answered (n ∷ [])
said (judged (fail n)) = refused (number DoesNotFollow) (n ∷ [])

-- The code's answer is the calculus', and says the same in document 01's terms.
pub record Answers (l : List ℕ) (r : Verdict) : Type 0 where
  pub gives : DeskGives answer_as l r
  pub says : DeskGives said l (in_document r)
