-- What the writer of a step's line answers, and what it leaves in the lent slice.
use Rattle.std.specs.Prelude.{ℕ, ◌≡◌, Result, Ok, Err, List, [], ltb, length}
use Rattle.std.proofs.Math.Option.{Option, none, some}
use Rattle.formula.specs.Answers.{pick}
use Rattle.calculus.specs.Judgement.{Step}
use Rattle.calculus.specs.Rules.{step_at}
use Rattle.calculus.specs.Parse.{read_ledger}
use Rattle.refusals.specs.declared.Refusal.{Refusal}
use Rattle.refusals.specs.declared.Refusal.TheVariants.{IllFormedLedger}
use Rattle.text.specs.Answers.{delivered}
use Rattle.listing.specs.Lines.{line_text}

-- The line of step i among those that were read: 1 where the bytes are no ledger, nothing past the end.
abbrev pub line_of : Option (List Step) → ℕ → Result (List ℕ) Refusal
line_of none i = Err IllFormedLedger
line_of (some L) i = Ok (pick (ltb i (length L)) (line_text i (step_at L i)) [])

-- The answer and every byte of the output are those for the line of step i of the ledger l; 6 where it does not fit.
pub record WritesStep (l : List ℕ) (i : ℕ) (out : List ℕ) (r : Result ℕ Refusal) (out' : List ℕ) : Type 0 where
  pub equal : delivered (line_of (read_ledger l) i) out ≡ record { answer = r; output = out' }
