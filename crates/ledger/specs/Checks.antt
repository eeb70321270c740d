-- What the check of a ledger's bytes answers.
use Rattle.std.proofs.Math.Option.{Option, none, some}
use Rattle.std.specs.Prelude.{List, ℕ, length, Result, Ok, Err}
use Rattle.refusals.specs.declared.Refusal.{Refusal}
use Rattle.refusals.specs.declared.Refusal.TheVariants.{IllFormedLedger}
use Rattle.formula.specs.Bytes.{wholly}
use Rattle.calculus.specs.Judgement.{Step}
use Rattle.calculus.specs.Parse.{read_steps}

-- How many steps were read, or refusal 1.
abbrev pub step_count : Option (List Step) → Result ℕ Refusal
step_count none = Err IllFormedLedger
step_count (some L) = Ok (length L)

-- For a private contract: how many steps' records fill a list, or refusal 1.
unfoldable pub records_in : List ℕ → Result ℕ Refusal
records_in l = step_count (wholly (read_steps (length l) 0 l))
