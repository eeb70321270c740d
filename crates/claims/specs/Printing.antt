-- For private contracts, and for the program: a claim asked, and the lines of a ledger page by page.
use Rattle.std.specs.Prelude.{ℕ, ◌-◌, ◌≤◌, ◌<◌, ◌≡◌, Result, Ok, List, ◌++◌, length, take, drop}
use Rattle.calculus.specs.Record.{max_ledger}
use Rattle.ledger.specs.Ledger.{steps_of, place_of, Led}
use Rattle.replies.specs.Replying.{said}
use Rattle.refusals.specs.declared.Refusal.{Refusal}
use Rattle.writing.specs.Writing.{Wrote}
use Rattle.claims.specs.Facesteps.{first_line, line_claim, asked, lines_from, verdict_text}
use Rattle.claims.specs.declared.Page.{Page}

-- What was asked is answered, and the ledger is left, as for the first line of the input.
pub record Asks (input : List ℕ) (r : Result ℕ Refusal) (l' : List ℕ) : Type 0 where
  pub equal : asked (line_claim (first_line input)) ≡ record { answer = said r; ledger = l' }
  pub led : Led l'
  pub small : (n : ℕ) → r ≡ Ok n → n < max_ledger

-- The lines of a ledger, and behind them the answer.
abbrev pub listed : List ℕ → Result ℕ Refusal → List ℕ
listed l a = lines_from 0 (steps_of l) ++ verdict_text (said a)

-- A place among the records: before a step, or behind the last.
pub record Among (l : List ℕ) (step at : ℕ) : Type 0 where
  pub led : Led l
  pub inside : step ≤ length (steps_of l)
  pub place : at ≡ place_of (steps_of l) step

-- The lines from step i up to step k.
abbrev pub lines_to : List ℕ → ℕ → ℕ → List ℕ
lines_to l i k = lines_from i (take (k - i) (drop i (steps_of l)))

-- A page: the lines from a step on up to another stand in front of the output, at least one where there is one.
pub record Pages (l : List ℕ) (step : ℕ) (out : List ℕ) (r : Page) (out' : List ℕ) : Type 0 where
  pub among : Among l r.step r.at
  pub forward : step ≤ r.step
  pub further : step < length (steps_of l) → step < r.step
  pub wrote : Wrote (lines_to l step r.step) out 0 r.len out'
  pub fits : r.len ≤ length out
