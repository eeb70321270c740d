-- How a run is answered.
use Rattle.std.specs.Prelude.{◌≡◌, List, ◌++◌, ℕ, length, drop, Result, Ok, Err}
use Rattle.formula.specs.declared.Size.{Size}
use Rattle.emission.specs.Emitting.{Undone}
use Rattle.steps.specs.declared.Stop.TheVariants.{NotBelow, NotImplied, Full}
use Rattle.steps.specs.Running.{Ran}
use Rattle.refusals.specs.declared.Refusal.{Refusal}
use Rattle.refusals.specs.declared.Refusal.TheVariants.{FullLedger, NotBelow as not-below, NotImplied as not-implied}
use Rattle.replies.specs.declared.Made.{Made}

-- The answer, and the ledger: as the run left it, or back to its first bytes where the run was out of room.
abbrev pub EndingBy : List ℕ → ℕ → Ran → Result ℕ Refusal → List ℕ → Type 0
EndingBy l end (Ok n) a l' = (a ≡ Ok n) × (l' ≡ l)
EndingBy l end (Err NotBelow) a l' = (a ≡ Err not-below) × (l' ≡ l)
EndingBy l end (Err NotImplied) a l' = (a ≡ Err not-implied) × (l' ≡ l)
EndingBy l end (Err Full) a l' = (a ≡ Err FullLedger) × Undone l end l'

pub record Ending (l : List ℕ) (end : ℕ) (r : Ran) (a : Result ℕ Refusal) (l' : List ℕ) : Type 0 where
  pub by : EndingBy l end r a l'

-- The answer with the size of the result.
abbrev pub made_by : Result ℕ Refusal → Size → Result Made Refusal
made_by (Ok n) z = Ok (record { step = n; size = z })
made_by (Err e) z = Err e

-- An output slice: the result in front, or all as it was where the call is refused.
abbrev pub out_by : Result ℕ Refusal → List ℕ → List ℕ → List ℕ
out_by (Ok n) x d = x ++ drop (length x) d
out_by (Err e) x d = d
