-- What the calls answer, in the terms of the calculus.
use Rattle.std.specs.Prelude.{◌≡◌, List, [], ◌∷◌, ℕ, Result, Ok, Err}
use Rattle.formula.specs.declared.Size.{Size}
use Rattle.calculus.specs.Door
use Rattle.calculus.specs.Door.{Call, Measure, answered, refused, reply}
use Rattle.refusals.specs.declared.Refusal.{Refusal}
use Rattle.replies.specs.declared.Made.{Made}

-- What is told of a result.
abbrev pub measure_of : Size → Measure
measure_of z = record { bytes = z.len; nodes = z.nodes; bound = z.bound }

-- The answer of a call without results, with one, and with two of one size.
abbrev pub said : Result ℕ Refusal → Door.Answer
said (Ok n) = answered n []
said (Err e) = refused e

abbrev pub said_one : Result Made Refusal → Door.Answer
said_one (Ok m) = answered m.step (measure_of m.size ∷ [])
said_one (Err e) = refused e

abbrev pub said_both : Result Made Refusal → Door.Answer
said_both (Ok m) = answered m.step (measure_of m.size ∷ measure_of m.size ∷ [])
said_both (Err e) = refused e

-- The answer of a call on the bytes l, and every lent byte after it, are those of the model.
pub record Replies (c : Call) (l : List ℕ) (a : Door.Answer) (l' : List ℕ) (outs : List (List ℕ)) : Type 0 where
  pub equal : reply c l ≡ record { answer = a; ledger = l'; outputs = outs }
