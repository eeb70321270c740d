-- What the readers answer, and what they leave in the lent slices.
use Rattle.std.specs.Prelude.{ℕ, ◌≡◌, ◌&&◌, Result, Ok, Err, List, leb, length}
use Rattle.std.proofs.lemmas.List.Edits.{sets}
use Rattle.formula.specs.declared.Sort.{Sort}
use Rattle.formula.specs.declared.Sort.TheVariants.{Faces}
use Rattle.formula.specs.Bytes.{encode}
use Rattle.formula.specs.Answers.{pick}
use Rattle.refusals.specs.declared.Refusal.{Refusal}
use Rattle.refusals.specs.declared.Refusal.TheVariants.{ShortOutput}
use Rattle.refusals.specs.Refusals.{map}
use Rattle.text.specs.Reading.{read_formula, Claimed, read_claim}
use Rattle.text.specs.declared.Claim.{Claim}

-- A length, or a refusal, and the output's bytes.
pub record Delivered : Type 0 where
  pub answer : Result ℕ Refusal
  pub output : List ℕ

-- What was made stands in front of the output where it fits; else 6, and every byte stays.
abbrev pub delivered : Result (List ℕ) Refusal → List ℕ → Delivered
delivered (Err e) out = record { answer = Err e; output = out }
delivered (Ok x) out = pick (leb (length x) (length out)) (record { answer = Ok (length x); output = sets out 0 x }) (record { answer = Err ShortOutput; output = out })

-- The answer and every byte of the output are those for the formula that the text is.
pub record ReadsInto (s : Sort) (text out : List ℕ) (r : Result ℕ Refusal) (out' : List ℕ) : Type 0 where
  pub equal : delivered (map (encode s) (read_formula s text)) out ≡ record { answer = r; output = out' }

-- d and the lengths of the two faces, or a refusal, and the bytes of both outputs.
pub record BothDelivered : Type 0 where
  pub answer : Result Claim Refusal
  pub left : List ℕ
  pub right : List ℕ

-- The faces x and y stand in front of the outputs where both fit; else 6, and every byte of both stays.
abbrev pub both_put : ℕ → List ℕ → List ℕ → List ℕ → List ℕ → BothDelivered
both_put d x y a b =
    pick (leb (length x) (length a) && leb (length y) (length b))
    (record { answer = Ok (record { d = d; left = length x; right = length y }); left = sets a 0 x; right = sets b 0 y })
    (record { answer = Err ShortOutput; left = a; right = b })

-- What is delivered of a claim.
abbrev pub both_delivered : Result Claimed Refusal → List ℕ → List ℕ → BothDelivered
both_delivered (Err e) a b = record { answer = Err e; left = a; right = b }
both_delivered (Ok c) a b = both_put c.dimensions (encode Faces c.left) (encode Faces c.right) a b

-- The answer and every byte of both outputs are those for the claim that the text is.
pub record ReadsClaim (text a b : List ℕ) (r : Result Claim Refusal) (a' b' : List ℕ) : Type 0 where
  pub equal : both_delivered (read_claim text) a b ≡ record { answer = r; left = a'; right = b' }
