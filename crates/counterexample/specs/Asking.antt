-- What the questions before the search find out. These definitions serve the contracts of private functions.
use Rattle.std.specs.Prelude.{ℕ, ◌≤◌, ◌≡◌, max, List, length, Result}
use Rattle.refusals.specs.declared.Refusal.{Refusal}
use Rattle.refusals.specs.Refusals.{of_one}
use Rattle.formula.specs.Bytes.{encode_face, bound_face}
use Rattle.counterexample.specs.Answers.{Claim, numbered, admitted, ShowsFor}

-- Two faces, short enough and with dimensions below d, and an output of d bytes or more.
pub record Sought (d : ℕ) (a b out : List ℕ) : Type 0 where
  pub claim : Claim
  pub left : a ≡ encode_face claim.left
  pub goal : b ≡ encode_face claim.goal
  pub low : bound_face claim.left ≤ d
  pub high : bound_face claim.goal ≤ d
  pub few : d ≤ 255
  pub fits : d ≤ length out
  pub short : length a ≤ 1024

-- Two faces within the limits, and the least number above all their dimensions.
pub record Sides (a b : List ℕ) (n : ℕ) : Type 0 where
  pub claim : Claim
  pub left : a ≡ encode_face claim.left
  pub goal : b ≡ encode_face claim.goal
  pub bound : n ≡ max (bound_face claim.left) (bound_face claim.goal)
  pub short : length a ≤ 1024

-- The answer and the output are those for the two faces that the bytes are, after some questions.
pub record Faced (d : ℕ) (a b out : List ℕ) (ask : Claim → Result Claim Refusal) (r : Result ℕ Refusal) (out' : List ℕ) : Type 0 where
  pub it : (c : Claim) → a ≡ encode_face c.left → b ≡ encode_face c.goal → ShowsFor d out (ask c) r out'

-- Question 4 of d, 6 and 8.
abbrev pub questioned : ℕ → List ℕ → Claim → Result Claim Refusal
questioned d out c = of_one (admitted d out) (numbered d c.left c.goal)
