-- What is answered where the assignment behind a no is asked for (document 02, W1), and what is left in the lent slice.
use Rattle.std.specs.Prelude.{ℕ, ◌≡◌, ◌&&◌, List, leb, length, Result, Ok, Err}
use Rattle.std.proofs.Math.Option.{Option, none, some}
use Rattle.std.proofs.lemmas.List.Edits.{sets}
use Rattle.refusals.specs.declared.Refusal.{Refusal}
use Rattle.refusals.specs.declared.Refusal.TheVariants.{LargeDimension, ShortOutput, NotBelow, Implied}
use Rattle.refusals.specs.Refusals.{of_one, of_two}
use Rattle.formula.specs.Formula.{Face, Entails}
use Rattle.formula.specs.Bytes.{bound_face, max_bound}
use Rattle.formula.specs.Answers.{pick, operand}
use Rattle.formula.specs.declared.Sort.TheVariants.{Faces}
use Rattle.assignments.specs.Assignments.{Least}

-- The two faces that were asked about.
pub record Claim : Type 0 where
  pub left : Face
  pub goal : Face

-- Question 4 of d, once the operands keep it.
abbrev pub numbered : ℕ → Face → Face → Result Claim Refusal
numbered d a b = pick (leb d max_bound) (Ok (record { left = a; goal = b })) (Err LargeDimension)

-- Questions 6 and 8: the output has d bytes, and all dimensions are below d.
abbrev pub admitted : ℕ → List ℕ → Claim → Result Claim Refusal
admitted d out c = pick (leb d (length out)) (pick (leb (bound_face c.left) d && leb (bound_face c.goal) d) (Ok c) (Err NotBelow)) (Err ShortOutput)

-- The questions before the search: 2, 3, 4, each of all that it concerns, then 6 and 8.
abbrev pub asked : ℕ → List ℕ → List ℕ → List ℕ → Result Claim Refusal
asked d a b out = of_one (admitted d out) (of_two (numbered d) (operand Faces a) (operand Faces b))

-- What there is for two faces: the least assignment that satisfies the one and not the other, or none where the one entails the other.
abbrev pub Behind : ℕ → Claim → Option (List ℕ) → Type 0
Behind d c none = Entails c.left c.goal
Behind d c (some l) = Least d c.left c.goal l

-- What there is for what was asked: a refusal stays one.
pub data Found (d : ℕ) : Result Claim Refusal → Result (Option (List ℕ)) Refusal → Type 0 where
  before : {e : Refusal} → Found d (Err e) (Err e)
  sought : {c : Claim} (x : Option (List ℕ)) → Behind d c x → Found d (Ok c) (Ok x)

-- The number of dimensions or a refusal, and the output's bytes.
pub record Told : Type 0 where
  pub answer : Result ℕ Refusal
  pub output : List ℕ

-- The assignment stands in front of the output; else every byte stays, and where there is none it is 12.
abbrev pub put : ℕ → List ℕ → Result (Option (List ℕ)) Refusal → Told
put d out (Err e) = record { answer = Err e; output = out }
put d out (Ok none) = record { answer = Err Implied; output = out }
put d out (Ok (some l)) = record { answer = Ok d; output = sets out 0 l }

-- The answer and every byte of the output are those for what there is.
pub record ShowsFor (d : ℕ) (out : List ℕ) (x : Result Claim Refusal) (r : Result ℕ Refusal) (out' : List ℕ) : Type 0 where
  pub found : Result (Option (List ℕ)) Refusal
  pub is : Found d x found
  pub equal : put d out found ≡ record { answer = r; output = out' }

-- Those for the least assignment behind the no.
abbrev pub Shows : ℕ → List ℕ → List ℕ → List ℕ → Result ℕ Refusal → List ℕ → Type 0
Shows d a b out r out' = ShowsFor d out (asked d a b out) r out'
