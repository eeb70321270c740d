-- Definitions that only the contracts of private functions cite; no public contract rests on them.
use Rattle.std.specs.Prelude.{ℕ, ◌≤◌, ◌≡◌, List, [], length, Result, Err, Ok}
use Rattle.refusals.specs.declared.Refusal.{Refusal}
use Rattle.refusals.specs.Refusals.{earlier, map, of_one}
use Rattle.formula.specs.Formula.{lo, Interval}
use Rattle.formula.specs.Operations.{boundary}
use Rattle.formula.specs.Bytes.{Tree, encode}
use Rattle.formula.specs.Answers.{size_of, kept}
use Rattle.formula.specs.declared.Sort.{Sort}
use Rattle.formula.specs.declared.Sort.TheVariants.{Faces, Intervals}
use Rattle.formula.specs.declared.Size.{Size}
use Rattle.passes.specs.Rewriting.{tokens, weighs, weight_of}
use Rattle.passes.specs.declared.Rule.{Rule}
use Rattle.operations.specs.Results.{limited}

-- the size of a result by the weights of the operand's tokens
abbrev pub resized_by : (s : Sort) → Rule → Size → Result (Tree s) Refusal → Result Size Refusal
resized_by s rule hit (Err e) = Err e
resized_by s rule hit (Ok t) = let z = weighs (weight_of s rule hit) (tokens s t) in kept z z

-- the size of what stands for a replaced literal
abbrev pub hit_size : Sort → Result Interval Refusal → Result Size Refusal
hit_size Faces x = map (size_of Faces) (of_one (λ r. limited Faces (boundary lo r)) x)
hit_size Intervals x = map (size_of Intervals) x

-- what is answered of an operand beside one that is refused
abbrev pub beside_refused : {A : Type 0} → Refusal → Result A Refusal → Result A Refusal
beside_refused e (Err q) = Err (earlier q e)
beside_refused e (Ok a) = Err e

-- the bytes of a formula that was kept, and room for them
abbrev pub kept_bytes : (s : Sort) → Result (Tree s) Refusal → List ℕ
kept_bytes s (Err e) = []
kept_bytes s (Ok t) = encode s t

pub record Fitting (s : Sort) (x : Result (Tree s) Refusal) (n : ℕ) : Type 0 where
  pub tree : Tree s
  pub is : x ≡ Ok tree
  pub room : length (encode s tree) ≤ n
