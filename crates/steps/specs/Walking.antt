-- Runs that go over a formula: the place goes in by value and comes back behind it (document 01).
use Rattle.std.specs.Prelude.{◌≡◌, List, ℕ, ◌+◌, ◌-◌, ◌≤◌, ◌<◌, length, take, drop, Result, Ok, Err, IfOk}
use Rattle.formula.specs.declared.Sort.{Sort}
use Rattle.formula.specs.declared.Place.{Place}
use Rattle.formula.specs.Bytes.{Tree}
use Rattle.formula.specs.Answers.{part_at, tree_of}
use Rattle.calculus.specs.Emit.{Program}
use Rattle.steps.specs.declared.Stop.{Stop}
use Rattle.steps.specs.declared.Walked.{Walked}
use Rattle.steps.specs.declared.Paired.{Paired}
use Rattle.steps.specs.Trees.{Is}
use Rattle.steps.specs.Running.{Book, Ran, Runs}

-- The formula t, which keeps the limits, stands in the bytes from the place p on, and behind it a byte or more for each other formula that is pending there.
pub record StandsAt (s : Sort) (t : Tree s) (l : List ℕ) (p : Place) : Type 0 where
  pub is : Is s t (part_at s l p.at)
  pub here : 0 < p.pending
  pub room : p.at + length (part_at s l p.at) + p.pending ≤ 1 + length l

-- The formula that stands at a place of the bytes.
abbrev pub tree_at : (s : Sort) → List ℕ → Place → Tree s
tree_at s l p = tree_of s (part_at s l p.at)

-- Some formula that keeps the limits stands there.
abbrev pub KnownAt : Sort → List ℕ → Place → Type 0
KnownAt s l p = StandsAt s (tree_at s l p) l p

-- The place behind the formula at p.
abbrev pub behind_at : Sort → List ℕ → Place → Place
behind_at s l p = record { at = p.at + length (part_at s l p.at); pending = p.pending - 1 }

-- The bytes from a place on up to another.
abbrev pub span : ℕ → Place → List ℕ → List ℕ
span at end l = take (end.at - at) (drop at l)

-- From `at` up to the place stand some of the bytes, no more than a formula that keeps the limits has.
pub record Spans (l : List ℕ) (at : ℕ) (end : Place) : Type 0 where
  pub some : at < end.at
  pub inside : end.at ≤ length l
  pub few : end.at ≤ at + 1022

-- The place behind a node over two formulas, both of which are still to come.
abbrev pub inside_of : Place → Place
inside_of p = record { at = p.at + 1; pending = p.pending + 1 }

-- The place behind a node over one formula.
abbrev pub below_of : Place → Place
below_of p = record { at = p.at + 1; pending = p.pending }

-- How a run over a formula ended.
abbrev pub walk_ran : Result Walked Stop → Ran
walk_ran (Ok w) = Ok w.step
walk_ran (Err e) = Err e

-- How a run over a formula and its image ended.
abbrev pub pair_ran : Result Paired Stop → Ran
pair_ran (Ok w) = Ok w.step
pair_ran (Err e) = Err e

-- A program's run over a formula: where it is done, it has come to the place q.
pub record Walks (l : Book) (p : Program) (q : Place) (r : Result Walked Stop) (l' : Book) : Type 0 where
  pub runs : Runs l p (walk_ran r) l'
  pub moved : IfOk r (λ w. w.place ≡ q)

-- The same over a formula and its image beside it.
pub record WalksBoth (l : Book) (p : Program) (q i : Place) (r : Result Paired Stop) (l' : Book) : Type 0 where
  pub runs : Runs l p (pair_ran r) l'
  pub moved : IfOk r (λ w. (w.place ≡ q) × (w.image ≡ i))
