-- How many dimensions a face still needs in a state. These definitions serve contracts of functions that are not for callers.
use Rattle.std.specs.Prelude.{ℕ, ◌+◌, ◌≤◌, ◌<◌, min, max, ◌≡◌, Bool, true, false, ◌||◌, List, ◌++◌, leb, ltb, eqb, length, get_or, drop}
use Rattle.formula.specs.Formula.{Face, holds}
use Rattle.formula.specs.Bytes.{encode_face, bound_face}
use Rattle.formula.specs.Answers.{pick}
use Rattle.assignments.specs.Assignments.{assigned}
use Rattle.needs.specs.Places.{Stands, Ends}
use Rattle.needs.specs.States.{Open, Within, settled, occurs, hits}
use Rattle.needs.specs.declared.Weight.{Weight}

-- A face with dimensions below d stands in the bytes at a place.
pub record Asks (f : List ℕ) (i d : ℕ) : Type 0 where
  pub stands : Stands f i
  pub low : bound_face stands.face ≤ d

-- More than any face needs.
abbrev pub never : ℕ
never = 1000

-- The weight is at most how many of the face's literals any allowed assignment that satisfies it determines anew, and 0 exactly where the face holds already; else the side of the dimension may be chosen.
pub record Weighs (S : List ℕ) (t : Face) (r : Weight) : Type 0 where
  pub lower : (τ : List ℕ) → Within S τ → holds t (assigned τ) ≡ true → r.weight ≤ hits (occurs t) S τ
  pub held : r.weight ≡ 0 → holds t (assigned (settled S)) ≡ true
  pub zero : holds t (assigned (settled S)) ≡ true → r.weight ≡ 0
  pub small : r.weight ≤ never
  pub picks : 0 < r.weight → r.weight < never → (r.dim < length S) × Open (get_or S r.dim 5) r.side

-- The face at a place was weighed, and the place is behind it.
pub record Weighed (f : List ℕ) (i : ℕ) (S : List ℕ) (r : Weight) : Type 0 where
  pub ends : Ends f i r.at
  pub weighs : (t : Face) (rest : List ℕ) → drop i f ≡ encode_face t ++ rest → Weighs S t r

-- What a literal at a side needs by the state's byte of its dimension.
abbrev pub cost : ℕ → ℕ → ℕ
cost s e = pick (ltb s 2) (pick (eqb s e) 0 never) (pick (eqb s 2) 1 (pick (eqb (s + e) 4) 1 never))

-- Which part of a fand is gone on with.
abbrev pub leads : Weight → Weight → Bool
leads x y = pick (eqb x.weight 0) false (pick (eqb y.weight 0) true (pick x.forced true (pick y.forced false (leb y.weight x.weight))))

-- The more of two needs, or both where a mark says that the parts share no literal.
abbrev pub needed : ℕ → ℕ → ℕ → ℕ
needed m x y = pick (eqb m 1) (min never (x + y)) (max x y)

-- What a fand needs, by its mark.
abbrev pub conjoined : ℕ → Weight → Weight → Weight
conjoined m x y = record {
  weight = needed m x.weight y.weight;
  dim = pick (leads x y) x.dim y.dim;
  side = pick (leads x y) x.side y.side;
  forced = x.forced || y.forced;
  at = y.at;
}

-- A part of a for beside one that needs so much, with the place behind the for.
abbrev pub left_over : Weight → ℕ → ℕ → Weight
left_over x other j = record { weight = x.weight; dim = x.dim; side = x.side; forced = pick (ltb other never) false x.forced; at = j }

-- What a for needs.
abbrev pub lighter : Weight → Weight → Weight
lighter x y = pick (leb x.weight y.weight) (left_over x y.weight y.at) (left_over y x.weight y.at)

-- What a constant with a kind byte needs, with the place behind it.
abbrev pub constant : ℕ → ℕ → Weight
constant b j = record { weight = pick (eqb b 0) never 0; dim = 0; side = 0; forced = false; at = j }
