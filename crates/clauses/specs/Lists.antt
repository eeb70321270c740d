-- Lists in lent slices. These definitions serve the contracts of private functions.
use Prim.Native.Nat.{ℕ, ◌+◌, ◌≤◌, ◌<◌, Ordering}
use Rattle.std.specs.Prelude.{◌≡◌, List, ◌∷◌, ◌++◌, eqb, length, take, drop, Option, Some, None, Result, Ok, Err, IfErr}
use Rattle.std.proofs.Math.Option as Math
use Rattle.std.proofs.Math.Option.{none, some}
use Rattle.std.specs.declared.cmp.Ordering as Std
use Rattle.std.specs.declared.cmp.Ordering.TheVariants.{Less, Equal, Greater}
use Rattle.formula.specs.Answers.{pick}
use Rattle.clauses.specs.Normal.{enter, Handling, limited, pairs}

-- Which of two values comes first, as `cmp` answers it.
abbrev pub said : Std.Ordering → Ordering
said Less = Ordering.lt
said Equal = Ordering.eq
said Greater = Ordering.gt

-- What a search in a list makes of it: the list itself where the element stands there, else the element at the place that was answered.
abbrev pub placed : {A : Type 0} → A → List A → Result ℕ ℕ → List A
placed x l (Ok i) = l
placed x l (Err i) = take i l ++ x ∷ drop i l

-- A search for the place of an element.
pub record Searches {A : Type 0} (order : A → A → Ordering) (x : A) (l : List A) (r : Result ℕ ℕ) : Type 0 where
  pub entered : enter order x l ≡ placed x l r
  pub inside : IfErr r (λ i. i ≤ length l)

-- A list laid over the front of another.
abbrev pub over : {A : Type 0} → List A → List A → List A
over x l = x ++ drop (length x) l

-- A list of n elements stands in front of a slice, which is behind it as it was.
pub record Leads {A : Type 0} (x l : List A) (n : ℕ) (l' : List A) : Type 0 where
  pub many : n ≡ length x
  pub all : l' ≡ over x l

-- The first n elements of a slice are the list.
pub record Fronts {A : Type 0} (xs : List A) (n : ℕ) (l : List A) : Type 0 where
  pub fits : n ≤ length l
  pub here : take n l ≡ xs

-- Where there is a list, the first elements of the slice are it, as many as is answered; else nothing is answered.
abbrev pub ListsBy : {A : Type 0} → Math.Option (List A) → Option ℕ → List A → Type 0
ListsBy o None l = o ≡ none
ListsBy o (Some n) l = (n ≤ length l) × (o ≡ some (take n l))

pub record Lists {A : Type 0} (o : Math.Option (List A)) (r : Option ℕ) (l : List A) : Type 0 where
  pub told : ListsBy o r l

-- The list stands behind the first n elements of a slice, where they are 256 at most; else nothing is answered.
abbrev pub AddsBy : {A : Type 0} → List A → ℕ → List A → Option ℕ → List A → Type 0
AddsBy xs n l None l' = 256 < n + length xs
AddsBy xs n l (Some k) l' = (k ≤ 256) × (take k l' ≡ take n l ++ xs)

pub record Adds {A : Type 0} (xs : List A) (n : ℕ) (l : List A) (r : Option ℕ) (l' : List A) : Type 0 where
  pub told : AddsBy xs n l r l'

-- The clauses of a node from those of its parts, by its kind byte: 4 for fand, 5 for for.
abbrev pub node_list : {A : Type 0} → Handling A → ℕ → List A → List A → Math.Option (List A)
node_list H b x y = pick (eqb b 4) (limited H (pairs H x y)) (limited H (x ++ y))
