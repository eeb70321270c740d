-- What the clauses of a normal form look like.
use Prim.Native.Nat.{compare, Ordering}
use Rattle.std.specs.Prelude.{◌≡◌, true, false, List, [], ◌∷◌}
use Rattle.clauses.specs.Normal.{Clause, lex, inside, opposed}

-- Each element comes before the next.
pub data Ascending {A : Type 0} (order : A → A → Ordering) : List A → Type 0 where
  empty : Ascending order []
  one : {x : A} → Ascending order (x ∷ [])
  more : {x y : A} {l : List A} → order x y ≡ Ordering.lt → Ascending order (y ∷ l) → Ascending order (x ∷ y ∷ l)

-- It holds of every element.
pub data All {A : Type 0} (P : A → Type 0) : List A → Type 0 where
  nothing : All P []
  each : {x : A} {l : List A} → P x → All P l → All P (x ∷ l)

-- A clause is sorted, and no literal has its opposite beside it.
pub record Consistent (c : Clause) : Type 0 where
  pub sorted : Ascending compare c
  pub consistent : opposed c c ≡ false

-- A list of such clauses is sorted, and no clause contains another.
pub record Irredundant (l : List Clause) : Type 0 where
  pub clauses : All Consistent l
  pub sorted : Ascending lex l
  pub apart : All (λ c. All (λ d. inside c d ≡ true → c ≡ d) l) l
