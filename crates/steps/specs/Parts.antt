-- Operands that stand in several slices.
use Rattle.std.specs.Prelude.{◌≡◌, ℕ, List, [], ◌∷◌, ◌++◌, length, take}
use Rattle.std.specs.Borrow.{Bor}

-- The parts, one after another.
abbrev pub joined : List (Bor (List ℕ)) → List ℕ
joined [] = []
joined (x ∷ []) = x.now
joined (x ∷ y ∷ l) = x.now ++ joined (y ∷ l)

-- The bytes begin with the parts, which end at n.
pub record Joins (parts : List (Bor (List ℕ))) (l : List ℕ) (n : ℕ) : Type 0 where
  pub long : n ≡ length (joined parts)
  pub bytes : take n l ≡ joined parts
