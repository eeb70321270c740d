-- A list of places, from which any step of a ledger is found.
use Rattle.std.specs.Prelude.{◌≡◌, List, ℕ, suc, ◌*◌, ◌≤◌, ◌<◌, length, get_or}
use Rattle.calculus.specs.Judgement.{Step}
use Rattle.ledger.specs.Ledger.{place_of}

-- The list has room for every 16th step below n, and holds its place.
pub record Noted (L : List Step) (n : ℕ) (places : List ℕ) : Type 0 where
  pub room : n ≤ 16 * length places
  pub held : (k : ℕ) → 16 * k < n → get_or places k 0 ≡ place_of L (16 * k)

-- The list is as long as before, and holds the place of a step more, in any ledger.
pub record Notes (step at : ℕ) (places places' : List ℕ) : Type 0 where
  pub long : length places' ≡ length places
  pub more : (L : List Step) → at ≡ place_of L step → Noted L step places → Noted L (suc step) places'
