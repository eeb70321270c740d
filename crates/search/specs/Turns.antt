-- The turns of the search, as moves.
use Rattle.std.specs.Prelude.{◌≡◌, Bool, true, false, List, [], ℕ, ◌<◌, length, get_or, take}
use Rattle.formula.specs.Formula.{Face, ff, ft, fand, for}
use Rattle.calculus.specs.Search.{Move, by-top, by-hit, by-absurd, by-clash, stuck, try_right}
use Rattle.calculus.specs.Record.{faces_bytes}
use Rattle.steps.specs.declared.Stop.{Stop}
use Rattle.steps.specs.declared.Stop.TheVariants.{NotBelow, NotImplied, Full}
use Rattle.contexts.specs.Moves.{split_at}
use Rattle.search.specs.declared.turns.Turn.{Turn}
use Rattle.search.specs.declared.turns.Turn.TheVariants.{Top, Hit, Absurd, Opposed, AndLeft, OrLeft, AndRight, OrRight, Stuck}

-- Did a run stop since it was out of room?
abbrev pub full_by : Stop → Bool
full_by NotBelow = false
full_by NotImplied = false
full_by Full = true

-- The face is v of two parts; v is fand or for.
pub record Parts (v : Face → Face → Face) (f : Face) : Type 0 where
  pub left : Face
  pub right : Face
  pub whole : f ≡ v left right

-- The face number i of G is v of two parts, and its bytes begin at `place`.
pub record Split (v : Face → Face → Face) (G : List Face) (i place : ℕ) : Type 0 where
  pub inside : i < length G
  pub begins : place ≡ length (faces_bytes (take i G))
  pub parts : Parts v (get_or G i ff)

-- The turn stands for the move m of the context G and the goal g.
pub data Turns (G : List Face) (g : Face) (m : Move) : Turn → Type 0 where
  tops : g ≡ ft → m ≡ by-top → Turns G g m Top
  hits : m ≡ by-hit → Turns G g m Hit
  absurds : m ≡ by-absurd → Turns G g m Absurd
  opposes : {k : ℕ} → k < 255 → m ≡ by-clash k → Turns G g m (Opposed k)
  splits-and : {i p : ℕ} → Split fand G i p → m ≡ split_at [] G i → Turns G g m (AndLeft i p)
  splits-or : {i p : ℕ} → Split for G i p → m ≡ split_at [] G i → Turns G g m (OrLeft i p)
  asks_both : Parts fand g → m ≡ try_right g → Turns G g m AndRight
  asks-either : Parts for g → m ≡ try_right g → Turns G g m OrRight
  stays : m ≡ stuck → Turns G g m Stuck
