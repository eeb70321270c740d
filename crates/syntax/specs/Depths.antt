-- Definitions that only the contracts of private functions cite; no public contract rests on them.
-- Here: the depths of the formulas that are still to come, and the word that holds them.
use Rattle.std.specs.Prelude.{ℕ, suc, ◌+◌, ◌*◌, ◌≤◌, ◌≡◌, Bool, true, false, List, [], ◌∷◌, length}
use Rattle.formula.specs.Answers.{size_of, tree_of}
use Rattle.formula.specs.declared.Sort.{Sort}
use Rattle.formula.specs.declared.Size.{Size}
use Rattle.formula.specs.declared.Kind.{Kind}
use Rattle.passes.specs.Rewriting.{Whole, stacked}

-- an operand that is kept, and its size
pub record Kept (s : Sort) (l : List ℕ) (z : Size) : Type 0 where
  pub whole : Whole s l
  pub size : size_of s (tree_of s l) ≡ z

-- the depths of what is to come behind a node of this kind at depth d, the next one first, where ds come behind its formula
abbrev pub onward : Kind → ℕ → List ℕ → List ℕ
onward k d ds = stacked k (suc d) (suc d) ds

-- the word of a stack of bits, the lowest node's first, with a one above all of them
unfoldable pub word : List Bool → ℕ
word [] = 1
word (false ∷ bs) = 2 * word bs
word (true ∷ bs) = 2 * word bs + 1

-- the depths of the second parts that wait, below the nodes that have a bit; a node has as many nodes above it as bits
unfoldable pub waiting : List Bool → List ℕ
waiting [] = []
waiting (false ∷ bs) = waiting bs
waiting (true ∷ bs) = suc (length bs) ∷ waiting bs

-- a word of at most 32 nodes above
pub record Above (w : ℕ) : Type 0 where
  pub bits : List Bool
  pub is : w ≡ word bits
  pub few : length bits ≤ 32

-- what is to come at these depths, by a word; at the end the word may be any
pub data Held : List ℕ → ℕ → Type 0 where
  ended : {w : ℕ} → Held [] w
  next : {w d : ℕ} {ds : List ℕ} (bs : List Bool) → w ≡ word bs → d ≡ length bs → ds ≡ waiting bs → Held (d ∷ ds) w

-- behind a leaf, and behind a node, whatever the word stands for
pub record Back (w r : ℕ) : Type 0 where
  pub holds : (bs : List Bool) → w ≡ word bs → length bs ≤ 32 → Held (waiting bs) r

pub record Onward (k : Kind) (w r : ℕ) : Type 0 where
  pub holds : (bs : List Bool) → w ≡ word bs → length bs ≤ 32 → Held (onward k (length bs) (waiting bs)) r
