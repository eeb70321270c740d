-- Contexts as bytes: a count, and so many faces one after another.
use Rattle.std.specs.Prelude.{◌≡◌, List, [], ◌++◌, ℕ, suc, ◌≤◌, ◌<◌, length, get_or, take, drop}
use Rattle.formula.specs.declared.Sort.TheVariants.{Faces}
use Rattle.formula.specs.Formula.{Face, ff}
use Rattle.formula.specs.Bytes.{Got, nothing, got, max_nodes, max_bound}
use Rattle.calculus.specs.Search.{nodes_context}
use Rattle.calculus.specs.Record.{faces_bytes, bound_context}
use Rattle.calculus.specs.Parse.{read_faces}
use Rattle.steps.specs.Trees.{Is}

-- The count and the bytes are the context G, which keeps the limits.
pub record Are (G : List Face) (n : ℕ) (l : List ℕ) : Type 0 where
  pub bytes : l ≡ faces_bytes G
  pub count : n ≡ length G
  pub few : nodes_context G ≤ max_nodes
  pub low : bound_context G ≤ max_bound

-- The faces that were read, if any.
abbrev pub faces_in : Got (List Face) → List Face
faces_in nothing = []
faces_in (got G m) = G

-- The context that so many faces are; none where the bytes are not so many faces.
unfoldable pub context_of : ℕ → List ℕ → List Face
context_of n l = faces_in (read_faces n l)

-- The count and the bytes are a context that keeps the limits.
abbrev pub Sound : ℕ → List ℕ → Type 0
Sound n l = Are (context_of n l) n l

-- G without its face number i.
abbrev pub leave : ℕ → List Face → List Face
leave i G = take i G ++ drop (suc i) G

-- The bytes x are the face number i of G, and D are the others.
pub record LeftOut (G : List Face) (i : ℕ) (x : List ℕ) (D : List Face) : Type 0 where
  pub inside : i < length G
  pub out : Is Faces (get_or G i ff) x
  pub others : D ≡ leave i G

-- The bytes without those from `at` up to `end`.
abbrev pub cut : ℕ → ℕ → List ℕ → List ℕ
cut at end l = take at l ++ drop end l

-- The bytes x are the face number i of the context G, and begin at `at`.
pub record At (G : List Face) (i : ℕ) (x : List ℕ) (at n : ℕ) (g : List ℕ) : Type 0 where
  pub whole : Are G n g
  pub inside : i < n
  pub out : Is Faces (get_or G i ff) x
  pub place : at ≡ length (faces_bytes (take i G))
