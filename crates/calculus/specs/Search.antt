-- The search of `cover` (document 01, "Calls"): its moves in the order of the tries, and its verdict.
use Rattle.std.specs.Prelude.{Bool, true, false, ◌&&◌, ◌||◌, List, [], ◌∷◌, ◌++◌, ℕ, zero, suc, ◌+◌}
use Rattle.std.proofs.Math.Bool.{decide}
use Rattle.formula.specs.Formula.{lo, hi, Face, ff, ft, at, fand, for}
use Rattle.formula.specs.Bytes.{nodes_face}
use Rattle.calculus.specs.Judgement.{same_face}

-- The next move, by the rule that it uses: a clash with its dimension, a left move with the assumptions before the compound, its parts and the assumptions after, a right move with the goal's parts.
pub data Move : Type 0 where
  by-top by-hit by-absurd : Move
  by-clash : ℕ → Move
  by-and-left by-or-left : List Face → Face → Face → List Face → Move
  by-and-right by-or-right : Face → Face → Move
  stuck : Move

-- The first move, and if there is none the second.
infixr 20 ◌else◌
abbrev pub ◌else◌ : Move → Move → Move
by-top else n = by-top
by-hit else n = by-hit
by-absurd else n = by-absurd
by-clash i else n = by-clash i
by-and-left b x y a else n = by-and-left b x y a
by-or-left b x y a else n = by-or-left b x y a
by-and-right x y else n = by-and-right x y
by-or-right x y else n = by-or-right x y
stuck else n = n

-- The move, provided that the test passes.
abbrev pub provided : Bool → Move → Move
provided true m = m
provided false m = stuck

-- Is the face in the context?
unfoldable pub has : Face → List Face → Bool
has f [] = false
has f (g ∷ G) = decide (same_face f g) || has f G

-- Is the goal ft?
abbrev pub try_top : Face → Move
try_top ff = stuck
try_top ft = by-top
try_top (at e n) = stuck
try_top (fand x y) = stuck
try_top (for x y) = stuck

-- Is the assumption a literal with its opposite in G?
abbrev pub clash_of : List Face → Face → Move
clash_of G ff = stuck
clash_of G ft = stuck
clash_of G (at lo n) = provided (has (at hi n) G) (by-clash n)
clash_of G (at hi n) = provided (has (at lo n) G) (by-clash n)
clash_of G (fand x y) = stuck
clash_of G (for x y) = stuck

-- The first of these assumptions that clashes in G.
unfoldable pub try_clash : List Face → List Face → Move
try_clash G [] = stuck
try_clash G (f ∷ H) = clash_of G f else try_clash G H

-- Is the assumption compound, with b before it and a after?
abbrev pub split_of : List Face → Face → List Face → Move
split_of b ff a = stuck
split_of b ft a = stuck
split_of b (at e n) a = stuck
split_of b (fand x y) a = by-and-left b x y a
split_of b (for x y) a = by-or-left b x y a

-- The first compound of the assumptions a, with b before them.
unfoldable pub try_left : List Face → List Face → Move
try_left b [] = stuck
try_left b (f ∷ a) = split_of b f a else try_left (b ++ f ∷ []) a

-- Is the goal compound?
abbrev pub try_right : Face → Move
try_right ff = stuck
try_right ft = stuck
try_right (at e n) = stuck
try_right (fand x y) = by-and-right x y
try_right (for x y) = by-or-right x y

-- The tries in their order: top, hit, absurd, clash, the first compound assumption, the goal.
unfoldable pub move : List Face → Face → Move
move G g = try_top g else provided (has g G) by-hit else provided (has ff G) by-absurd else try_clash G G else try_left [] G else try_right g

-- The verdict of a move, by the verdicts on what it leaves to show.
abbrev pub act : (List Face → Face → Bool) → List Face → Face → Move → Bool
act c G g by-top = true
act c G g by-hit = true
act c G g by-absurd = true
act c G g (by-clash n) = true
act c G g (by-and-left b x y a) = c (x ∷ y ∷ (b ++ a)) g
act c G g (by-or-left b x y a) = c (x ∷ (b ++ a)) g && c (y ∷ (b ++ a)) g
act c G g (by-and-right x y) = c G x && c G y
act c G g (by-or-right x y) = c G x || c G y
act c G g stuck = false

-- The search, at most n moves deep.
unfoldable pub search_in : ℕ → List Face → Face → Bool
search_in zero G g = false
search_in (suc n) G g = act (search_in n) G g (move G g)

-- The number of nodes in a context.
unfoldable pub nodes_context : List Face → ℕ
nodes_context [] = 0
nodes_context (f ∷ G) = nodes_face f + nodes_context G

-- The search: it is never deeper than context and goal have nodes.
unfoldable pub search : List Face → Face → Bool
search G g = search_in (nodes_context G + nodes_face g) G g
