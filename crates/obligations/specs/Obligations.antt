-- The guarded search (`Producer::cover` and `Producer::entails` of producer/faces.rs): how it ends, and the obligations that it opens.
use Rattle.std.specs.Prelude.{Bool, true, false, List, [], ◌∷◌, ◌++◌, ℕ, zero, suc, ◌+◌, leb}
use Rattle.std.proofs.Math.Option.{Option, none, some}
use Rattle.formula.specs.Formula.{lo, hi, Face, ff, ft, at, fand, for}
use Rattle.calculus.specs.Judgement.{Step, cover, entails}
use Rattle.calculus.specs.Search.{Move, by-top, by-hit, by-absurd, by-clash, by-and-left, by-or-left, by-and-right, by-or-right, stuck, ◌else◌, provided, has, try_top, try_clash, try_left, try_right}
use Rattle.calculus.specs.Emit.{Program, emit, find}
use Rattle.calculus.specs.Calls.{emit_face, emit_take, emit_move, emit_cover}
use Rattle.obligations.specs.Limited.{Ending, reached, failed, crowded, beyond-limits, limited}

-- Obligations in the order in which they are opened: none, or one, with those opened in its place and those opened after it.
pub data Opened : Type 0 where
  nothing : Opened
  one : (inside later : Opened) → Opened

-- How many they are.
unfoldable pub count : Opened → ℕ
count nothing = 0
count (one i o) = suc (count i + count o)

-- Some, and others after them.
infixr 20 ◌before◌
unfoldable pub ◌before◌ : Opened → Opened → Opened
nothing before o = o
one i p before o = one i (p before o)

-- How a search ends, and the obligations that it opened.
pub record Search : Type 0 where
  pub ending : Ending
  pub opened : Opened

-- A part of a search, by the counter and the steps that it finds.
abbrev pub Part : Type 0
Part = ℕ → List Step → Search

-- A program opens nothing.
abbrev pub running : (List Step → Bool) → Program → Part
running room p w L = record { ending = limited room p L; opened = nothing }

-- A search, with others before it.
abbrev pub behind : Opened → Search → Search
behind o s = record { ending = s.ending; opened = o before s.opened }

-- What comes after a search that went from counter w on and reached its step: it finds the counter raised by what that search opened.
abbrev pub continued : ℕ → Ending → Opened → (ℕ → Part) → Search
continued w (reached n L) o k = behind o (k n (w + count o) L)
continued w (failed e L) o k = record { ending = failed e L; opened = o }
continued w crowded o k = record { ending = crowded; opened = o }

-- The same, and what comes after an error, whichever it is.
abbrev pub retried : ℕ → Ending → Opened → (ℕ → Part) → Part → Search
retried w (reached n L) o k r = behind o (k n (w + count o) L)
retried w (failed e L) o k r = behind o (r (w + count o) L)
retried w crowded o k r = record { ending = crowded; opened = o }

-- One part after another, and one part with another where it ends in an error.
infixl 20 ◌>>=◌
abbrev pub ◌>>=◌ : Part → (ℕ → Part) → Part
(p >>= k) w L = continued w (p w L).ending (p w L).opened k

abbrev pub try : Part → (ℕ → Part) → Part → Part
try p k r w L = retried w (p w L).ending (p w L).opened k r

-- The literals of a context on the zero side.
unfoldable pub zeros : List Face → List Face
zeros [] = []
zeros (ff ∷ G) = zeros G
zeros (ft ∷ G) = zeros G
zeros (at lo n ∷ G) = at lo n ∷ zeros G
zeros (at hi n ∷ G) = zeros G
zeros (fand x y ∷ G) = zeros G
zeros (for x y ∷ G) = zeros G

-- The tries in their order. They are those of document 01, but a clash is that of the first zero literal that has its opposite.
unfoldable pub guarded_move : List Face → Face → Move
guarded_move G g = try_top g else provided (has g G) by-hit else provided (has ff G) by-absurd else try_clash G (zeros G) else try_left [] G else try_right g

-- A move, by the parts for what it leaves to show. A move that leaves nothing to show is document 01's.
abbrev pub moved : (List Step → Bool) → (List Face → Face → Part) → List Face → Face → Move → Part
moved room c G g by-top = running room (emit_move emit_cover G g by-top)
moved room c G g by-hit = running room (emit_move emit_cover G g by-hit)
moved room c G g by-absurd = running room (emit_move emit_cover G g by-absurd)
moved room c G g (by-clash n) = running room (emit_move emit_cover G g (by-clash n))
moved room c G g (by-and-left b x y a) = do
  t ← running room (emit_take b (fand x y) a)
  i ← c (x ∷ y ∷ (b ++ a)) g
  running room (emit 25 (t ∷ i ∷ []) (cover G g))
moved room c G g (by-or-left b x y a) = do
  t ← running room (emit_take b (for x y) a)
  i ← c (x ∷ (b ++ a)) g
  k ← c (y ∷ (b ++ a)) g
  running room (emit 26 (t ∷ i ∷ k ∷ []) (cover G g))
moved room c G g (by-and-right x y) = do
  i ← c G x
  k ← c G y
  running room (emit 27 (i ∷ k ∷ []) (cover G g))
moved room c G g (by-or-right x y) =
    try (c G x) (λ i. running room (emit 28 (i ∷ []) (cover G g))) (do
      k ← c G y
      running room (emit 29 (k ∷ []) (cover G g)))
moved room c G g stuck = running room (emit_move emit_cover G g stuck)

-- The deepest obligation that is searched, the first being at depth 0, and the highest counter with which one is.
abbrev pub max_depth : ℕ
max_depth = 128

abbrev pub max_work : ℕ
max_work = 20000

-- An obligation in whose place none is opened.
abbrev pub alone : Ending → Search
alone e = record { ending = e; opened = one nothing nothing }

-- The obligation in whose place a search was made.
abbrev pub around : Search → Search
around s = record { ending = s.ending; opened = one s.opened nothing }

-- A judgement that stands in the ledger is not searched.
abbrev pub unless_known : Option ℕ → List Step → Search → Search
unless_known (some i) L s = alone (reached i L)
unless_known none L s = around s

-- Nor is an obligation beyond a limit; it is opened all the same.
abbrev pub unless_over : Bool → List Step → Search → Search
unless_over true L s = alone (failed beyond-limits L)
unless_over false L s = s

-- The obligation to show a goal in a context, with so many depths left, its own among them. It is counted first of all.
unfoldable pub obliged : (List Step → Bool) → ℕ → List Face → Face → Part
obliged room zero G g w L = alone (failed beyond-limits L)
obliged room (suc n) G g w L =
    unless_over (leb max_work w) L (unless_known (find (cover G g) L) L (moved room (obliged room n) G g (guarded_move G g) (suc w) L))

-- `cover`: depths 0 to 128.
unfoldable pub guarded_cover : (List Step → Bool) → List Face → Face → Part
guarded_cover room G g = obliged room (suc max_depth) G g

-- `entails`: both faces, the search with a alone, and the entails step.
unfoldable pub guarded_entails : (List Step → Bool) → ℕ → Face → Face → Part
guarded_entails room d a b = do
  i ← running room (emit_face d a)
  k ← running room (emit_face d b)
  c ← guarded_cover room (a ∷ []) b
  running room (emit 30 (i ∷ k ∷ c ∷ []) (entails d a b))
