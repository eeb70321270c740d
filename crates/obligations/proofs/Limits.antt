-- A program without an attempt, under the limit of steps, ends as it does where the ledger has room for no more steps than the limit.
use mathlib.Core.Path.{◌≡◌, refl}
use mathlib.Core.Bool.{Bool, true, false, ◌&&◌, not}
use mathlib.Core.Option.{Option, none, some}
use mathlib.Core.List.{List, [], ◌∷◌, ◌++◌}
use Prim.Native.Nat.{ℕ, zero, suc}
use native.Mathlib.Omega.{arith}
use borrow.Author.Tests.{leb-true, leb-false, le-leb, lt-leb}
use lib.Dec.{leb}
use lib.ListN.{length}
use Rattle.formula.specs.Formula.{lo, hi, Face, ff, ft, at, fand, for, Interval, i0, i1, dim, neg, meet, join}
use Rattle.calculus.specs.Judgement.{Step, member, same_face}
use Rattle.calculus.specs.Search.{Move, by-top, by-hit, by-absurd, by-clash, by-and-left, by-or-left, by-and-right, by-or-right, stuck}
use Rattle.calculus.specs.Emit.{Outcome, done, stopped, full, append, emitted, Program, stop, emit, ◌>>=◌, attempt, find, next, run, leaving, left}
use Rattle.calculus.specs.Calls.{Order, less, at_most, emit_comparison, emit_interval, emit_face, if_so, emit_member, emit_take, emit_move, emit_cover}
use Rattle.calculus.proofs.Growing.{Extends, extends-refl, extends-trans}
use Rattle.calculus.proofs.Repeating.{Longer, done-longer, stopped-longer, is-full, run-longer}
use Rattle.obligations.specs.Limited.{Ending, reached, failed, crowded, failure, too-many-steps, onward, max_steps, appended, emitted_to, limited}

-- The program has no attempt in it: an attempt goes on after the limit of steps, and not after a want of room.
abbrev pub Plain : Program → Type 0
Plain (stop e) = Unit {0}
Plain (emit k is j) = Unit {0}
Plain (p >>= q) = Plain p × ((n : ℕ) → Plain (q n))
Plain (attempt p q r) = ⊥

-- How a run ends that is out of room, by whether the steps left are at the limit.
abbrev pub at_limit : Bool → List Step → Ending
at_limit true Z = failed too-many-steps Z
at_limit false Z = crowded

-- The ending of an outcome, with the steps that are left.
abbrev pub settled : Outcome → List Step → Ending
settled (done n M) Z = reached n M
settled (stopped e M) Z = failed (failure e) M
settled full Z = at_limit (leb max_steps (length Z)) Z

-- From L on there is room in the bar exactly where there is room and the limit of steps is kept.
pub record Bars (room bar : List Step → Bool) (L : List Step) : Type 0 where
  pub bars : (N : List Step) → Extends L N → (s : Step) → bar (N ++ s ∷ []) ≡ (room (N ++ s ∷ []) && leb (suc (length N)) max_steps)

pub bars-on : {room bar : List Step → Bool} {L M : List Step} → Extends L M → Bars room bar L → Bars room bar M
bars-on x b = record { bars = λ N y. b.bars N (extends-trans x y) }

-- A step more keeps the limit where the limit is not reached.
below : (n : ℕ) → leb (suc n) max_steps ≡ not (leb max_steps n)
below n = go (leb max_steps n) refl
  where
    go : (t : Bool) → leb max_steps n ≡ t → leb (suc n) max_steps ≡ not t
    go true e = lt-leb (suc n) max_steps (omega (arith, leb-true max_steps n e))
    go false e = le-leb (suc n) max_steps (omega (arith, leb-false max_steps n e))

module _ (room bar : List Step → Bool) where
  -- A run that is out of room goes on to nothing.
  at-limit-onward : (b : Bool) (Z : List Step) (k : ℕ → List Step → Ending) → onward (at_limit b Z) k ≡ at_limit b Z
  at-limit-onward true Z k = refl
  at-limit-onward false Z k = refl

  pub limited-run : (p : Program) → Plain p → (L : List Step) → Bars room bar L → limited room p L ≡ settled (run bar p L) (left bar p L)
  unfolding limited run left
  limited-run (stop e) h L b = refl
  limited-run (emit k is j) h L b = go (find j L)
    where
      s : Step
      s = record { kind = k; references = is; judgement = j }

      new : (t r : Bool) → leb max_steps (length L) ≡ t → appended t r L s ≡ settled (append (r && not t) L s) (leaving (append (r && not t) L s) (λ n M. M) (λ M. M) L)
      new true true e = rw e
      new true false e = rw e
      new false true e = refl
      new false false e = rw e

      go : (o : Option ℕ) → emitted_to room L s o ≡ settled (emitted bar L s o) (leaving (emitted bar L s o) (λ n M. M) (λ M. M) L)
      go (some n) = refl
      go none = rw (b.bars L (extends-refl L) s, below) (new (leb max_steps (length L)) (room (L ++ s ∷ [])) refl)
  limited-run (p >>= q) h L b = rw (limited-run p h.0 L b) (go (left bar p L) (run-longer bar p L) (λ n M x. limited-run (q n) (h.1 n) M (bars-on x b)))
    where
      go : (Z : List Step) {o : Outcome} → Longer L o → ((n : ℕ) (M : List Step) → Extends L M → limited room (q n) M ≡ settled (run bar (q n) M) (left bar (q n) M))
          → onward (settled o Z) (λ n. limited room (q n)) ≡ settled (next o (λ n. run bar (q n))) (leaving o (λ n. left bar (q n)) (λ M. M) Z)
      go Z (done-longer {n} {M} x) w = w n M x
      go Z (stopped-longer x) w = refl
      go Z is-full w = at-limit-onward (leb max_steps (length Z)) Z (λ n. limited room (q n))
  limited-run (attempt p q r) h L b = absurd h

-- The programs that the search runs ---------------------------------------------------------

pub comparison-plain : (o : Order) (m n : ℕ) → Plain (emit_comparison o m n)
unfolding emit_comparison
comparison-plain less zero zero = tt
comparison-plain less zero (suc n) = tt
comparison-plain at_most zero n = tt
comparison-plain o (suc m) zero = tt
comparison-plain o (suc m) (suc n) = (comparison-plain o m n, λ i. tt)

pub interval-plain : (d : ℕ) (r : Interval) → Plain (emit_interval d r)
unfolding emit_interval
interval-plain d i0 = tt
interval-plain d i1 = tt
interval-plain d (dim n) = (comparison-plain less n d, λ i. tt)
interval-plain d (neg r) = (interval-plain d r, λ i. tt)
interval-plain d (meet r s) = (interval-plain d r, λ i. (interval-plain d s, λ k. tt))
interval-plain d (join r s) = (interval-plain d r, λ i. (interval-plain d s, λ k. tt))

pub face-plain : (d : ℕ) (f : Face) → Plain (emit_face d f)
unfolding emit_face
face-plain d ff = tt
face-plain d ft = tt
face-plain d (at e n) = (interval-plain d (dim n), λ i. tt)
face-plain d (fand a b) = (face-plain d a, λ i. (face-plain d b, λ k. tt))
face-plain d (for a b) = (face-plain d a, λ i. (face-plain d b, λ k. tt))

pub member-plain : (f : Face) (G : List Face) → Plain (emit_member f G)
unfolding emit_member
member-plain f [] = tt
member-plain f (g ∷ G) = go (same_face g f) (member-plain f G)
  where
    go : (c : Dec (g ≡ f)) → Plain (emit_member f G) → Plain (if_so c (emit 17 [] (member f (g ∷ G))) (emit_member f G >>= (λ i. emit 18 (i ∷ []) (member f (g ∷ G)))))
    go (yes e) h = tt
    go (no e) h = (h, λ i. tt)

pub take-plain : (b : List Face) (x : Face) (a : List Face) → Plain (emit_take b x a)
unfolding emit_take
take-plain [] x a = tt
take-plain (g ∷ b) x a = (take-plain b x a, λ i. tt)

-- A move that leaves nothing to show.
abbrev pub Closes : Move → Type 0
Closes by-top = Unit {0}
Closes by-hit = Unit {0}
Closes by-absurd = Unit {0}
Closes (by-clash n) = Unit {0}
Closes (by-and-left b x y a) = ⊥
Closes (by-or-left b x y a) = ⊥
Closes (by-and-right x y) = ⊥
Closes (by-or-right x y) = ⊥
Closes stuck = Unit {0}

pub closing-plain : (G : List Face) (g : Face) (m : Move) → Closes m → Plain (emit_move emit_cover G g m)
closing-plain G g by-top c = tt
closing-plain G g by-hit c = (member-plain g G, λ i. tt)
closing-plain G g by-absurd c = (member-plain ff G, λ i. tt)
closing-plain G g (by-clash n) c = (member-plain (at lo n) G, λ i. (member-plain (at hi n) G, λ k. tt))
closing-plain G g (by-and-left b x y a) c = absurd c
closing-plain G g (by-or-left b x y a) c = absurd c
closing-plain G g (by-and-right x y) c = absurd c
closing-plain G g (by-or-right x y) c = absurd c
closing-plain G g stuck c = tt
