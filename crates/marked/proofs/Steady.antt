-- Boundary, forall and transformations never stop: their runs are done or out of room.
use mathlib.Core.Path.{◌≡◌}
use mathlib.Core.Bool.{Bool, true, false}
use mathlib.Core.Option.{Option, none, some}
use mathlib.Core.List.{List, [], ◌∷◌, ◌++◌}
use Prim.Native.Nat.{ℕ, zero, suc, ◌≤◌, ◌<◌, compare, Ordering}
use native.Mathlib.Omega.{arith}
use Rattle.formula.specs.Formula.{End, Face, ff, ft, at, fand, for, Interval, i0, i1, dim, neg, meet, join}
use Rattle.formula.specs.Operations.{Op, shift, subst, dim_to}
use Rattle.formula.proofs.Compare.{Compares, stands}
use Rattle.calculus.specs.Judgement.{Step}
use Rattle.calculus.specs.Emit.{find, Program, stop, emit, ◌>>=◌, attempt, Outcome, done, full, next, append, emitted, run}
use Rattle.calculus.specs.Calls.{less, at_most, emit_comparison, emit_boundary, emit_forall_at, emit_forall, emit_dimension, place_of, emit_intervals, emit_literal, emit_faces}
use Rattle.calculus.specs.Door.{Item}
use Rattle.marked.specs.Marked.{yes-with, items}
use Rattle.marked.proofs.Replying.{Ends, ends-yes, ends-full}

-- A program that only emits.
abbrev pub Steady : Program → Type 0
Steady (stop e) = ⊥
Steady (emit k is j) = Unit {0}
Steady (p >>= q) = Steady p × ((n : ℕ) → Steady (q n))
Steady (attempt p q r) = ⊥

-- The run is done or out of room.
data Goes : Outcome → Type 0 where
  goes : {n : ℕ} {M : List Step} → Goes (done n M)
  no_room : Goes full

goes-next : {o : Outcome} {k : ℕ → List Step → Outcome} → Goes o → ((n : ℕ) (M : List Step) → Goes (k n M)) → Goes (next o k)
goes-next (goes {n} {M}) h = h n M
goes-next no_room h = no_room

steady-goes : (room : List Step → Bool) (p : Program) → Steady p → (L : List Step) → Goes (run room p L)
unfolding run
steady-goes room (stop e) h L = absurd h
steady-goes room (emit k is j) h L = go (find j L)
  where
    s : Step
    s = record { kind = k; references = is; judgement = j }

    appends : (b : Bool) → Goes (append b L s)
    appends true = goes
    appends false = no_room

    go : (o : Option ℕ) → Goes (emitted room L s o)
    go (some n) = goes
    go none = appends (room (L ++ s ∷ []))
steady-goes room (p >>= q) h L = goes-next (steady-goes room p h.0 L) (λ n M. steady-goes room (q n) (h.1 n) M)
steady-goes room (attempt p q r) h L = absurd h

pub steady-ends : {rs : List Item} {gs : List Face} → rs ≡ items gs → (p : Program) → Steady p → (room : List Step → Bool) (L : List Step) → Ends rs (yes-with gs) (run room p L)
steady-ends {rs} {gs} e p h room L = go (steady-goes room p h L)
  where
    go : {o : Outcome} → Goes o → Ends rs (yes-with gs) o
    go goes = ends-yes e
    go no_room = ends-full

-- A comparison that is so does not stop.
less-steady : (m n : ℕ) → m < n → Steady (emit_comparison less m n)
unfolding emit_comparison
less-steady m zero h = absurd (omega arith)
less-steady zero (suc n) h = tt
less-steady (suc m) (suc n) h = (less-steady m n (omega arith), λ i. tt)

most-steady : (m n : ℕ) → m ≤ n → Steady (emit_comparison at_most m n)
unfolding emit_comparison
most-steady zero n h = tt
most-steady (suc m) zero h = absurd (omega arith)
most-steady (suc m) (suc n) h = (most-steady m n (omega arith), λ i. tt)

pub boundary-steady : (r : Interval) → Steady (emit_boundary r)
unfolding emit_boundary
boundary-steady i0 = tt
boundary-steady i1 = tt
boundary-steady (dim n) = tt
boundary-steady (neg r) = (boundary-steady r, λ i. tt)
boundary-steady (meet r s) = (boundary-steady r, λ i. (boundary-steady s, λ k. tt))
boundary-steady (join r s) = (boundary-steady r, λ i. (boundary-steady s, λ k. tt))

pub forall-steady : (k : ℕ) (f : Face) → Steady (emit_forall k f)
unfolding emit_forall
forall-steady k ff = tt
forall-steady k ft = tt
forall-steady k (at e n) = go (compare n k) (stands n k)
  where
    go : (o : Ordering) → Compares o n k → Steady (emit_forall_at k e n o)
    go Ordering.lt h = (less-steady n k h, λ i. tt)
    go Ordering.eq h = tt
    go Ordering.gt h = (less-steady k n h, λ i. tt)
forall-steady k (fand a b) = (forall-steady k a, λ i. (forall-steady k b, λ l. tt))
forall-steady k (for a b) = (forall-steady k a, λ i. (forall-steady k b, λ l. tt))

dimension-steady : (o : Op) (n : ℕ) (c : Ordering) → Compares c n (place_of o) → Steady (emit_dimension o n c)
dimension-steady (shift k) n Ordering.lt h = (less-steady n k h, λ i. tt)
dimension-steady (shift k) n Ordering.eq h = (most-steady k n (omega arith), λ i. tt)
dimension-steady (shift k) n Ordering.gt h = (most-steady k n (omega arith), λ i. tt)
dimension-steady (subst k t) n Ordering.lt h = (less-steady n k h, λ i. tt)
dimension-steady (subst k t) n Ordering.eq h = tt
dimension-steady (subst k t) n Ordering.gt h = (less-steady k n h, λ i. tt)

literal-steady : (o : Op) (e : End) (n i : ℕ) → Steady (emit_literal o e n i)
literal-steady (shift k) e n i = tt
literal-steady (subst k t) e n i = (boundary-steady (dim_to (subst k t) n), λ l. tt)

pub faces-steady : (o : Op) (f : Face) → Steady (emit_faces o f)
unfolding emit_faces emit_intervals
faces-steady o ff = tt
faces-steady o ft = tt
faces-steady o (at e n) = (dimension-steady o n (compare n (place_of o)) (stands n (place_of o)), λ i. literal-steady o e n i)
faces-steady o (fand a b) = (faces-steady o a, λ i. (faces-steady o b, λ l. tt))
faces-steady o (for a b) = (faces-steady o a, λ i. (faces-steady o b, λ l. tt))
