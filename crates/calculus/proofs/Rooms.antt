-- Question 7: a run is out of room exactly when the ledger that the Rust would leave does not fit.
use mathlib.Core.Path.{◌≡◌, refl, sym, ◌∙◌, ap}
use mathlib.Core.Bool.{Bool, true, false, true≢false}
use mathlib.Mathlib.Data.Bool.Basic.{eq-false_of_not-eq-true}
use mathlib.Core.Option.{Option, none, some}
use mathlib.Core.List.{List, [], ◌∷◌, ◌++◌}
use Prim.Native.Nat.{ℕ, ◌≤◌}
use native.Mathlib.Omega.{arith}
use borrow.Author.Tests.{leb-true, le-leb}
use lib.ListN.{length, length-append}
use Rattle.calculus.specs.Judgement.{Step}
use Rattle.calculus.specs.Record.{steps_bytes, size}
use Rattle.calculus.specs.Emit.{Failure, find, Outcome, done, stopped, full, unbounded, within, append, emitted, Program, stop, emit, ◌>>=◌, attempt, next, instead, run}
use Rattle.calculus.proofs.Records.{steps-append}
use Rattle.calculus.proofs.Growing.{Extends, extends-refl, extends-trans}

-- The outcome, provided that its steps have room.
abbrev pub if_room : Bool → Outcome → Outcome
if_room true o = o
if_room false o = full

abbrev pub fitted : (List Step → Bool) → Outcome → Outcome
fitted room (done n M) = if_room (room M) (done n M)
fitted room (stopped e M) = if_room (room M) (stopped e M)
fitted room full = full

-- The outcome leaves the steps M, which extend L.
pub data Remains (L : List Step) : Outcome → List Step → Type 0 where
  by-done : {n : ℕ} {M : List Step} → Extends L M → Remains L (done n M) M
  by-stopped : {e : Failure} {M : List Step} → Extends L M → Remains L (stopped e M) M

farther : {L M N : List Step} {o : Outcome} → Extends L M → Remains M o N → Remains L o N
farther x (by-done y) = by-done (extends-trans x y)
farther x (by-stopped y) = by-stopped (extends-trans x y)

-- Without bounds a run leaves steps.
pub record Left (L : List Step) (o : Outcome) : Type 0 where
  pub steps : List Step
  pub leaves : Remains L o steps

left-on : {L M : List Step} {o : Outcome} → Extends L M → Left M o → Left L o
left-on x l = record { steps = l.steps; leaves = farther x l.leaves }

next-left : {L : List Step} {o : Outcome} {k : ℕ → List Step → Outcome} {M : List Step} → Remains L o M → ((n : ℕ) (M : List Step) → Left M (k n M)) → Left L (next o k)
next-left (by-done {n} {M} x) h = left-on x (h n M)
next-left (by-stopped {M} x) h = record { steps = M; leaves = by-stopped x }

instead-left : {L : List Step} {o : Outcome} {k : ℕ → List Step → Outcome} {r : List Step → Outcome} {M : List Step} → Remains L o M
    → ((n : ℕ) (M : List Step) → Left M (k n M)) → ((M : List Step) → Left M (r M)) → Left L (instead o k r)
instead-left (by-done {n} {M} x) h g = left-on x (h n M)
instead-left (by-stopped {M} x) h g = left-on x (g M)

pub run-left : (p : Program) (L : List Step) → Left L (run unbounded p L)
unfolding run
run-left (stop e) L = record { steps = L; leaves = by-stopped (extends-refl L) }
run-left (emit k is j) L = go (find j L)
  where
    s : Step
    s = record { kind = k; references = is; judgement = j }

    go : (o : Option ℕ) → Left L (emitted unbounded L s o)
    go (some n) = record { steps = L; leaves = by-done (extends-refl L) }
    go none = record { steps = L ++ s ∷ []; leaves = by-done (record { more = s ∷ []; whole = refl }) }
run-left (p >>= q) L = next-left (run-left p L).leaves (λ n M. run-left (q n) M)
run-left (attempt p q r) L = instead-left (run-left p L).leaves (λ n M. run-left (q n) M) (λ M. run-left r M)

-- The outcome without bounds, and the one where there is room for some ledgers only.
data Fits (room : List Step → Bool) (L : List Step) : Outcome → Outcome → Type 0 where
  fits : {o : Outcome} {M : List Step} → Remains L o M → room M ≡ true → Fits room L o o
  over : {o : Outcome} {M : List Step} → Remains L o M → room M ≡ false → Fits room L o full

fits_on : {room : List Step → Bool} {L M : List Step} {o u : Outcome} → Extends L M → Fits room M o u → Fits room L o u
fits_on x (fits l h) = fits (farther x l) h
fits_on x (over l h) = over (farther x l) h

fits-fitted : {room : List Step → Bool} {L : List Step} {o u : Outcome} → Fits room L o u → u ≡ fitted room o
fits-fitted (fits (by-done x) h) = rw h
fits-fitted (fits (by-stopped x) h) = rw h
fits-fitted (over (by-done x) h) = rw h
fits-fitted (over (by-stopped x) h) = rw h

-- Room for a ledger is room for each that it extends.
module _ (room : List Step → Bool) (smaller : (L M : List Step) → Extends L M → room M ≡ true → room L ≡ true) where
  -- Once over, over for good.
  still : {L M N : List Step} {o : Outcome} → Extends L M → room M ≡ false → Remains M o N → Fits room L o full
  still {M} {N} x h (by-done y) = over (by-done (extends-trans x y)) (eq-false_of_not-eq-true (λ t. true≢false (sym (smaller M N y t) ∙ h)))
  still {M} {N} x h (by-stopped y) = over (by-stopped (extends-trans x y)) (eq-false_of_not-eq-true (λ t. true≢false (sym (smaller M N y t) ∙ h)))

  next_fits : {L : List Step} {o u : Outcome} {k l : ℕ → List Step → Outcome} → Fits room L o u → ((n : ℕ) (M : List Step) → Left M (k n M))
      → ((n : ℕ) (M : List Step) → room M ≡ true → Fits room M (k n M) (l n M)) → Fits room L (next o k) (next u l)
  next_fits (fits (by-done {n} {M} x) h) v w = fits_on x (w n M h)
  next_fits (fits (by-stopped x) h) v w = fits (by-stopped x) h
  next_fits (over (by-done {n} {M} x) h) v w = still x h (v n M).leaves
  next_fits (over (by-stopped x) h) v w = over (by-stopped x) h

  instead-fits : {L : List Step} {o u : Outcome} {k l : ℕ → List Step → Outcome} {r t : List Step → Outcome} → Fits room L o u → ((n : ℕ) (M : List Step) → Left M (k n M))
      → ((n : ℕ) (M : List Step) → room M ≡ true → Fits room M (k n M) (l n M))
      → ((M : List Step) → Left M (r M)) → ((M : List Step) → room M ≡ true → Fits room M (r M) (t M)) → Fits room L (instead o k r) (instead u l t)
  instead-fits (fits (by-done {n} {M} x) h) v w a b = fits_on x (w n M h)
  instead-fits (fits (by-stopped {M} x) h) v w a b = fits_on x (b M h)
  instead-fits (over (by-done {n} {M} x) h) v w a b = still x h (v n M).leaves
  instead-fits (over (by-stopped {M} x) h) v w a b = still x h (a M).leaves

  run_fits : (p : Program) (L : List Step) → room L ≡ true → Fits room L (run unbounded p L) (run room p L)
  unfolding run
  run_fits (stop e) L h = fits (by-stopped (extends-refl L)) h
  run_fits (emit k is j) L h = go (find j L)
    where
      s : Step
      s = record { kind = k; references = is; judgement = j }

      new : (b : Bool) → room (L ++ s ∷ []) ≡ b → Fits room L (append true L s) (append b L s)
      new true e = fits (by-done (record { more = s ∷ []; whole = refl })) e
      new false e = over (by-done (record { more = s ∷ []; whole = refl })) e

      go : (o : Option ℕ) → Fits room L (emitted unbounded L s o) (emitted room L s o)
      go (some n) = fits (by-done (extends-refl L)) h
      go none = new (room (L ++ s ∷ [])) refl
  run_fits (p >>= q) L h = next_fits (run_fits p L h) (λ n M. run-left (q n) M) (λ n M. run_fits (q n) M)
  run_fits (attempt p q r) L h = instead-fits (run_fits p L h) (λ n M. run-left (q n) M) (λ n M. run_fits (q n) M) (λ M. run-left r M) (λ M. run_fits r M)

-- A longer ledger takes more bytes.
pub size-extends : {L M : List Step} → Extends L M → size L ≤ size M
size-extends {L} x = omega (arith, ap (λ (N : List Step). length (steps_bytes N)) x.whole, ap length (steps-append L x.more), length-append (steps_bytes L) (steps_bytes x.more))

within-smaller : (n : ℕ) (L M : List Step) → Extends L M → within n M ≡ true → within n L ≡ true
within-smaller n L M x h = le-leb (size L) n (omega (arith, leb-true (size M) n h, size-extends x))

-- Question 7: a run over a ledger of n bytes is the run without bounds where the steps that that leaves fit, and else out of room.
pub question-7 : (n : ℕ) (p : Program) (L : List Step) → size L ≤ n → run (within n) p L ≡ fitted (within n) (run unbounded p L)
question-7 n p L h = fits-fitted (run_fits (within n) (within-smaller n) p L (le-leb (size L) n h))

-- What a run over a ledger of n bytes leaves fits.
pub data Bounded (n : ℕ) : Outcome → Type 0 where
  done-fits : {k : ℕ} {M : List Step} → size M ≤ n → Bounded n (done k M)
  stopped-fits : {e : Failure} {M : List Step} → size M ≤ n → Bounded n (stopped e M)
  no_room : Bounded n full

fits-bounded : {n : ℕ} {L : List Step} {o u : Outcome} → Fits (within n) L o u → Bounded n u
fits-bounded {n} (fits (by-done {M} x) h) = done-fits (leb-true (size M) n h)
fits-bounded {n} (fits (by-stopped {M} x) h) = stopped-fits (leb-true (size M) n h)
fits-bounded (over l h) = no_room

pub run-bounded : (n : ℕ) (p : Program) (L : List Step) → size L ≤ n → Bounded n (run (within n) p L)
run-bounded n p L h = fits-bounded (run_fits (within n) (within-smaller n) p L (le-leb (size L) n h))

-- Rooms that agree give the same runs ------------------------------------------------------------

module _ (room room₂ : List Step → Bool) (same : (M : List Step) → room M ≡ room₂ M) where
  next_agree : (o : Outcome) (k l : ℕ → List Step → Outcome) → ((n : ℕ) (M : List Step) → k n M ≡ l n M) → next o k ≡ next o l
  next_agree (done n M) k l h = h n M
  next_agree (stopped e M) k l h = refl
  next_agree full k l h = refl

  instead-agree : (o : Outcome) (k l : ℕ → List Step → Outcome) (i j : List Step → Outcome) → ((n : ℕ) (M : List Step) → k n M ≡ l n M) → ((M : List Step) → i M ≡ j M) → instead o k i ≡ instead o l j
  instead-agree (done n M) k l i j h g = h n M
  instead-agree (stopped e M) k l i j h g = g M
  instead-agree full k l i j h g = refl

  pub run_agree : (p : Program) (L : List Step) → run room p L ≡ run room₂ p L
  unfolding run
  run_agree (stop e) L = refl
  run_agree (emit k is j) L = go (find j L)
    where
      s : Step
      s = record { kind = k; references = is; judgement = j }

      go : (o : Option ℕ) → emitted room L s o ≡ emitted room₂ L s o
      go (some n) = refl
      go none = ap (λ (b : Bool). append b L s) (same (L ++ s ∷ []))
  run_agree (p >>= q) L = ap (λ (o : Outcome). next o (λ n. run room (q n))) (run_agree p L) ∙ next_agree (run room₂ p L) (λ n. run room (q n)) (λ n. run room₂ (q n)) (λ n M. run_agree (q n) M)
  run_agree (attempt p q r) L =
      ap (λ (o : Outcome). instead o (λ n. run room (q n)) (run room r)) (run_agree p L)
      ∙ instead-agree (run room₂ p L) (λ n. run room (q n)) (λ n. run room₂ (q n)) (run room r) (run room₂ r) (λ n M. run_agree (q n) M) (λ M. run_agree r M)
