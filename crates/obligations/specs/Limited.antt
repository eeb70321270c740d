-- Programs under the producer's limit of steps (`Producer::emit` of producer.rs).
use Rattle.std.specs.Prelude.{Bool, true, false, List, [], ◌∷◌, ◌++◌, ℕ, leb, length}
use Rattle.std.proofs.Math.Option.{Option, none, some}
use Rattle.calculus.specs.Judgement.{Step}
use Rattle.calculus.specs.Emit.{Failure, Program, stop, emit, ◌>>=◌, attempt, find}

-- The error that the Rust returns: a failure of document 01 (8, 9), depth or work beyond their limits (14), or the limit of steps (15).
pub data Error : Type 0 where
  failure : Failure → Error
  beyond-limits too-many-steps : Error

-- How a run ends: with the number of a step, or with an error, each with the steps then in the ledger; or the ledger has no room (7).
pub data Ending : Type 0 where
  reached : ℕ → List Step → Ending
  failed : Error → List Step → Ending
  crowded : Ending

-- What comes next after a run that reached its step.
abbrev pub onward : Ending → (ℕ → List Step → Ending) → Ending
onward (reached n L) k = k n L
onward (failed e L) k = failed e L
onward crowded k = crowded

-- The same, and what comes after an error: its steps stay. No room is no error.
abbrev pub either : Ending → (ℕ → List Step → Ending) → (List Step → Ending) → Ending
either (reached n L) k o = k n L
either (failed e L) k o = o L
either crowded k o = crowded

-- With this many steps nothing is appended.
abbrev pub max_steps : ℕ
max_steps = 50000

-- The step appended: first it is asked whether the ledger is at its limit of steps, then whether it has room.
abbrev pub appended : Bool → Bool → List Step → Step → Ending
appended true room L s = failed too-many-steps L
appended false true L s = reached (length L) (L ++ s ∷ [])
appended false false L s = crowded

-- The emit rule: the lowest step with the same judgement is the answer, else the step is appended.
abbrev pub emitted_to : (List Step → Bool) → List Step → Step → Option ℕ → Ending
emitted_to room L s (some n) = reached n L
emitted_to room L s none = appended (leb max_steps (length L)) (room (L ++ s ∷ [])) L s

-- The run of a program over the steps of a ledger.
unfoldable pub limited : (List Step → Bool) → Program → List Step → Ending
limited room (stop e) L = failed (failure e) L
limited room (emit k is j) L = emitted_to room L (record { kind = k; references = is; judgement = j }) (find j L)
limited room (p >>= q) L = onward (limited room p L) (λ n. limited room (q n))
limited room (attempt p q r) L = either (limited room p L) (λ n. limited room (q n)) (limited room r)
