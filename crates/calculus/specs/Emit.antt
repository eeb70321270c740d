-- Programs that emit steps, and their run over a ledger (document 01, "Emit"; `Producer::emit` of the Rust).
use Rattle.std.specs.Prelude.{Bool, true, false, List, [], ◌∷◌, ◌++◌, ℕ, suc, leb, length}
use Rattle.std.proofs.Math.Option.{Option, none, some, map}
use Rattle.calculus.specs.Judgement.{Judgement, Step, same_judgement}
use Rattle.calculus.specs.Record.{size}

-- Why a call stops and leaves its steps: a dimension is not below d, or the implication does not hold.
pub data Failure : Type 0 where
  not-below not-implied : Failure

-- A program: stop, emit a step (kind, references, judgement) and answer its number, one program after another, or one and where it stops another in its place.
infixl 20 ◌>>=◌
pub data Program : Type 0 where
  stop : Failure → Program
  emit : ℕ → List ℕ → Judgement → Program
  ◌>>=◌ : Program → (ℕ → Program) → Program
  attempt : Program → (ℕ → Program) → Program → Program

-- How a run ends: done with a number, stopped with a failure, each with the steps then in the ledger, or out of room.
pub data Outcome : Type 0 where
  done : ℕ → List Step → Outcome
  stopped : Failure → List Step → Outcome
  full : Outcome

-- What comes next after a run that is done.
abbrev pub next : Outcome → (ℕ → List Step → Outcome) → Outcome
next (done n L) k = k n L
next (stopped e L) k = stopped e L
next full k = full

-- What comes next after a run that is done, and what after one that stopped: its steps stay.
abbrev pub instead : Outcome → (ℕ → List Step → Outcome) → (List Step → Outcome) → Outcome
instead (done n L) k o = k n L
instead (stopped e L) k o = o L
instead full k o = full

-- The first step if it is the one, else the place among the others.
abbrev pub here : {A : Type 0} → Dec A → Option ℕ → Option ℕ
here (yes e) p = some 0
here (no e) p = map (λ n. suc n) p

-- The number of the lowest step with this judgement.
unfoldable pub find : Judgement → List Step → Option ℕ
find j [] = none
find j (s ∷ L) = here (same_judgement s.judgement j) (find j L)

-- Is there room for these steps? The Rust always has it.
abbrev pub unbounded : List Step → Bool
unbounded L = true

-- A ledger of n bytes has room for steps that take at most n.
abbrev pub within : ℕ → List Step → Bool
within n L = leb (size L) n

-- The step appended, if there is room.
abbrev pub append : Bool → List Step → Step → Outcome
append true L s = done (length L) (L ++ s ∷ [])
append false L s = full

-- The emit rule: the lowest step with the same judgement is the answer, with or without room; else the step is appended.
abbrev pub emitted : (List Step → Bool) → List Step → Step → Option ℕ → Outcome
emitted room L s (some n) = done n L
emitted room L s none = append (room (L ++ s ∷ [])) L s

-- The run of a program over the steps of a ledger.
unfoldable pub run : (List Step → Bool) → Program → List Step → Outcome
run room (stop e) L = stopped e L
run room (emit k is j) L = emitted room L (record { kind = k; references = is; judgement = j }) (find j L)
run room (p >>= q) L = next (run room p L) (λ n. run room (q n))
run room (attempt p q r) L = instead (run room p L) (λ n. run room (q n)) (run room r)

-- What is in the ledger after a run and what comes next, or instead; out of room, what was in it then.
abbrev pub leaving : Outcome → (ℕ → List Step → List Step) → (List Step → List Step) → List Step → List Step
leaving (done n M) k o Z = k n M
leaving (stopped e M) k o Z = o M
leaving full k o Z = Z

-- The steps in the ledger when a run ends, also where it is out of room.
unfoldable pub left : (List Step → Bool) → Program → List Step → List Step
left room (stop e) L = L
left room (emit k is j) L = leaving (run room (emit k is j) L) (λ n M. M) (λ M. M) L
left room (p >>= q) L = leaving (run room p L) (λ n. left room (q n)) (λ M. M) (left room p L)
left room (attempt p q r) L = leaving (run room p L) (λ n. left room (q n)) (left room r) (left room p L)
