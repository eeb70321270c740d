-- The least assignment of bytes, and entailment: there is one exactly where the entailment fails, so exactly where a call refuses by 9.
use Prim.Native.Nat.{ℕ, zero, suc, ◌≤◌, ◌<◌}
use mathlib.Core.Path.{◌≡◌, refl, sym, ◌∙◌, ap, ap₂, subst}
use mathlib.Core.Logic.{◌↔◌}
use mathlib.Core.Option.{some, some-injective}
use mathlib.Core.Bool.{Bool, true, false, true≢false, ◌&&◌, ◌||◌}
use mathlib.Core.List.{List, [], ◌∷◌}
use native.Mathlib.Omega.{arith}
use lib.ListN.{length, get_or}
use Rattle.formula.specs.Formula.{Face, ff, ft, at, fand, for, Val, v0, v1, vu, is, Assignment, holds, Entails}
use Rattle.formula.specs.declared.Sort.TheVariants.{Faces}
use Rattle.formula.specs.Bytes.{bound_face, read_all}
use Rattle.refusals.specs.declared.Refusal.TheVariants.{FullLedger, NotImplied}
use Rattle.calculus.specs.Judgement
use Rattle.calculus.specs.Judgement.{Step}
use Rattle.calculus.specs.Record.{number, formula}
use Rattle.calculus.specs.Parse.{read_ledger}
use Rattle.calculus.specs.Emit.{Outcome, within, run}
use Rattle.calculus.specs.Calls.{emit_entails}
use Rattle.calculus.specs.Door
use Rattle.calculus.specs.Door.{entails, item, Task, task_of, Reply, concluded, reply}
use Rattle.calculus.proofs.Verdicts.{Decides, holds-so, not-below-so, not-implied-so, no-room-so, entails-decides}
use Rattle.calculus.proofs.Doors.{Passage, turned, ran, passage, answer-no-refusal, NotRefusedTo7}
use Rattle.assignments.specs.Assignments.{assigned, value_of, Assigns, Refutes, Least}
use Rattle.assignments.proofs.Least.{Sought, least_at, never, sought}

-- The byte of a value.
abbrev pub byte_of : Val → ℕ
byte_of v0 = 0
byte_of v1 = 1
byte_of vu = 2

-- The bytes of the first d dimensions of an assignment.
unfoldable pub bytes_of : ℕ → Assignment → List ℕ
bytes_of zero σ = []
bytes_of (suc d) σ = byte_of (σ 0) ∷ bytes_of d (λ n. σ (suc n))

byte_low : (v : Val) → byte_of v ≤ 2
byte_low v0 = omega arith
byte_low v1 = omega arith
byte_low vu = omega arith

value-byte : (v : Val) → value_of (byte_of v) ≡ v
value-byte v0 = refl
value-byte v1 = refl
value-byte vu = refl

bytes-long : (d : ℕ) (σ : Assignment) → length (bytes_of d σ) ≡ d
unfolding bytes_of
bytes-long zero σ = refl
bytes-long (suc d) σ = ap suc (bytes-long d (λ n. σ (suc n)))

bytes-each : (d : ℕ) (σ : Assignment) (n : ℕ) → get_or (bytes_of d σ) n 2 ≤ 2
unfolding bytes_of
bytes-each zero σ n = omega arith
bytes-each (suc d) σ zero = byte_low (σ 0)
bytes-each (suc d) σ (suc n) = bytes-each d (λ k. σ (suc k)) n

-- They are an assignment of d dimensions.
pub bytes-assigns : (d : ℕ) (σ : Assignment) → Assigns d (bytes_of d σ)
bytes-assigns d σ = record { long = bytes-long d σ; each = bytes-each d σ }

-- The bytes say of a dimension below d what the assignment does.
pub bytes-at : (d : ℕ) (σ : Assignment) (n : ℕ) → n < d → assigned (bytes_of d σ) n ≡ σ n
unfolding bytes_of
bytes-at zero σ n h = absurd (omega arith)
bytes-at (suc d) σ zero h = value-byte (σ 0)
bytes-at (suc d) σ (suc n) h = bytes-at d (λ k. σ (suc k)) n (omega arith)

-- A face of which all dimensions are below d holds at the bytes exactly where it does at the assignment.
pub holds-bytes : (f : Face) (d : ℕ) (σ : Assignment) → bound_face f ≤ d → holds f (assigned (bytes_of d σ)) ≡ holds f σ
unfolding holds bound_face
holds-bytes ff d σ h = refl
holds-bytes ft d σ h = refl
holds-bytes (at e n) d σ h = ap (is e) (bytes-at d σ n h)
holds-bytes (fand a b) d σ h = ap₂ ◌&&◌ (holds-bytes a d σ (omega arith)) (holds-bytes b d σ (omega arith))
holds-bytes (for a b) d σ h = ap₂ ◌||◌ (holds-bytes a d σ (omega arith)) (holds-bytes b d σ (omega arith))

-- Where there is a least, the entailment fails.
pub least-refuted : {d : ℕ} {a b : Face} {l : List ℕ} → Least d a b l → Entails a b → ⊥
least-refuted {l} L e = true≢false (sym (e (assigned l) L.refutes.satisfied) ∙ L.refutes.missed)

-- Where no bytes refute, the entailment holds.
never-entails : (d : ℕ) (a b : Face) → bound_face a ≤ d → bound_face b ≤ d → ((l : List ℕ) → Refutes d a b l → ⊥) → Entails a b
never-entails d a b p q n σ h = go (holds b σ) refl
  where
    go : (t : Bool) → holds b σ ≡ t → holds b σ ≡ true
    go true e = e
    go false e = absurd (n (bytes_of d σ) (record { bytes = bytes-assigns d σ; satisfied = holds-bytes a d σ p ∙ h; missed = holds-bytes b d σ q ∙ e }))

-- Where the entailment fails, there is a least.
pub refuted-least : (d : ℕ) (a b : Face) → bound_face a ≤ d → bound_face b ≤ d → (Entails a b → ⊥) → (l : List ℕ) × Least d a b l
refuted-least d a b p q f = go (sought d a b)
  where
    go : Sought d a b → (l : List ℕ) × Least d a b l
    go (least_at l L) = (l, L)
    go (never n) = absurd (f (never-entails d a b p q n))

-- At the door ---------------------------------------------------------------------------------------

-- There is a least exactly where the call refuses by 9, by how its run ended.
ended-9 : (d : ℕ) (α β : Face) → bound_face α ≤ d → bound_face β ≤ d → (l : List ℕ) {o : Outcome} → Decides d α β o → NotRefusedTo7 (concluded l [] [] o).answer
    → ((m : List ℕ) × Least d α β m) ↔ ((concluded l [] [] o).answer ≡ Door.refused NotImplied)
ended-9 d α β p q l (holds-so t) u = (λ x. absurd (least-refuted x.1 t.implied), λ e. answer-no-refusal e)
ended-9 d α β p q l (not-below-so t) u = (λ x. absurd (t p q), λ e. absurd (t p q))
ended-9 d α β p q l (not-implied-so i j t) u = (λ x. refl, λ e. refuted-least d α β p q t)
ended-9 d α β p q l no-room-so u = absurd (omega (arith, u FullLedger refl))

-- An entails of faces below d that is not refused by 1 to 7 is refused by 9 exactly where there is a least assignment that satisfies the first and not the second.
pub least-when-9 : (d : ℕ) (a b : List ℕ) (α β : Face) → read_all Faces a ≡ some α → read_all Faces b ≡ some β → bound_face α ≤ d → bound_face β ≤ d
    → (l : List ℕ) (L : List Step) → read_ledger l ≡ some L → NotRefusedTo7 (reply (entails d a b) l).answer
    → ((m : List ℕ) × Least d α β m) ↔ ((reply (entails d a b) l).answer ≡ Door.refused NotImplied)
least-when-9 d a b α β i j p q l L e = go (passage (entails d a b) l L e)
  where
    task : Task
    task = record {
      operands = item number d ∷ item (formula Faces) α ∷ item (formula Faces) β ∷ [];
      results = [];
      own = Judgement.entails d α β;
      program = emit_entails d α β;
    }

    reads : task_of (entails d a b) ≡ some task
    reads = rw (i, j)

    Goal : Reply → Type 0
    Goal r = NotRefusedTo7 r.answer → ((m : List ℕ) × Least d α β m) ↔ (r.answer ≡ Door.refused NotImplied)

    go : {r : Reply} → Passage (entails d a b) l L r → Goal r
    go (turned x k) = λ u. absurd (omega (arith, u x refl))
    go (ran t f g v w) =
        subst (λ (t : Task). Goal (concluded l [] t.results (run (within (length l)) t.program L))) (some-injective task t (sym reads ∙ f))
        (ended-9 d α β p q l (entails-decides (within (length l)) d α β L))
