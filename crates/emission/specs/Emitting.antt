-- What the functions that write to a ledger's bytes answer and leave: a step more, the emit rule, going back.
use Rattle.std.specs.Prelude.{◌≡◌, List, [], ◌∷◌, ◌++◌, ℕ, ◌≤◌, ◌<◌, length, take, Option, Some, None, IfSome}
use Rattle.calculus.specs.Judgement.{Step}
use Rattle.calculus.specs.Table.{predicate}
use Rattle.calculus.specs.Record.{little_endian, operand_bytes, references_bytes, size, ledger_bytes, FormedStep, Holds}
use Rattle.calculus.specs.Emit.{Outcome, done, stopped, full, emit, within, run}
use Rattle.kinds.specs.Kinds.{number_of}
use Rattle.ledger.specs.Ledger.{steps_of}
use Rattle.index.specs.Index.{Indexed}

-- The bytes stand for the step.
pub record StandsFor (s : Step) (kind : ℕ) (references operands : List ℕ) : Type 0 where
  pub kinds : s.kind ≡ kind
  pub refers : s.references ≡ references
  pub judges : operand_bytes s.judgement ≡ operands

-- For a private contract: the record of a kind with these references and operands.
unfoldable pub raw_record : ℕ → List ℕ → List ℕ → List ℕ
raw_record kind references operands =
    let body = little_endian 2 kind ++ (references_bytes references ++ operands) in
    little_endian 4 (length body) ++ body

-- One step more where there is room, else all bytes as they were.
abbrev pub Appends : List ℕ → Step → Option ℕ → List ℕ → Type 0
Appends l s (Some at) l' = (size (steps_of l ++ s ∷ []) ≤ length l) × (l' ≡ ledger_bytes (length l) (steps_of l ++ s ∷ []))
Appends l s None l' = (length l < size (steps_of l ++ s ∷ [])) × (l' ≡ l)

-- The same for every step that the bytes stand for; where there is room, the answer is where the records ended.
abbrev pub Appended : List ℕ → ℕ → List ℕ → List ℕ → Option ℕ → List ℕ → Type 0
Appended l kind references operands r l' = IfSome r (λ at. at ≡ size (steps_of l)) × ((s : Step) → StandsFor s kind references operands → Appends l s r l')

-- Back to the first steps.
abbrev pub Undone : List ℕ → ℕ → List ℕ → Type 0
Undone l end l' = (L T : List Step) → steps_of l ≡ L ++ T → end ≡ size L → l' ≡ ledger_bytes (length l) L

-- An answer and what it leaves are those of an outcome, in a ledger that was l.
abbrev pub Ran : List ℕ → Outcome → Option ℕ → List ℕ → Type 0
Ran l (done n L) (Some m) l' = (m ≡ n) × (length l' ≡ length l) × Holds l' L
Ran l (done n L) None l' = ⊥
Ran l (stopped e L) r l' = ⊥
Ran l full (Some m) l' = ⊥
Ran l full None l' = l' ≡ l

-- The emit rule for every step that the bytes stand for.
abbrev pub Emission : List ℕ → ℕ → List ℕ → List ℕ → Option ℕ → List ℕ → Type 0
Emission l kind references operands r l' =
    (s : Step) → FormedStep (length (steps_of l)) s → StandsFor s kind (take (length s.references) references) operands
    → Ran l (run (within (length l)) (emit s.kind s.references s.judgement) (steps_of l)) r l'

-- For a private contract: the same where the predicate's number is known.
abbrev pub EmissionAs : List ℕ → ℕ → List ℕ → ℕ → List ℕ → Option ℕ → List ℕ → Type 0
EmissionAs l kind references p operands r l' =
    (s : Step) → FormedStep (length (steps_of l)) s → StandsFor s kind references operands → number_of (predicate s.judgement) ≡ p
    → Ran l (run (within (length l)) (emit s.kind s.references s.judgement) (steps_of l)) r l'

-- The index is kept for every step that the bytes stand for.
abbrev pub Keeps : List ℕ → ℕ → List ℕ → List ℕ → List ℕ → List ℕ → Type 0
Keeps l kind references operands l' x' =
    (s : Step) → FormedStep (length (steps_of l)) s → StandsFor s kind (take (length s.references) references) operands → Indexed l' x'

-- For a private contract: the same where the predicate's number is known.
abbrev pub KeepsAs : List ℕ → ℕ → List ℕ → ℕ → List ℕ → List ℕ → List ℕ → Type 0
KeepsAs l kind references p operands l' x' =
    (s : Step) → FormedStep (length (steps_of l)) s → StandsFor s kind references operands → number_of (predicate s.judgement) ≡ p → Indexed l' x'
