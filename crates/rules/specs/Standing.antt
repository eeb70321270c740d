-- Judgements that stand in ranges of a ledger's bytes, and what it is to decide whether they follow.
use Rattle.std.specs.Prelude.{◌≡◌, Bool, true, false, List, [], ◌∷◌, ℕ, ◌≤◌, ◌<◌, length, get_or}
use Rattle.calculus.specs.Judgement.{Judgement}
use Rattle.calculus.specs.Rules.{Rule}
use Rattle.calculus.specs.Table.{predicate}
use Rattle.calculus.specs.Record.{fields, operands, operand_bytes, all_allowed}
use Rattle.kinds.specs.Kinds.{number_of}
use Rattle.rows.specs.Flattening.{part}
use Rattle.rules.specs.declared.Claim.{Claim}

-- The ranges of the claims lie in the bytes.
abbrev pub Lies : List ℕ → List Claim → Type 0
Lies l cs = (i : ℕ) (d : Claim) → i < length cs → ((get_or cs i d).from ≤ (get_or cs i d).to) × ((get_or cs i d).to ≤ length l)

-- The judgement stands in the claim's range, with its predicate number, and a ledger may hold it.
pub record JudgementIn (l : List ℕ) (c : Claim) (j : Judgement) : Type 0 where
  pub named : c.predicate ≡ number_of (predicate j)
  pub bytes : part l c.from c.to ≡ operand_bytes j
  pub limits : all_allowed (fields (predicate j)) (operands j) ≡ true

-- The claims are those of the judgements, in order.
abbrev pub AllStand : List ℕ → List Claim → List Judgement → Type 0
AllStand l [] [] = Unit {0}
AllStand l [] (j ∷ js) = ⊥
AllStand l (c ∷ cs) [] = ⊥
AllStand l (c ∷ cs) (j ∷ js) = JudgementIn l c j × AllStand l cs js

-- The answer says whether A holds.
abbrev pub Decides : Bool → Type 0 → Type 0
Decides true A = A
Decides false A = A → ⊥

-- The answer says whether the judgement of the first claim follows from those of the others by the rule of the kind, whichever judgements these are.
abbrev pub Ruled : List ℕ → ℕ → List Claim → Bool → Type 0
Ruled l kind cs r = (j : Judgement) (js : List Judgement) → AllStand l cs (j ∷ js) → Decides r (Rule kind js j)
