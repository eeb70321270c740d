-- Runs on a lent ledger.
use mathlib.Core.Path.{refl, ◌∙◌}
use Rattle.steps.specs.declared.producer.Producer.{Producer}
use Rattle.steps.specs.Running.{Kept}
use Rattle.steps.specs.Producing.{book_of, Lent}

-- The index of a lent ledger is its own.
pub kept-of : (p : Producer) → Kept (book_of p)
kept-of p = p.indexed

pub lent-same : {p : Producer} → Lent p p
lent-same = record { ledger = refl; index = refl }

-- One call after another.
pub lent-on : {p p₁ p₂ : Producer} → Lent p p₁ → Lent p₁ p₂ → Lent p p₂
lent-on h k = record { ledger = k.ledger ∙ h.ledger; index = k.index ∙ h.index }
