-- Runs on a ledger that is lent with its index.
use Rattle.std.specs.Prelude.{◌≡◌, Result}
use Rattle.formula.specs.declared.Place.{Place}
use Rattle.calculus.specs.Emit.{Program}
use Rattle.steps.specs.declared.Stop.{Stop}
use Rattle.steps.specs.declared.Walked.{Walked}
use Rattle.steps.specs.declared.Paired.{Paired}
use Rattle.steps.specs.declared.producer.Producer.{Producer}
use Rattle.steps.specs.Running.{Book, Ran, Runs}
use Rattle.steps.specs.Walking.{Walks, WalksBoth}

-- The ledger and its index.
abbrev pub book_of : Producer → Book
book_of p = record { bytes = p.ledger.now; numbers = p.index.now }

-- The references stay the same.
pub record Lent (p p' : Producer) : Type 0 where
  pub ledger : p'.ledger.ghost_name ≡ p.ledger.ghost_name
  pub index : p'.index.ghost_name ≡ p.index.ghost_name

-- A program's run on a lent ledger.
pub record RunsFor (p : Producer) (w : Program) (r : Ran) (p' : Producer) : Type 0 where
  pub runs : Runs (book_of p) w r (book_of p')
  pub lent : Lent p p'

-- A program's run over a formula on a lent ledger.
pub record WalksFor (p : Producer) (w : Program) (q : Place) (r : Result Walked Stop) (p' : Producer) : Type 0 where
  pub walks : Walks (book_of p) w q r (book_of p')
  pub lent : Lent p p'

-- The same over a formula and its image beside it.
pub record WalksBothFor (p : Producer) (w : Program) (q i : Place) (r : Result Paired Stop) (p' : Producer) : Type 0 where
  pub walks : WalksBoth (book_of p) w q i r (book_of p')
  pub lent : Lent p p'
