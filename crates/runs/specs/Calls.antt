-- For private contracts: calls that share their code.
use Rattle.std.specs.Prelude.{List, ℕ}
use Rattle.formula.specs.declared.Sort.{Sort}
use Rattle.formula.specs.declared.Sort.TheVariants.{Faces, Intervals}
use Rattle.calculus.specs.Door
use Rattle.calculus.specs.Door.{Call}

-- face and interval, by the sort.
abbrev pub bounded_call : Sort → ℕ → List ℕ → Call
bounded_call Faces d f = Door.face d f
bounded_call Intervals d r = Door.interval d r
