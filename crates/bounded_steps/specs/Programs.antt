-- The judgements face and interval, once over the sort.
use Rattle.std.specs.Prelude.{ℕ, ◌+◌, ◌-◌}
use Rattle.formula.specs.declared.Sort.{Sort}
use Rattle.formula.specs.declared.Sort.TheVariants.{Faces, Intervals}
use Rattle.formula.specs.Bytes.{Tree}
use Rattle.calculus.specs.Judgement.{Judgement, face, interval}
use Rattle.calculus.specs.Emit.{Program}
use Rattle.calculus.specs.Calls.{emit_face, emit_interval}

-- The judgement that all dimensions of a formula are below d, and its program.
abbrev pub bounded : (s : Sort) → ℕ → Tree s → Judgement
bounded Faces d f = face d f
bounded Intervals d r = interval d r

abbrev pub emit_bounded : (s : Sort) → ℕ → Tree s → Program
emit_bounded Faces d f = emit_face d f
emit_bounded Intervals d r = emit_interval d r

-- The kinds of the rules for face and interval follow the formulas' kind bytes.
abbrev pub bounded_kind : Sort → ℕ → ℕ
bounded_kind Faces b = b + 11
bounded_kind Intervals b = b - 11
