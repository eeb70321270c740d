-- The kinds of the rules for forall.
use Rattle.std.specs.Prelude.{ℕ, ◌+◌, ltb, eqb}
use Rattle.formula.specs.Answers.{pick}

-- The kinds of the rules for forall by the kind byte, of a literal the first of its three.
abbrev pub forall_kind : ℕ → ℕ
forall_kind b = pick (ltb b 3) (b + 39) (pick (eqb b 3) 44 (b + 43))
