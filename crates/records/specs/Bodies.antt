-- Whether bytes are the body of a record.
use Rattle.std.specs.Prelude.{Bool, true, false}
use Rattle.std.proofs.Math.Option.{Option, none, some}
use Rattle.formula.specs.Bytes.{Got, wholly}

-- Is there something?
abbrev pub is_some : {A : Type 0} → Option A → Bool
is_some none = false
is_some (some a) = true

-- Was something read, and all bytes with it?
abbrev pub readable : {A : Type 0} → Got A → Bool
readable g = is_some (wholly g)
