-- The faces that are left, behind those counted, end where the whole context does.
use Rattle.std.specs.Prelude.{◌≡◌, ◌≤◌, ◌-◌, length}
use Rattle.records.specs.Places.{faces_end}
use Rattle.records.proofs.FieldLaws.{faces_from}
use Rattle.records.proofs.fields.faces_end.Given as goal

abbrev pub invariant-loop : goal.invariant-loop
invariant-loop l = (faces_from l.s l.nodes l.bound l.e (l.n - l.counter) ≡ faces_end l.s l.at l.n) × (l.e ≤ length l.s) × (l.nodes ≤ l.e)
