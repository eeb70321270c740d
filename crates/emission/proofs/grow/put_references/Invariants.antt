use Rattle.std.specs.Prelude.{◌≡◌, take}
use Rattle.std.proofs.lemmas.List.Edits.{sets}
use Rattle.calculus.specs.Record.{references_bytes}
use Rattle.emission.proofs.grow.put_references.Given as goal

abbrev pub invariant-loop-j : goal.invariant-loop-j
invariant-loop-j l = l.l ≡ sets l.initial.l l.at (references_bytes (take l.j l.references))
