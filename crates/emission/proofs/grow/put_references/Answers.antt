use Rattle.std.proofs.Common.{arith, refl, ◌+◌, ◌*◌, ℕ, List, get_or, ap, ◌∙◌}
use Rattle.std.proofs.lemmas.List.Edits.{sets}
use lib.Seq.{take_all}
use Rattle.calculus.specs.Record.{references_bytes, little_endian}
use Rattle.emission.proofs.GrowLaws.{references-more}
use Rattle.emission.proofs.grow.put_references.Goals as goal

pub loop-j-init : goal.loop-j-init
unfolding references_bytes
loop-j-init c = refl

pub loop-j-preserved : goal.loop-j-preserved
loop-j-preserved c = let a = c.args in
    let is : List ℕ = a.references.now in
    c.put4.ensures ∙ ap (λ (d : List ℕ). sets d (a.at + 4 * c.loop-j.j) (little_endian 4 (get_or is c.loop-j.j 0))) c.loop-j.invariant ∙ references-more a.l.now a.at is c.loop-j.j c.loop-j-test.true

pub returns : goal.returns
returns c = let a = c.args in c.loop-j.invariant ∙ ap (λ (is : List ℕ). sets a.l.now a.at (references_bytes is)) (take_all c.loop-j.j a.references.now (omega arith))
