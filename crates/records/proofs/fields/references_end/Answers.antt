-- The references that are left end where all of them do.
use Rattle.std.proofs.Common.{arith, ◌≡◌, ◌+◌, ◌-◌, ℕ, drop, sym, ap, ◌∙◌}
use Rattle.calculus.specs.Parse.{read_references}
use Rattle.records.specs.Places.{ended}
use Rattle.records.proofs.FieldLaws.{references-short, references-late, references-turn, references-none}
use Rattle.records.proofs.fields.references_end.Goals as goal

pub returns-then-s-e-lt4 : goal.returns-then-s-e-lt4
returns-then-s-e-lt4 c = let a = c.args in let l = c.loop in sym (references-short a.i (a.n - l.counter) a.s.now l.e (omega arith) c.if-s-e-lt4.true) ∙ l.invariant.0

pub returns-then-i-get4 : goal.returns-then-i-get4
returns-then-i-get4 c = let a = c.args in let l = c.loop in sym (references-late a.i (a.n - l.counter) a.s.now l.e (omega arith) (omega arith) c.get4.ensures.0 c.if-i-get4.true) ∙ l.invariant.0

pub loop-preserved : goal.loop-preserved
loop-preserved c = let a = c.args in let l = c.loop in
    let k : a.n - (l.counter + 1) ≡ a.n - l.counter - 1 = omega arith in
    (ap (λ (n : ℕ). ended a.s.now (read_references a.i n (drop (l.e + 4) a.s.now))) k ∙ sym (references-turn a.i (a.n - l.counter) a.s.now l.e (omega arith) (omega arith) c.get4.ensures.0 c.if-i-get4.false) ∙ l.invariant.0, omega arith)

pub returns : goal.returns
returns c = let a = c.args in let l = c.loop in sym (references-none a.i (a.n - l.counter) a.s.now l.e (omega arith) l.invariant.1) ∙ l.invariant.0
