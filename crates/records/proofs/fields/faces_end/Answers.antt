-- The faces that are left, behind those counted, end where the whole context does.
use Rattle.std.proofs.Common.{arith, ◌≡◌, ◌+◌, ◌-◌, ℕ, sym, ap, ap₂, ◌∙◌}
use native.Mathlib.Nat.{sub-zero}
use Rattle.formula.specs.declared.Sort.TheVariants.{Faces}
use Rattle.formula.specs.declared.Size.{Size}
use Rattle.records.proofs.PlaceLaws.{size_fits}
use Rattle.records.proofs.FieldLaws.{faces_from, faces-all, faces-turn, faces-none}
use Rattle.records.proofs.fields.faces_end.Goals as goal

pub loop-init : goal.loop-init
loop-init c = let a = c.args in (ap (faces_from a.s.now 0 0 a.at) (sub-zero a.n) ∙ faces-all a.s.now a.at a.n, c.requires, omega arith)

pub returns-in_default : goal.returns-in_default
returns-in_default c = let a = c.args in let l = c.loop in sym (sym l.invariant.0 ∙ faces-turn a.s.now l.nodes l.bound l.e (a.n - l.counter) l.invariant.1 (omega arith) (sym c.in_default.ensures))

pub overflow_add-e : goal.overflow_add-e
overflow_add-e c = let f = size_fits Faces c.args.s.now c.loop.e c.loop.invariant.1 _ (sym c.in-Ok.ensures) in omega arith

pub overflow_add-nodes : goal.overflow_add-nodes
overflow_add-nodes c = let f = size_fits Faces c.args.s.now c.loop.e c.loop.invariant.1 _ (sym c.in-Ok.ensures) in omega arith

pub loop-preserved : goal.loop-preserved
loop-preserved c = let a = c.args in let l = c.loop in let z : Size = c.in-Ok.z in
    let f = size_fits Faces a.s.now l.e l.invariant.1 z (sym c.in-Ok.ensures) in
    let k : a.n - (l.counter + 1) ≡ a.n - l.counter - 1 = omega arith in
    (ap₂ (λ (b n : ℕ). faces_from a.s.now (l.nodes + z.nodes) b (l.e + z.len) n) c.max-bound.ensures k ∙ sym (faces-turn a.s.now l.nodes l.bound l.e (a.n - l.counter) l.invariant.1 (omega arith) (sym c.in-Ok.ensures)) ∙ l.invariant.0, omega arith, omega arith)

pub returns-then-within : goal.returns-then-within
returns-then-within c = let a = c.args in let l = c.loop in sym (faces-none a.s.now l.nodes l.bound l.e (a.n - l.counter) l.invariant.1 (omega arith) (sym c.if-within.ensures)) ∙ l.invariant.0

pub returns : goal.returns
returns c = let a = c.args in let l = c.loop in sym (faces-none a.s.now l.nodes l.bound l.e (a.n - l.counter) l.invariant.1 (omega arith) (sym c.if-within.ensures)) ∙ l.invariant.0
