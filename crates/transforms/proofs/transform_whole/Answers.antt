use native.Mathlib.Omega.{arith}
use mathlib.Core.Path.{ap}
use lib.ListN.{length, length-append}
use mathlib.Core.List.{◌++◌}
use Rattle.steps.proofs.RunLaws.{emits-same, emits-kind}
use Rattle.steps.proofs.TreeLaws.{is-short}
use Rattle.transforms.proofs.TransformLaws.{place-of-shift, known-subst, shift-operands, subst-operands}
use Rattle.transforms.proofs.transform_whole.Goals as goal

pub number-requires : goal.number-requires
number-requires c = let a = c.args in
    omega (arith, place-of-shift a.t.now a.op _ c.in-DShift.is c.requires.4)

pub number-requires-in-DSubst : goal.number-requires-in-DSubst
number-requires-in-DSubst c = let a = c.args in
    omega (arith, (known-subst a.t.now a.op _ c.in-DSubst.is c.requires.4).0)

pub emit-requires-in-DSubst : goal.emit-requires-in-DSubst
emit-requires-in-DSubst c = let a = c.args in
    (c.requires.0, omega (arith, c.requires.2, c.requires.3, is-short (known-subst a.t.now a.op _ c.in-DSubst.is c.requires.4).1, ap length c.number-in-DSubst.ensures, length-append a.f.now (c.number-in-DSubst.result ++ (a.t.now ++ a.out.now)), length-append c.number-in-DSubst.result (a.t.now ++ a.out.now), length-append a.t.now a.out.now))

pub returns-in-DShift : goal.returns-in-DShift
returns-in-DShift c = let a = c.args in
    emits-kind c.transform_kind-kind.ensures (emits-same (shift-operands a.f.now a.t.now a.out.now _ a.op _ c.in-DShift.is c.number.ensures) c.emit.ensures)

pub returns-in-DSubst : goal.returns-in-DSubst
returns-in-DSubst c = let a = c.args in
    emits-kind c.transform_kind-kind.ensures (emits-same (subst-operands a.f.now a.t.now a.out.now _ a.op _ c.in-DSubst.is c.number-in-DSubst.ensures) c.emit-in-DSubst.ensures)
