use native.Mathlib.Omega.{arith}
use mathlib.Core.Path.{ap}
use lib.ListN.{take}
use Rattle.clauses.specs.Words.{words}
use Rattle.dnf.proofs.FindLaws.{rest-long, rebuilt-long, rebuilt-front, rebuilt-rest, asks-inside, asks-literal, asks-left, leaf-finds, literal-finds, left-none, right-later, asks-right, right-none, node-asks, node-none, node-finds}
use Rattle.dnf.proofs.finding.+find.Goals as goal

pub bounds-f-at : goal.bounds-f-at
bounds-f-at t c = asks-inside c.args.f.now c.args.at c.requires.0

pub overflow_add-next : goal.overflow_add-next
overflow_add-next t c = omega (arith, asks-inside c.args.f.now c.args.at c.requires.0)

pub returns-then-kind-lt2-clause-finds : goal.returns-then-kind-lt2-clause-finds
returns-then-kind-lt2-clause-finds t c = let a = c.args in
    leaf-finds (words a.mask) a.numbers.now a.f.now a.at a.list.now c.if-kind-lt2.true c.from.ensures (omega (arith, c.requires.0.fits)) c.none.ensures

pub literal-requires : goal.literal-requires
literal-requires t c = (asks-literal c.args.f.now c.args.at c.requires.0 c.if-kind-lt2.false c.if-kind-lt4.true, c.if-kind-lt2.false)

pub returns-then-kind-lt4-clause-finds : goal.returns-then-kind-lt4-clause-finds
returns-then-kind-lt4-clause-finds t c = let a = c.args in
    literal-finds (words a.mask) a.numbers.now a.f.now a.at a.list.now c.if-kind-lt2.false c.if-kind-lt4.true c.literal.ensures (omega (arith, c.requires.0.fits))

pub find-requires : goal.find-requires
find-requires t c = (omega (arith, c.decreases, asks-inside c.args.f.now c.args.at c.requires.0), (asks-left c.args.f.now c.args.at c.requires.0 c.if-kind-lt4.false, c.requires.1))

pub returns-in_err-left-clause-finds : goal.returns-in_err-left-clause-finds
returns-in_err-left-clause-finds t c = let a = c.args in
    rw c.from_residual.ensures (left-none (words a.mask) a.numbers.now a.f.now a.at c.if-kind-lt4.false c.in_err-left.ensures.finds)

pub find-requires-2 : goal.find-requires-2
find-requires-2 t c =
    let a = c.args in
    let z = c.in_ok-left.left in
    let l = c.find.new.list in (
      omega (arith, c.decreases, asks-inside a.f.now a.at c.requires.0, right-later (words a.mask) a.numbers.now a.f.now a.at c.if-kind-lt4.false c.in_ok-left.ensures.finds c.requires.0),
      (asks-right (words a.mask) a.numbers.now a.f.now a.at c.if-kind-lt4.false c.in_ok-left.ensures.finds c.requires.0 (omega (arith, rest-long z.count l, c.find.auto.list)), omega (arith, c.requires.1, c.find.auto.sorted)),
    )

pub returns-in_err-right-clause-finds : goal.returns-in_err-right-clause-finds
returns-in_err-right-clause-finds t c = let a = c.args in
    rw c.from_residual-in_err-right.ensures (right-none (words a.mask) a.numbers.now a.f.now a.at c.if-kind-lt4.false c.in_ok-left.ensures.finds c.in_err-right.ensures.finds)

pub node-requires : goal.node-requires
node-requires t c =
    let a = c.args in
    let z = c.in_ok-left.left in
    let inside = c.in_ok-left.ensures.inside in
    let fits = node-asks (words a.mask) a.numbers.now a.f.now a.at c.if-kind-lt4.false c.in_ok-left.ensures.finds c.requires.0 c.in_ok-right.ensures.finds in
    (omega (arith, fits, rebuilt-long z.count c.find.new.list c.find-2.new.list inside c.find-2.auto.list, c.find.auto.list), omega (arith, c.requires.1, c.find.auto.sorted, c.find-2.auto.sorted))

pub returns-in_err-count-clause-finds : goal.returns-in_err-count-clause-finds
returns-in_err-count-clause-finds t c =
    let a = c.args in
    let z = c.in_ok-left.left in
    let inside = c.in_ok-left.ensures.inside in
    rw c.from_residual-in_err-count.ensures
    (node-none (words a.mask) a.numbers.now a.f.now a.at c.if-kind-lt4.false c.in_ok-left.ensures.finds _ c.in_ok-right.ensures.finds (rebuilt-front z.count c.find.new.list c.find-2.new.list inside) (ap (take c.in_ok-right.right.count) (rebuilt-rest z.count c.find.new.list c.find-2.new.list inside)) c.in_err-count.ensures)

pub returns-clause-inside : goal.returns-clause-inside
returns-clause-inside t c = c.in_ok-count.ensures.told.0

pub returns-clause-finds : goal.returns-clause-finds
returns-clause-finds t c =
    let a = c.args in
    let z = c.in_ok-left.left in
    let inside = c.in_ok-left.ensures.inside in
    node-finds (words a.mask) a.numbers.now a.f.now a.at c.if-kind-lt4.false c.in_ok-left.ensures.finds _ c.in_ok-right.ensures.finds (rebuilt-front z.count c.find.new.list c.find-2.new.list inside) (ap (take c.in_ok-right.right.count) (rebuilt-rest z.count c.find.new.list c.find-2.new.list inside)) c.in_ok-count.ensures
