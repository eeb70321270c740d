use native.Mathlib.Omega.{arith}
use mathlib.Core.Path.{◌≡◌, sym, subst, ap, ◌∙◌}
use Rattle.std.specs.Option.{unwrap_or}
use Rattle.needs.specs.Weighing.{Weighed, conjoined}
use lib.ListN.{get_or}
use Rattle.needs.proofs.PlaceLaws.{stands-inside, second-behind}
use Rattle.needs.proofs.WeighLaws.{leaf-weighed, first-asks, second-asks, parts-small, conjoined-weighed, lighter-weighed}
use Rattle.needs.proofs.weights.+weigh.Goals as goal

pub bounds-f-at : goal.bounds-f-at
bounds-f-at t c = stands-inside c.requires.stands

pub overflow_add-next : goal.overflow_add-next
overflow_add-next t c = omega (arith, stands-inside c.requires.stands)

pub returns-in-0-to-1 : goal.returns-in-0-to-1
returns-in-0-to-1 t c = subst (Weighed c.args.f.now.face.now c.args.at c.args.state.now) (sym c.constant.ensures) (leaf-weighed c.args.f.now.face.now c.args.at c.args.state.now (omega arith))

pub weigh-x-requires : goal.weigh-x-requires
weigh-x-requires t c = (omega (arith, c.decreases, stands-inside c.requires.stands), first-asks c.requires (omega arith))

pub weigh-y-requires : goal.weigh-y-requires
weigh-y-requires t c = (omega (arith, c.decreases, stands-inside c.requires.stands, second-behind c.requires.stands (omega arith) c.weigh-x.ensures.ends), second-asks c.requires (omega arith) c.weigh-x.ensures.ends)

pub conjoined-requires : goal.conjoined-requires
conjoined-requires t c = parts-small c.args.f.now.face.now c.args.at c.args.state.now (omega arith) c.weigh-x.ensures c.weigh-y.ensures c.requires

pub returns-then-kind-eq4 : goal.returns-then-kind-eq4
returns-then-kind-eq4 t c =
    let read : c.unwrap_or.result ≡ get_or c.args.f.now.marks.now c.args.at 0 = c.unwrap_or.ensures ∙ ap (λ o. unwrap_or o 0) c.copied.ensures ∙ c.get.ensures.lookup.4 (omega arith) 0 in
    subst (Weighed c.args.f.now.face.now c.args.at c.args.state.now) (ap (λ m. conjoined m c.weigh-x.result c.weigh-y.result) (sym read) ∙ sym c.conjoined.ensures)
    (conjoined-weighed c.args.f.now.face.now c.args.at c.args.state.now (omega arith) c.weigh-x.ensures c.weigh-y.ensures c.if-kind-eq4.true c.args.f.now.right)

pub returns-else-kind-eq4 : goal.returns-else-kind-eq4
returns-else-kind-eq4 t c = subst (Weighed c.args.f.now.face.now c.args.at c.args.state.now) (sym c.lighter.ensures) (lighter-weighed c.args.f.now.face.now c.args.at c.args.state.now (omega arith) c.weigh-x.ensures c.weigh-y.ensures c.if-kind-eq4.false)
